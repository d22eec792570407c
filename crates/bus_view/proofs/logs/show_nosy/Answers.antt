use Rattle.std.proofs.Common.{◌≡◌, ℕ, Bool, List, Option, Some, None, Result, Ok, Err, sym, subst}
use Rattle.std.specs.Prelude.{IfSome, IfOk}
use Rattle.std.specs.Io.KnownBytes.{Appends, IsAtEnd}
use Rattle.reset_list.specs.declared.form.LogForm.{LogForm}
use Rattle.reset_list.specs.declared.stop.LogStop.{LogStop}
use Rattle.nosy_dump.specs.Dump.{IsDumpShown, IsDumpWritten, IsBegun}
use Rattle.bus_view.specs.Log.{IsDumpView, ShowsAsItComes}
use Rattle.bus_json.specs.Lines.{WritesJsonLines}
use Rattle.bus_view.proofs.Shown.{answered, answered_well, shows}
use Rattle.bus_view.proofs.ReadBack.{shown_so}
use Rattle.bus_view.proofs.logs.show_nosy.Goals as goal

written : (form : LogForm) (r : Result Bool LogStop) (left old new : Option (List ℕ)) →
    IfOk r (λ bad. IfSome left (λ dump. IsDumpWritten form old new dump bad)) →
    IfOk r (λ bad. IfSome left (λ dump. (text : List ℕ) × IsDumpShown form dump text bad × Appends old new text))
written form (Ok bad) None old new ok = tt
written form (Ok bad) (Some dump) old new ok = (ok.text, ok.is_shown, ok.wrote)
written form (Err stop) left old new ok = tt

pub returns-clause-shown : goal.returns-clause-shown
returns-clause-shown g c =
    let is = c.show_dump.ensures in
    let r = c.show_dump.result in
    let left = g.S.Source.left in
    let source = c.args.source.now in
    let read = c.show_dump.new.source in
    let sink = c.args.sink.now in
    let wrote = c.show_dump.new.sink in
    subst (λ (s : ℕ). ShowsAsItComes left g.S.Source.faults g.K.Sink.written g.K.Sink.faults g.K.Sink.surely_takes (s ≡ 0)
    (IsDumpView c.args.form) (IsBegun c.args.form) s source read sink wrote) (sym c.status_shown.ensures)
    (shows left g.S.Source.faults g.K.Sink.written g.K.Sink.faults g.K.Sink.surely_takes _ (λ bytes. IsDumpShown c.args.form bytes) (IsBegun c.args.form) r source read sink wrote
    record {
      shown = written c.args.form r (left source) (g.K.Sink.written sink) (g.K.Sink.written wrote) is.shown;
      end = answered_well r (IsAtEnd (left read)) is.end;
      read_fault = is.read_fault;
      write_fault = is.write_fault;
      long = is.long;
      waits = λ e. let w = is.waits e in (w.0, w.2.text, w.1, w.2.is_shown, w.2.wrote);
      part = is.part;
      exact = is.exact;
      complete = is.complete;
      sure = is.sure;
      some = c.dumps_have_one_text.ensures.some c.args.form;
      fit = g.met.S.Source.fit source;
    })

pub returns-clause-json : goal.returns-clause-json
returns-clause-json g c = λ standard e which.
    let r = c.show_dump.result in
    let lines = WritesJsonLines (g.K.Sink.written c.args.sink.now) (g.K.Sink.written c.show_dump.new.sink) in
    answered r lines (shown_so r lines (c.show_dump.ensures.json standard e)) (rw c.status_shown.ensures at which)
