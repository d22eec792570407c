use Rattle.std.proofs.Common.{inl, refl}
use Rattle.reset_log.proofs.Reading.{ended, ended_line, is_none, is_some}
use Rattle.reset_list.proofs.Lemmas.{on_err}
use Rattle.reset_log.proofs.Fronts.{broke_last, broke_line}
use Rattle.reset_log.proofs.InJson.{written_none, written_gathered}
use Rattle.reset_log.proofs.log.LogReader.show_last.Goals as goal

pub returns-then-is_empty-clause-ok : goal.returns-then-is_empty-clause-ok
returns-then-is_empty-clause-ok g c = λ done start st.
    ended c.args.self.now done start c.args.sink.now st
    (is_none _ _ _ c.is_empty.ensures c.if-is_empty.true c.args.self.now.line.ok.0)

pub returns-clause-ok : goal.returns-clause-ok
returns-clause-ok g c = λ done start st.
    ended_line c.args.self.now c.show.new.self done c.show.new.out.items start c.args.sink.now c.put.new.sink st
    (rw c.new-out.ensures.items at c.in_ok-show.ensures.ok) (rw c.deref.ensures.value at c.in_ok-put.ensures.ok)
    (is_some _ _ _ c.is_empty.ensures c.if-is_empty.false c.args.self.now.line.ok.0)

pub returns-in_err-show-clause-part : goal.returns-in_err-show-clause-part
returns-in_err-show-clause-part g c =
    on_err c.from_residual.result _ (λ done start st.
    broke_last c.args.self.now done start c.args.sink.now c.args.sink.now st (inl refl)
    (is_some _ _ _ c.is_empty.ensures c.if-is_empty.false c.args.self.now.line.ok.0))

pub returns-in_err-put-clause-part : goal.returns-in_err-put-clause-part
returns-in_err-put-clause-part g c =
    on_err c.from_residual-in_err-put.result _ (λ done start st.
    broke_last c.args.self.now done start c.args.sink.now c.put.new.sink st
    (broke_line c.args.self.now c.show.new.self c.show.new.out.items c.args.sink.now c.put.new.sink
    (rw c.new-out.ensures.items at c.in_ok-show.ensures.ok) (rw c.deref.ensures.value at c.in_err-put.ensures.part))
    (is_some _ _ _ c.is_empty.ensures c.if-is_empty.false c.args.self.now.line.ok.0))

pub returns-then-is_empty-clause-json : goal.returns-then-is_empty-clause-json
returns-then-is_empty-clause-json g c = written_none c.args.self.now.form (g.K.Sink.written c.args.sink.now)

pub returns-clause-json : goal.returns-clause-json
returns-clause-json g c =
    let whole = rw c.deref.ensures.value at c.in_ok-put.ensures.ok in
    written_gathered c.args.self.now.form _ _ c.new-out.result.items c.show.new.out.items c.new-out.ensures.items
    c.in_ok-show.ensures.json whole.appended
