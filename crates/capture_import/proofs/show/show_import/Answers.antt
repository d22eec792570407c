use Rattle.capture_import.proofs.Exact.{OneImport, exact, no_answer}
use Rattle.capture_import.proofs.Stopped.{answered, not_too_long}
use Rattle.capture_import.proofs.show.show_import.Goals as goal

pub returns-in-Ok-write_whole-clause-too_long : goal.returns-in-Ok-write_whole-clause-too_long
returns-in-Ok-write_whole-clause-too_long g c = answered _ _ _ _ c.in-Ok.ensures.long

pub returns-clause-too_long : goal.returns-clause-too_long
returns-clause-too_long g c = not_too_long _ _ _ c.in-Ok.ensures.long

pub returns-in-Ok-write_whole-clause-exact : goal.returns-in-Ok-write_whole-clause-exact
returns-in-Ok-write_whole-clause-exact g c =
    let law : OneImport = record {
      list = c.one_import.ensures.list;
      apart = c.one_import.ensures.apart;
      fault = c.one_import.ensures.fault;
    } in
    let is = rw c.deref.ensures.value at c.in-Ok-import_of.ensures in
    let wrote = rw c.deref-2.ensures.value at c.in-Ok-write_whole.ensures.ok in
    exact law (g.S.Source.left c.args.source.now) (g.K.Sink.written c.args.sink.now)
    (g.K.Sink.written c.write_whole.new.sink) c.in-Ok.bytes.items
    c.in-Ok-import_of.import.text.items c.in-Ok-import_of.import.outcome c.in-Ok.ensures.all is wrote

pub returns-clause-exact : goal.returns-clause-exact
returns-clause-exact g c = no_answer (g.S.Source.left c.args.source.now)
