use Rattle.log_import.proofs.Exact.{exact}
use Rattle.log_import.proofs.Stopped.{answered, not_too_long}
use Rattle.log_import.proofs.show.show_reset.Goals as goal

pub returns-in-Ok-write_whole-clause-too_long : goal.returns-in-Ok-write_whole-clause-too_long
returns-in-Ok-write_whole-clause-too_long g c = answered _ _ _ _ c.in-Ok.ensures.long

pub returns-clause-too_long : goal.returns-clause-too_long
returns-clause-too_long g c = not_too_long _ _ _ c.in-Ok.ensures.long

pub returns-in-Ok-write_whole-clause-exact : goal.returns-in-Ok-write_whole-clause-exact
returns-in-Ok-write_whole-clause-exact g c =
    let is = rw c.deref.ensures.value at c.in-Ok-reset_import.ensures in
    let wrote = rw c.deref-2.ensures.value at c.in-Ok-write_whole.ensures.ok in
    exact c.one_reset.ensures c.args.wanted (g.S.Source.left c.args.source.now) (g.K.Sink.written c.args.sink.now)
    (g.K.Sink.written c.write_whole.new.sink) c.in-Ok.bytes.items c.in-Ok-reset_import.import.text.items
    c.in-Ok-reset_import.import.outcome c.in-Ok.ensures.all is wrote
