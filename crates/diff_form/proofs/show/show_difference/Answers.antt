use Rattle.std.proofs.Common.{length, arith}
use Rattle.diff_form.specs.declared.outcome.Side.TheVariants.{Old, New}
use Rattle.diff_form.proofs.Written.{OneReading, exactly, surely, not_too_long}
use Rattle.diff_form.proofs.show.show_difference.Goals as goal

pub returns-in-Ok-write_whole-clause-exact : goal.returns-in-Ok-write_whole-clause-exact
returns-in-Ok-write_whole-clause-exact g c =
    let one : OneReading = record { tree = c.one_reading.ensures.tree; apart = c.one_reading.ensures.apart; fault = c.one_reading.ensures.fault } in
    exactly one _ _ _ _ _ _ _ _ _ _ c.in-Ok.ensures.all c.in-Ok-read_all.ensures.all
    (rw (c.deref.ensures.value, c.deref-2.ensures.value) at c.in-Ok-difference_of.ensures)
    (rw c.deref-3.ensures.value at c.in-Ok-write_whole.ensures.ok)

pub returns-in-Ok-write_whole-clause-sure : goal.returns-in-Ok-write_whole-clause-sure
returns-in-Ok-write_whole-clause-sure g c =
    surely _ _ _ _ _ _ _ _ _ (g.K.Sink.surely_takes c.args.sink.now) _ c.in-Ok.ensures.all c.in-Ok-read_all.ensures.all
    (rw (c.deref.ensures.value, c.deref-2.ensures.value) at c.in-Ok-difference_of.ensures)
    (λ takes. ((rw c.deref-3.ensures.value at c.in-Ok-write_whole.ensures.sure) (length c.in-Ok-difference_of.found.text.items) (omega arith) takes).2)

pub returns-clause-too_long : goal.returns-clause-too_long
returns-clause-too_long g c = not_too_long _ Old _ _ c.in-Ok.ensures.long

pub returns-clause-new_too_long : goal.returns-clause-new_too_long
returns-clause-new_too_long g c = not_too_long _ New _ _ c.in-Ok-read_all.ensures.long

pub returns-clause-sure : goal.returns-clause-sure
returns-clause-sure g c =
    surely _ _ _ _ _ _ _ _ _ (g.K.Sink.surely_takes c.args.sink.now) _ c.in-Ok.ensures.all c.in-Ok-read_all.ensures.all
    (rw (c.deref.ensures.value, c.deref-2.ensures.value) at c.in-Ok-difference_of.ensures)
    (λ takes. ((rw c.deref-3.ensures.value at c.in-Err-write_whole.ensures.sure) (length c.in-Ok-difference_of.found.text.items) (omega arith) takes).2)
