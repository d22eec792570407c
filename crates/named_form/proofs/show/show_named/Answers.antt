use Rattle.std.proofs.Common.{length, arith}
use Rattle.named_form.specs.declared.outcome.Input.TheVariants.{Names, Capture}
use Rattle.diff_form.proofs.Lemmas.{OneReading}
use Rattle.named_form.proofs.Written.{exactly, surely, not_too_long, as_dot}
use Rattle.named_form.proofs.show.show_named.Goals as goal

pub returns-in-Ok-write_whole-clause-exact : goal.returns-in-Ok-write_whole-clause-exact
returns-in-Ok-write_whole-clause-exact g c =
    let one : OneReading = record { tree = c.one_reading.ensures.tree; apart = c.one_reading.ensures.apart; fault = c.one_reading.ensures.fault } in
    exactly one _ _ _ _ _ _ _ _ c.in-Ok.ensures.all c.in-Ok-read_all.ensures.all
    (rw (c.deref.ensures.value, c.deref-2.ensures.value) at c.in-Ok-shown_of.ensures)
    (rw c.deref-3.ensures.value at c.in-Ok-write_whole.ensures.ok)

pub returns-in-Ok-write_whole-clause-dot : goal.returns-in-Ok-write_whole-clause-dot
returns-in-Ok-write_whole-clause-dot g c = λ standard e o.
    let dot = as_dot c.named_graphs_are_dot.ensures _ standard _ _ _ _ e o
    (rw (c.deref.ensures.value, c.deref-2.ensures.value) at c.in-Ok-shown_of.ensures) in (
      _,
      dot.0,
      _,
      c.in-Ok-read_all.ensures.all,
      dot.1,
      dot.2,
      rw c.deref-3.ensures.value at c.in-Ok-write_whole.ensures.ok,
    )

pub returns-in-Ok-write_whole-clause-sure : goal.returns-in-Ok-write_whole-clause-sure
returns-in-Ok-write_whole-clause-sure g c =
    surely _ _ _ _ _ _ _ (g.K.Sink.surely_takes c.args.sink.now) _ c.in-Ok.ensures.all c.in-Ok-read_all.ensures.all
    (rw (c.deref.ensures.value, c.deref-2.ensures.value) at c.in-Ok-shown_of.ensures)
    (λ takes. ((rw c.deref-3.ensures.value at c.in-Ok-write_whole.ensures.sure) (length c.in-Ok-shown_of.shown.text.items) (omega arith) takes).2)

pub returns-clause-names_too_long : goal.returns-clause-names_too_long
returns-clause-names_too_long g c = not_too_long _ Names _ _ c.in-Ok.ensures.long

pub returns-clause-too_long : goal.returns-clause-too_long
returns-clause-too_long g c = not_too_long _ Capture _ _ c.in-Ok-read_all.ensures.long

pub returns-clause-sure : goal.returns-clause-sure
returns-clause-sure g c =
    surely _ _ _ _ _ _ _ (g.K.Sink.surely_takes c.args.sink.now) _ c.in-Ok.ensures.all c.in-Ok-read_all.ensures.all
    (rw (c.deref.ensures.value, c.deref-2.ensures.value) at c.in-Ok-shown_of.ensures)
    (λ takes. ((rw c.deref-3.ensures.value at c.in-Err-write_whole.ensures.sure) (length c.in-Ok-shown_of.shown.text.items) (omega arith) takes).2)
