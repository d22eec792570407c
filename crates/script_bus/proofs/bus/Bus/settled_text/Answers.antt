use Rattle.std.proofs.Common.{◌++◌, ◌∙◌, ℕ, List, ap}
use Rattle.script_bus.proofs.bus.Bus.settled_text.Goals as goal

pub returns-in_ok-joined-in-Ok-clause-done : goal.returns-in_ok-joined-in-Ok-clause-done
returns-in_ok-joined-in-Ok-clause-done c = (
  c.in-Ok.field-0-0,
  c.in-Ok.report.items,
  c.in-Ok.ensures.done,
  c.in_ok-joined-in-Ok.ensures ∙ ap (λ (r : List ℕ). c.args.text.items ++ r) c.as_slice.ensures.value,
)
