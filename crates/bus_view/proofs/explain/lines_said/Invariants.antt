use Rattle.std.proofs.Common.{◌≡◌}
use Rattle.bus_json.specs.Lines.{AreJsonLines}
use Rattle.bus_view.specs.declared.form.ExplainForm.TheVariants.{Json as Lines}
use Rattle.bus_view.proofs.Said.{SaysSoFar}
use Rattle.bus_view.proofs.explain.lines_said.Given as goal

abbrev pub invariant-loop-number : goal.invariant-loop-number
invariant-loop-number l =
    SaysSoFar l.form l.script l.first l.number l.text.items
    × (l.form ≡ Lines → AreJsonLines l.text.items)
