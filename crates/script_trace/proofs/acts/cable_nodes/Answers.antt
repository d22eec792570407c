use Rattle.std.proofs.Common.{inl, inr}
use Rattle.script_trace.proofs.acts.cable_nodes.Goals as goal

pub returns : goal.returns
returns c k small may = c.pair.ensures k small (elim may [
  | inl own ↦ inl own
  | inr other ↦ inr (c.far_node.ensures k other)
])
