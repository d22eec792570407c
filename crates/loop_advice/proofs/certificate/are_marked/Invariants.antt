use Rattle.std.proofs.Common.{ℕ, ◌<◌}
use Rattle.cabling.specs.NodeSet.{Holds}
use Rattle.loop_advice.specs.codings.Marks.{IsMarkedAt}
use Rattle.loop_advice.proofs.certificate.are_marked.Given as goal

abbrev pub invariant-loop-node : goal.invariant-loop-node
invariant-loop-node l = (node : ℕ) → node < l.node → Holds l.set node → IsMarkedAt l.cabling l.marks node
