use Rattle.std.proofs.Common.{ℕ, ◌<◌}
use Rattle.cabling.specs.NodeSet.{Holds}
use Rattle.settle.specs.codings.Reading.{IsTop}
use Rattle.settle.proofs.tree.first_top.Given as goal

abbrev pub invariant-loop-node : goal.invariant-loop-node
invariant-loop-node g l =
    (k : ℕ) → k < l.node → Holds l.set k → IsTop (g.W.WorldRun.world l.world) k → ⊥
