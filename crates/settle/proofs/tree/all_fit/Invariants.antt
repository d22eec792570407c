use Rattle.std.proofs.Common.{ℕ, ◌<◌}
use Rattle.cabling.specs.NodeSet.{Holds}
use Rattle.settle.specs.codings.Reading.{FitsTree}
use Rattle.settle.proofs.tree.all_fit.Given as goal

abbrev pub invariant-loop-node : goal.invariant-loop-node
invariant-loop-node g l =
    (k : ℕ) → k < l.node → Holds l.set k → FitsTree (g.W.WorldRun.world l.world) l.root l.tree.list l.tree.order k
