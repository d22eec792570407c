use Rattle.std.proofs.Common.{◌≡◌, ◌≤◌}
use Rattle.cabling.specs.NodeSet.{size_below}
use Rattle.cabling.proofs.node_set.NodeSet.len.Given as goal

abbrev pub invariant-loop-node : goal.invariant-loop-node
invariant-loop-node l = (l.count ≡ size_below l.self l.node) × (l.count ≤ l.node)
