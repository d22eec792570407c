use Rattle.std.proofs.Common.{length, ◌-◌}
use Rattle.topology_stack.proofs.Joining.{Joining}
use Rattle.topology_stack.proofs.reading.nodes_of.Given as goal

abbrev pub invariant-loop-at : goal.invariant-loop-at
invariant-loop-at l = Joining l.standard l.quads l.at l.waiting.trees l.waiting.rooted l.nodes.items l.roots l.links.parents.items l.links.children

abbrev pub decreases-loop-at : goal.decreases-loop-at
decreases-loop-at l = length l.quads - l.at
