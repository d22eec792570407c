use Rattle.std.proofs.Common.{length, ◌-◌}
use Rattle.heapless_c.proofs.Joined.{Joined}
use Rattle.heapless_c.proofs.reading.link_nodes.Given as goal

abbrev pub invariant-loop-at : goal.invariant-loop-at
invariant-loop-at l = Joined l.standard l.quads l.at l.waiting.trees l.waiting.rooted l.nodes l.manager l.roots l.links.parents.items l.links.children

abbrev pub decreases-loop-at : goal.decreases-loop-at
decreases-loop-at l = length l.quads - l.at
