use Rattle.std.proofs.Common.{◌-◌, ◌+◌, ◌<◌, ◌≤◌, length}
use Rattle.topology_stack.specs.Tree.{walk}
use Rattle.root_plan.specs.codings.Climb.{Closes}
use Rattle.root_plan.proofs.reach.distance.Given as goal

-- two nodes from which the path is closed, and no more cables than their IDs allow
abbrev pub invariant-loop-one : goal.invariant-loop-one
invariant-loop-one l =
    Closes l.tree l.from l.to l.one l.other l.cables × (l.one < length (walk l.tree))
    × (l.other < length (walk l.tree)) × (l.cables ≤ l.one + l.other)

abbrev pub decreases-loop-one : goal.decreases-loop-one
decreases-loop-one l = 126 - (l.one + l.other)
