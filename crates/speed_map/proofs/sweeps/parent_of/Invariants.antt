use Rattle.std.proofs.Common.{ℕ, ◌<◌, ◌≤◌, Some}
use Rattle.topology_stack.specs.Far.{Far}
use Rattle.speed_map.proofs.sweeps.parent_of.Given as goal

-- no slot so far leads to the parent
abbrev pub invariant-loop-slot : goal.invariant-loop-slot
invariant-loop-slot l = (s k : ℕ) → s < l.slot → Far l.tree l.id s (Some k) → k ≤ l.id
