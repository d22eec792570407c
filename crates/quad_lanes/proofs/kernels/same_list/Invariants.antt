use Rattle.std.proofs.Common.{◌≡◌, ◌≤◌, ◌-◌, length, take}
use Rattle.quad_lanes.proofs.kernels.same_list.Given as goal

-- up to here the lists are the same
abbrev pub invariant-loop-at : goal.invariant-loop-at
invariant-loop-at l = (l.at ≤ length l.a) × (take l.at l.a ≡ take l.at l.b)

abbrev pub decreases-loop-at : goal.decreases-loop-at
decreases-loop-at l = length l.a - l.at

abbrev pub invariant-loop-i : goal.invariant-loop-i
invariant-loop-i l = (l.at ≤ length l.a) × (take l.i l.a ≡ take l.i l.b)
