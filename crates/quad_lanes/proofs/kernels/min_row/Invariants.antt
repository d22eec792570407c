use Rattle.std.proofs.Common.{◌≡◌, ◌≤◌, ◌-◌, length, take}
use Rattle.quad_lanes.specs.Rows.{capped}
use Rattle.quad_lanes.proofs.kernels.min_row.Given as goal

-- up to here the row is written
abbrev pub invariant-loop-at : goal.invariant-loop-at
invariant-loop-at l = (l.at ≤ length l.src) × (take l.at l.dst ≡ capped (take l.at l.src) l.cap)

abbrev pub decreases-loop-at : goal.decreases-loop-at
decreases-loop-at l = length l.src - l.at

abbrev pub invariant-loop-i : goal.invariant-loop-i
invariant-loop-i l = (l.at ≤ length l.src) × (take l.i l.dst ≡ capped (take l.i l.src) l.cap)
