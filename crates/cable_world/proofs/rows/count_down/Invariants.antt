use Rattle.std.proofs.Common.{◌≡◌, ◌-◌, ℕ, false, All, map, take}
use Rattle.cable_world.proofs.running.Mixed.{mixed}
use Rattle.cable_world.proofs.rows.count_down.Given as goal

abbrev pub invariant-loop-at : goal.invariant-loop-at
invariant-loop-at l = record {
  less : l.held ≡ mixed l.at (map (λ h. h - l.turns) l.initial.held) l.initial.held;
  left : l.left ≡ false → All (λ (h : ℕ). h ≡ 0) (take l.at l.held);
}
