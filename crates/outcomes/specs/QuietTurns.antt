-- When `quiet_turns` are enough for a world to settle: their number is told by the number of nodes
-- and d alone.
use Rattle.std.specs.Prelude.{◌≡◌, ℕ, ◌+◌, ◌*◌, ◌<◌, ◌≤◌, length}
use Rattle.port_state.specs.declared.timing.Timing.{Timing}
use Rattle.cable_world.specs.Times.{longest_in_range}
use Rattle.cable_world.specs.World.{CableWorld}
use Rattle.cable_world.specs.Run.{quiet_turns}
use Rattle.convergence.specs.Turns.{slack, turns_to_settle}

-- times that are short enough for that, with this slack of the clocks
pub record AreShort (d slack : ℕ) (longest : Timing) : Type 0 where
  pub tree : longest.hold + longest.force + 35 * longest.long + 400 * slack < 1600 * d
  pub loop : longest.hold + longest.timeout < 1600 * d

abbrev pub QuietTurnsAreEnough : Type 0
QuietTurnsAreEnough =
    (w : CableWorld) → AreShort w.delay (slack w) w.longest →
    turns_to_settle w ≤ quiet_turns (length w.nodes) w.delay

-- so they are where the times of nodes are in their ranges
abbrev pub InRangeIsEnough : Type 0
InRangeIsEnough =
    (w : CableWorld) → 1 ≤ w.delay → w.longest ≡ longest_in_range w.delay →
    turns_to_settle w ≤ quiet_turns (length w.nodes) w.delay
