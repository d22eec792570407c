-- A world is given as many turns as it wants.
use Rattle.std.proofs.Common.{◌≡◌, ℕ, ◌≤◌, length, max, ap, arith}
use Rattle.std.proofs.Math.Nat.{le-max_right}
use Rattle.cable_world.specs.World.{CableWorld}
use Rattle.cable_world.specs.Run.{quiet_turns}
use Rattle.cable_world.proofs.Lemmas.{reached-lawful}
use Rattle.convergence.specs.Turns.{turns_to_settle}
use Rattle.outcomes.proofs.Lemmas.{range-enough}
use Rattle.settle.specs.Report.{quiet_turns_of}
use Rattle.settle.specs.QuietTurns.{NodesTellTurns}

pub turns-enough : (w : CableWorld) → turns_to_settle w ≤ quiet_turns_of w
turns-enough w = le-max_right (quiet_turns (length w.cabling) w.delay) (turns_to_settle w)

pub nodes-tell : NodesTellTurns
nodes-tell w r is =
    let f = (reached-lawful w r).well_formed in
    let same : quiet_turns (length w.nodes) w.delay ≡ quiet_turns (length w.cabling) w.delay = ap (λ (n : ℕ). quiet_turns n w.delay) f.count in
    greater (quiet_turns (length w.cabling) w.delay) (turns_to_settle w) (omega (arith, same, range-enough w f.some_delay is))
  where
    greater : (a b : ℕ) → b ≤ a → max a b ≡ a
    greater a b h = omega (arith, h)
