-- Turns in which nothing happens.
use Rattle.std.specs.Prelude.{◌≡◌, ℕ, ◌+◌, ◌-◌, ◌<◌, List, [], All, length, map}
use Rattle.port_state.specs.Idle.{IsIdleFor, after_ticks}
use Rattle.cable_world.specs.Wire.{Wire}
use Rattle.cable_world.specs.World.{CableWorld}
use Rattle.cable_world.specs.Turn.{turns_after}

-- nothing is under way on the wire; it may be held
abbrev pub IsSilent : Wire → Type 0
IsSilent w = w.signals ≡ []

abbrev pub AreSilent : List (List Wire) → Type 0
AreSilent rows = All (λ row. All IsSilent row) rows

-- In the next so many turns, if any, nothing happens: no signal is under way, and no node's tick
-- sends one or changes more than the node's timer.
pub record IsStillFor (count : ℕ) (w : CableWorld) : Type 0 where
  pub silent : 0 < count → AreSilent w.wires
  pub idle : All (λ x. IsIdleFor count x) w.nodes

-- a hold has so many turns less to go
abbrev pub hold_less : ℕ → Wire → Wire
hold_less count w = record w { held = w.held - count }

-- the world after so many such turns: timers are later, and holds have less to go
abbrev pub after_still : ℕ → CableWorld → CableWorld
after_still count w = record w {
  nodes = map (after_ticks count) w.nodes;
  wires = map (map (hold_less count)) w.wires;
  turns = w.turns + count;
}

-- ---- law

-- still turns change timers and holds alone
abbrev pub StillTurnsPass : Type 0
StillTurnsPass =
    (count : ℕ) (w : CableWorld) → length w.nodes ≡ length w.cabling → IsStillFor count w →
    turns_after count w ≡ after_still count w
