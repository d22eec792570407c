-- In quiet turns resets end.
use Rattle.std.specs.Prelude.{◌≡◌, ℕ, ◌+◌, ◌*◌, ◌≤◌, false, length, Some, slice_get}
use Rattle.port_state.specs.Heard.{is_resetting}
use Rattle.port_state.specs.Machine.{PortNode}
use Rattle.cable_world.specs.World.{CableWorld, NodeNumber}
use Rattle.cable_world.specs.Quiet.{HoldSchedule, quiet_after}
use Rattle.cable_world.specs.Lawful.{IsLawful}

-- This holds of each node before and after a quiet turn, from turn number n d on, where there are n
-- nodes, and cables delay by at most d turns.
abbrev pub InLateTurns : (PortNode → PortNode → Type 0) → Type 0
InLateTurns P =
    (holds : HoldSchedule) (w : CableWorld) (k : ℕ) (node : NodeNumber) (x y : PortNode) →
    IsLawful w →
    length w.nodes * w.delay ≤ k →
    slice_get (quiet_after holds k w).nodes node ≡ Some x →
    slice_get (quiet_after holds (k + 1) w).nodes node ≡ Some y → P x y

-- no node enters R0
abbrev pub NoneEnters : Type 0
NoneEnters =
    InLateTurns (λ x y.
    is_resetting x.state.view.phase ≡ false → is_resetting y.state.view.phase ≡ false)

-- each count of resets stands still
abbrev pub CountsStand : Type 0
CountsStand = InLateTurns (λ x y. y.state.view.resets ≡ x.state.view.resets)
