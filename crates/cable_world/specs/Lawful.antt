-- What holds of every world that comes of a power-on world.
use Rattle.std.specs.Prelude.{◌≡◌, ℕ, ◌-◌, ◌≤◌, List, [], ◌∷◌, length, is_some, None, Some, slice_get, slice_index_or}
use Rattle.cabling.specs.declared.cable.End.{End}
use Rattle.cabling.specs.Wiring.{IsCabling, far, ports_of}
use Rattle.port_state.specs.declared.states.NodeState.{NodeState}
use Rattle.port_state.specs.Ports.{is_connected}
use Rattle.port_state.specs.Valid.{IsValid}
use Rattle.port_state.specs.Machine.{PortNode}
use Rattle.cable_world.specs.Wire.{Travelling, empty_wire}
use Rattle.cable_world.specs.Times.{Suits, KeepsTime}
use Rattle.cable_world.specs.World.{CableWorld, wire_of}
use Rattle.cable_world.specs.Agreement.{Agrees}
use Rattle.cable_world.specs.Coupling.{IsCoupled}

-- the ages fall along the list, from this one at most: the oldest signal comes first
abbrev pub AgesFall : ℕ → List Travelling → Type 0
AgesFall most [] = Unit {0}
AgesFall most (t ∷ ts) = (t.age ≤ most) × AgesFall t.age ts

-- node number k fits the cables that it has
pub record FitsCables (w : CableWorld) (k : ℕ) (x : NodeState) : Type 0 where
  pub valid : IsValid x
  pub timing : Suits w.delay w.longest x.timing
  pub ports : length (ports_of w.cabling k) ≡ x.ports
  pub wires : length (slice_index_or w.wires k []) ≡ x.ports
  pub connected :
      (p : ℕ) →
      is_connected x.view.ports p ≡ is_some (far w.cabling (record { node = k; port = p }))

-- The tables of a world fit its nodes and its cables, and no signal is under way for too long.
pub record IsWellFormed (w : CableWorld) : Type 0 where
  pub some_delay : 1 ≤ w.delay
  pub cabling : IsCabling w.cabling
  pub count : length w.nodes ≡ length w.cabling
  pub wire_rows : length w.wires ≡ length w.cabling
  pub changes : length w.changed ≡ length w.cabling
  pub nodes : (k : ℕ) (x : PortNode) → slice_get w.nodes k ≡ Some x → FitsCables w k x.state
  -- between two turns no signal is as old as d
  pub ages : (a : End) → AgesFall (w.delay - 1) (wire_of w a).signals
  pub unplugged : (a : End) → far w.cabling a ≡ None → wire_of w a ≡ empty_wire

abbrev pub IsPaced : CableWorld → Type 0
IsPaced w =
    (k : ℕ) (x : PortNode) → slice_get w.nodes k ≡ Some x → KeepsTime w.longest x.state.timing x.clock

pub record IsLawful (w : CableWorld) : Type 0 where
  pub well_formed : IsWellFormed w
  pub paced : IsPaced w
  pub agrees : Agrees w
  pub coupled : IsCoupled w
