-- Acts make components fresh, so that a node which alone waits to become root does.
use Rattle.std.specs.Prelude.{◌≡◌, ◌⊎◌, ℕ, ◌<◌, ◌≤◌, false, List, [], ◌∷◌, length, Some, slice_get}
use Rattle.topology_stack.specs.Tree.{Tree}
use Rattle.cabling.specs.NodeSet.{Holds}
use Rattle.cabling.specs.Component.{IsComponent}
use Rattle.port_state.specs.Machine.{PortNode}
use Rattle.cable_world.specs.World.{CableWorld, NodeNumber, NodeSet, IsPowerOnWorld}
use Rattle.cable_world.specs.Quiet.{HoldSchedule, quiet_after}
use Rattle.cable_world.specs.Run.{ComesOfPowerOn}
use Rattle.cable_world.specs.Events.{Event, acts, holds, turns, Runs, turn_count}
use Rattle.cable_world.specs.Phases.{is_in_bus_reset}
use Rattle.cable_world.specs.Fresh.{IsFresh}
use Rattle.cable_world.specs.Outcome.{HasNoLoop, IsTree}
use Rattle.outcomes.specs.Forced.{CanBeForcedAt, WaitsAlone}
use Rattle.convergence.specs.Turns.{turns_to_settle}
use Rattle.world_laws.specs.Touched.{Touches}

-- a run before the next turn: acts, and perhaps holds
pub record RunsAtOnce (w v : CableWorld) (events : List Event) : Type 0 where
  pub run : Runs events w v
  pub no_turn : turn_count events ≡ 0

-- an act of a run resets this node
abbrev pub IsTouchedIn :
    NodeNumber → (events : List Event) → (w v : CableWorld) → Runs events w v → Type 0
IsTouchedIn k [] w v run = ⊥
IsTouchedIn k (acts a ∷ events) w v run = Touches a w k ⊎ IsTouchedIn k events run.0 v run.2
IsTouchedIn k (holds end n ∷ events) w v run = IsTouchedIn k events run.0 v run.2
IsTouchedIn k (turns ∷ events) w v run = IsTouchedIn k events run.0 v run.2

-- none of the nodes of a set is in R0 or R1
abbrev pub AreCalm : CableWorld → NodeSet → Type 0
AreCalm w set =
    (k : NodeNumber) (x : PortNode) → Holds set k → slice_get w.nodes k ≡ Some x →
    is_in_bus_reset x.state.view.phase ≡ false

-- ---- laws

-- before the first turn every component is fresh, whatever acts came
abbrev pub PowerOnIsFresh : Type 0
PowerOnIsFresh =
    (s w : CableWorld) (events : List Event) (node : NodeNumber) (set : NodeSet) →
    IsPowerOnWorld s → RunsAtOnce s w events → node < length w.nodes →
    IsComponent w.cabling node set → IsFresh w set

-- acts make a component fresh that they touch, where no reset was going on at its nodes
abbrev pub ActsMakeFresh : Type 0
ActsMakeFresh =
    (w v : CableWorld) (events : List Event) (run : RunsAtOnce w v events)
    (node k : NodeNumber) (set : NodeSet) → ComesOfPowerOn w →
    IsComponent v.cabling node set → AreCalm w set → Holds set k →
    IsTouchedIn k events w v run.run → IsFresh v set

-- so they do in a world that was given the quiet turns to settle
abbrev pub ActsMakeFreshOnceSettled : Type 0
ActsMakeFreshOnceSettled =
    (holds : HoldSchedule) (w v : CableWorld) (n : ℕ) (events : List Event)
    (run : RunsAtOnce (quiet_after holds n w) v events) (node k : NodeNumber) (set : NodeSet) →
    ComesOfPowerOn w → turns_to_settle w ≤ n → IsComponent v.cabling node set →
    Holds set k → IsTouchedIn k events (quiet_after holds n w) v run.run → IsFresh v set

-- a component without loop of whose nodes one alone waits to become root, and is given time enough
-- for it
pub record HasOneWaiting
    (w : CableWorld) (node : NodeNumber) (set : NodeSet) (root : NodeNumber)
    : Type 0 where
  pub component : IsComponent w.cabling node set
  pub no_loop : HasNoLoop w set
  pub alone : WaitsAlone w set root
  pub enough : CanBeForcedAt w root

-- a fresh one of a world that comes of power-on comes to a tree with that root in as many quiet
-- turns as a world is given to settle
abbrev pub FreshRootsSettle : Type 0
FreshRootsSettle =
    (holds : HoldSchedule) (w : CableWorld) (k : ℕ) (node : NodeNumber) (set : NodeSet)
    (root : NodeNumber) → ComesOfPowerOn w → IsFresh w set → HasOneWaiting w node set root →
    turns_to_settle w ≤ k →
    (t : Tree) × IsTree (quiet_after holds k w) set root t

-- so does one that was cabled before the first turn
abbrev pub FirstRootsSettle : Type 0
FirstRootsSettle =
    (holds : HoldSchedule) (s w : CableWorld) (events : List Event) (k : ℕ) (node : NodeNumber)
    (set : NodeSet) (root : NodeNumber) →
    IsPowerOnWorld s → RunsAtOnce s w events → HasOneWaiting w node set root →
    turns_to_settle w ≤ k →
    (t : Tree) × IsTree (quiet_after holds k w) set root t
