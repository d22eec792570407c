-- Where nodes hear something.
use Rattle.std.specs.Prelude.{◌≡◌, true, List, [], Some, slice_index_or}
use Rattle.cabling.specs.NodeSet.{Nodes, Holds}
use Rattle.cabling.specs.declared.cable.End.{End}
use Rattle.cabling.specs.Wiring.{Wiring, NodeNumber, far}
use Rattle.port_state.specs.Ports.{PortNumber}
use Rattle.port_state.specs.PortSet.{has_port}
use Rattle.port_state.specs.declared.signal.Signal.{Signal}
use Rattle.cable_world.specs.Wire.{Wire, empty_wire}
use Rattle.cable_world.specs.running.Hearing.{Arriving, arriving_from}
use Rattle.world_agenda.specs.declared.heard.Heard.{Heard}

-- an end is marked: its node as one that hears something, and its port there
pub record IsHeard (h : Heard) (end : End) : Type 0 where
  pub node : Holds h.nodes end.node
  pub port : has_port (slice_index_or h.ports end.node 0) end.port ≡ true

-- an end that was marked still is
abbrev pub StayHeard : Heard → Heard → Type 0
StayHeard old new = (end : End) → IsHeard old end → IsHeard new end

-- from the wires of a node nothing arrives at ends that aren't marked
abbrev pub GivesBut : Heard → Wiring → NodeNumber → List (List Signal) → Type 0
GivesBut h c node row =
    (port : PortNumber) (end : End) → far c (record { node = node; port = port }) ≡ Some end → (IsHeard h end → ⊥) →
    slice_index_or row port [] ≡ []

-- nothing arrives at ends that aren't marked
abbrev pub AreSparedBut : Heard → Arriving → Wiring → Type 0
AreSparedBut h table c = (end : End) → (IsHeard h end → ⊥) → arriving_from table (far c end) ≡ []

-- on the wires of a node nothing is under way to nodes that aren't in the set
abbrev pub SendsBut : Nodes → Wiring → NodeNumber → List Wire → Type 0
SendsBut set c node row =
    (port : PortNumber) (end : End) → far c (record { node = node; port = port }) ≡ Some end →
    (Holds set end.node → ⊥) → (slice_index_or row port empty_wire).signals ≡ []

-- nothing is under way to nodes that aren't in the set
abbrev pub AwaitNoneBut : Nodes → List (List Wire) → Wiring → Type 0
AwaitNoneBut set wires c = (node : NodeNumber) → SendsBut set c node (slice_index_or wires node [])
