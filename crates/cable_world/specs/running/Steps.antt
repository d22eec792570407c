-- The steps of all nodes in a turn, taken from a table of what arrives from each wire.
use Rattle.std.specs.Prelude.{◌≡◌, List, [], ◌∷◌, length, Some, slice_get}
use Rattle.cabling.specs.Wiring.{Wiring, ports_of}
use Rattle.port_state.specs.Machine.{PortNode, NodeStep}
use Rattle.cable_world.specs.World.{NodeNumber}
use Rattle.cable_world.specs.Turn.{node_turn}
use Rattle.cable_world.specs.running.Hearing.{Arriving, inbox_of}

-- every node, with its ports' far ends
abbrev pub turns_of : Arriving → Wiring → List PortNode → List NodeStep
turns_of table (ports ∷ rows) (x ∷ nodes) = node_turn (inbox_of table 0 ports) x ∷ turns_of table rows nodes
turns_of table rows nodes = []

-- each node has as many ports in the cabling as in its record
abbrev pub HasItsPorts : Wiring → List PortNode → Type 0
HasItsPorts c nodes =
    (k : NodeNumber) (x : PortNode) → slice_get nodes k ≡ Some x → length (ports_of c k) ≡ x.state.ports
