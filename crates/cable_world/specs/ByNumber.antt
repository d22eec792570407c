-- What a turn makes of each node and of each wire, by number.
use Rattle.std.specs.Prelude.{◌≡◌, ◌<◌, [], length, Some, slice_get, slice_index_or}
use Rattle.cabling.specs.declared.cable.End.{End}
use Rattle.port_state.specs.Sends.{sent_on}
use Rattle.port_state.specs.Machine.{PortNode}
use Rattle.cable_world.specs.Wire.{add_signals, stays}
use Rattle.cable_world.specs.World.{CableWorld, NodeNumber, wire_of}
use Rattle.cable_world.specs.Turn.{turn, turn_at}

-- a node hears what came to its ports, and ticks
abbrev pub NodesTakeTurns : Type 0
NodesTakeTurns =
    (w : CableWorld) (k : NodeNumber) (x : PortNode) → length w.nodes ≡ length w.cabling →
    slice_get w.nodes k ≡ Some x → slice_get (turn w).nodes k ≡ Some (turn_at w k x).node

-- a wire loses what it gave, and takes what its node sent
abbrev pub WiresTakeTurns : Type 0
WiresTakeTurns =
    (w : CableWorld) (end : End) (x : PortNode) → length w.nodes ≡ length w.cabling →
    slice_get w.nodes end.node ≡ Some x → end.port < length (slice_index_or w.wires end.node []) →
    wire_of (turn w) end
    ≡ add_signals (sent_on end.port (turn_at w end.node x).sends) (stays w.delay (wire_of w end))
