-- What a node hears in a turn, taken from a table of what arrives from each wire.
use Rattle.std.specs.Prelude.{◌≡◌, ◌+◌, ◌<◌, false, List, [], ◌∷◌, ◌++◌, map, Option, None, Some, slice_index_or}
use Rattle.cabling.specs.declared.cable.End.{End}
use Rattle.cabling.specs.Wiring.{Wiring, NodeNumber, ports_of}
use Rattle.port_state.specs.declared.signal.Signal.{Signal}
use Rattle.port_state.specs.Ports.{PortNumber}
use Rattle.port_state.specs.PortSet.{PortSet, has_port}
use Rattle.port_state.specs.Sends.{PortSignal}
use Rattle.port_state.specs.Machine.{PortNode, NodeStep, after_step}
use Rattle.cable_world.specs.Turn.{hear_all}

-- for each node and port what arrives at the far end of its wire
abbrev pub Arriving : Type 0
Arriving = List (List (List Signal))

-- a node hears signals, the first first; its coins and its clock stay
abbrev pub node_hears : List PortSignal → PortNode → NodeStep
node_hears signals n = after_step n (hear_all signals n.state)

-- these signals, all on one port
abbrev pub on_one : PortNumber → List Signal → List PortSignal
on_one port signals = map (λ s. (port, s)) signals

-- what arrives from a far end
abbrev pub arriving_from : Arriving → Option End → List Signal
arriving_from table None = []
arriving_from table (Some far) = slice_index_or (slice_index_or table far.node []) far.port []

-- the signals for the ports from number p on, with these far ends
abbrev pub inbox_of : Arriving → PortNumber → List (Option End) → List PortSignal
inbox_of table p [] = []
inbox_of table p (far ∷ ports) = on_one p (arriving_from table far) ++ inbox_of table (p + 1) ports

-- nothing arrives at the ports of a node that aren't in this set
abbrev pub AreQuietBut : PortSet → Arriving → Wiring → NodeNumber → Type 0
AreQuietBut heard table c node =
    (p : PortNumber) → p < 16 → has_port heard p ≡ false → arriving_from table (slice_index_or (ports_of c node) p None) ≡ []
