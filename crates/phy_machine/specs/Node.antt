-- A node by its parts.
use Rattle.port_state.specs.declared.states.NodeState.{NodeState}
use Rattle.port_state.specs.Coins.{Coins}
use Rattle.port_state.specs.Clock.{even}
use Rattle.port_state.specs.Machine.{PortNode}

-- a record with its coins; the clock misses no turn
abbrev pub node_of : NodeState → Coins → PortNode
node_of x coins = record { state = x; coins = coins; clock = even }
