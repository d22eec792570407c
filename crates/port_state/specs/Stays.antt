-- What a step doesn't name stays as it was.
use Rattle.std.specs.Prelude.{Bool}
use Rattle.port_state.specs.declared.signal.Signal.{Signal}
use Rattle.port_state.specs.declared.states.NodeState.{NodeState}
use Rattle.port_state.specs.Config.{ConfigPacket, set_config}
use Rattle.port_state.specs.Entry.{enter, plugged, pulled}
use Rattle.port_state.specs.Heard.{on_signal}
use Rattle.port_state.specs.Names.{KeepsBut, tick_names, signal_names, reset_names, plug_names, config_names}
use Rattle.port_state.specs.Ports.{PortNumber}
use Rattle.port_state.specs.Tick.{next_row, tick}

abbrev pub TickLeavesTheRest : Type 0
TickLeavesTheRest =
    (coin : Bool) (x : NodeState) → KeepsBut (tick_names (next_row x)) x (tick coin x).state

abbrev pub SignalLeavesTheRest : Type 0
SignalLeavesTheRest =
    (port : PortNumber) (s : Signal) (x : NodeState) →
    KeepsBut (signal_names port s x) x (on_signal port s x).state

abbrev pub EntryLeavesTheRest : Type 0
EntryLeavesTheRest =
    (caused : Bool) (x : NodeState) → KeepsBut (reset_names x.resets_gap) x (enter caused x).state

abbrev pub PlugLeavesTheRest : Type 0
PlugLeavesTheRest =
    (port : PortNumber) (x : NodeState) →
    KeepsBut (plug_names x.resets_gap port) x (plugged port x).state

abbrev pub PullLeavesTheRest : Type 0
PullLeavesTheRest =
    (port : PortNumber) (x : NodeState) →
    KeepsBut (plug_names x.resets_gap port) x (pulled port x).state

abbrev pub ConfigLeavesTheRest : Type 0
ConfigLeavesTheRest =
    (packet : ConfigPacket) (x : NodeState) → KeepsBut (config_names packet) x (set_config packet x)
