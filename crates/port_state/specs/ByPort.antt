-- Steps told port by port.
use Rattle.std.specs.Prelude.{◌≡◌, ℕ, ◌<◌, ◌==◌, ◌&&◌, Bool, true, false, not, List, [], ◌∷◌, length, map, slice_get, if◌then◌else◌}
use Rattle.std.specs.Option.{option_map}
use Rattle.port_state.specs.declared.ports.PortView.{PortView}
use Rattle.port_state.specs.declared.signal.Signal.{Signal}
use Rattle.port_state.specs.declared.signal.Signal.TheVariants as signal
use Rattle.port_state.specs.declared.states.NodeState.{NodeState}
use Rattle.port_state.specs.Entry.{enter, plugged, pulled}
use Rattle.port_state.specs.Heard.{on_signal}
use Rattle.port_state.specs.Ports.{PortNumber, asks, is_remaining, port_is, is_connected, change_port}
use Rattle.port_state.specs.Sends.{on_every, on_others, notices, packets_on_every, packet, sent_on}
use Rattle.port_state.specs.Tick.{tick}

-- ---- which ports are connected: no step changes that of another port

abbrev pub TickKeepsCables : Type 0
TickKeepsCables =
    (coin : Bool) (x : NodeState) (k : PortNumber) →
    is_connected (tick coin x).state.view.ports k ≡ is_connected x.view.ports k

abbrev pub SignalKeepsCables : Type 0
SignalKeepsCables =
    (port : PortNumber) (s : Signal) (x : NodeState) (k : PortNumber) →
    is_connected (on_signal port s x).state.view.ports k ≡ is_connected x.view.ports k

abbrev pub EntryKeepsCables : Type 0
EntryKeepsCables =
    (caused : Bool) (x : NodeState) (k : PortNumber) →
    is_connected (enter caused x).state.view.ports k ≡ is_connected x.view.ports k

abbrev pub PlugConnects : Type 0
PlugConnects =
    (port k : PortNumber) (x : NodeState) → port < length x.view.ports →
    is_connected (plugged port x).state.view.ports k
    ≡ (if k == port then true else is_connected x.view.ports k)

abbrev pub PullDisconnects : Type 0
PullDisconnects =
    (port k : PortNumber) (x : NodeState) → port < length x.view.ports →
    is_connected (pulled port x).state.view.ports k
    ≡ (if k == port then false else is_connected x.view.ports k)

-- ---- what goes out on one port, for each way in which a step sends

abbrev pub EveryByPort : Type 0
EveryByPort =
    (port : PortNumber) (s : Signal) (ports : List PortView) →
    sent_on port (on_every s ports) ≡ (if is_connected ports port then s ∷ [] else [])

abbrev pub OthersByPort : Type 0
OthersByPort =
    (port but : PortNumber) (s : Signal) (ports : List PortView) →
    sent_on port (on_others but s ports)
    ≡ (if not (port == but) && is_connected ports port then s ∷ [] else [])

abbrev pub NoticesByPort : Type 0
NoticesByPort =
    (port : PortNumber) (ports : List PortView) →
    sent_on port (notices ports)
    ≡ (if port_is asks ports port then signal.Child ∷ []
    else (if port_is is_remaining ports port then signal.Parent ∷ [] else []))

abbrev pub PacketsByPort : Type 0
PacketsByPort =
    (port : PortNumber) (quads : List ℕ) (ports : List PortView) →
    sent_on port (packets_on_every quads ports)
    ≡ (if is_connected ports port then map packet quads else [])

-- ---- what a step makes of one port, for each way in which it changes ports

abbrev pub MapByPort : Type 0
MapByPort =
    (k : PortNumber) (change : PortView → PortView) (ports : List PortView) →
    slice_get (map change ports) k ≡ option_map change (slice_get ports k)

abbrev pub ChangeByPort : Type 0
ChangeByPort =
    (n k : PortNumber) (change : PortView → PortView) (ports : List PortView) →
    slice_get (change_port n change ports) k
    ≡ (if k == n then option_map change (slice_get ports k) else slice_get ports k)
