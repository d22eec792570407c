-- What a node does with a signal that a port hears.
use Rattle.std.specs.Prelude.{ℕ, Bool, true, false, ◌&&◌, List, ◌∷◌, ◌++◌, [], length, nat_lt, if◌then◌else◌}
use Rattle.port_state.specs.declared.signal.Level.{Level}
use Rattle.port_state.specs.declared.signal.Level.TheVariants as level
use Rattle.port_state.specs.declared.signal.Phase.{Phase}
use Rattle.port_state.specs.declared.signal.Phase.TheVariants.{ResetStart, SelfIdent, Ready}
use Rattle.port_state.specs.declared.signal.Signal.{Signal}
use Rattle.port_state.specs.declared.signal.Signal.TheVariants as signal
use Rattle.port_state.specs.declared.states.NodeState.{NodeState}
use Rattle.port_state.specs.Limits.{list_limit}
use Rattle.port_state.specs.Ports.{PortNumber, port_is, is_connected, is_port}
use Rattle.port_state.specs.Sends.{on_others}
use Rattle.port_state.specs.Step.{Step, silent_step}
use Rattle.port_state.specs.Entry.{enter, with_port}

-- R0
abbrev pub is_resetting : Phase → Bool
is_resetting ResetStart = true
is_resetting phase = false

-- S0, S1, S2 and S4
abbrev pub is_identifying : Phase → Bool
is_identifying SelfIdent = true
is_identifying phase = false

-- S0, S1, S2 and S4, and A0
abbrev pub hears_packets : Phase → Bool
hears_packets SelfIdent = true
hears_packets Ready = true
hears_packets phase = false

-- the port shows a level
abbrev pub with_level : PortNumber → Level → NodeState → NodeState
with_level port l x = with_port port (λ p. record p { shown = l }) x

-- Reset: the port shows it, and outside R0 the node enters a reset that it didn't cause
abbrev pub hears_reset : PortNumber → NodeState → Step
hears_reset port x =
    let shows_it = with_level port level.Reset x in
    if is_resetting x.view.phase then silent_step shows_it else enter false shows_it

-- Grant: the node may begin
abbrev pub hears_grant : NodeState → Step
hears_grant x = silent_step (record x { view = record x.view { granted = true } })

-- the list with a packet at its end, if there is room
abbrev pub with_packet : ℕ → List ℕ → List ℕ
with_packet quad list = if nat_lt (length list) list_limit then list ++ quad ∷ [] else list

-- a packet is kept, and repeated on every other port
abbrev pub hears_packet : PortNumber → ℕ → NodeState → Step
hears_packet port quad x = record {
  state = record x { list = record { items = with_packet quad x.list.items } };
  sends = on_others port (signal.Packet quad) x.view.ports;
}

-- Done: the child and all below it have identified themselves
abbrev pub hears_done : PortNumber → NodeState → Step
hears_done port x = silent_step (with_port port (λ p. record p { named = true }) x)

-- each signal
abbrev pub hears : PortNumber → Signal → NodeState → Step
hears port signal.Reset x = hears_reset port x
hears port signal.Idle x = silent_step (with_level port level.Idle x)
hears port signal.Parent x = silent_step (with_level port level.Parent x)
hears port signal.Child x = silent_step (with_level port level.Child x)
hears port signal.Grant x = hears_grant x
hears port (signal.Packet quad) x = hears_packet port quad x
hears port signal.Done x = hears_done port x

-- a grant counts in self identify where it comes from the parent, a packet in self identify and
-- later, and Done in self identify where it comes from a child
abbrev pub has_effect : PortNumber → Signal → NodeState → Bool
has_effect port signal.Grant x = is_identifying x.view.phase && is_port x.view.parent port
has_effect port (signal.Packet quad) x = hears_packets x.view.phase
has_effect port signal.Done x =
    is_identifying x.view.phase && port_is (λ p. p.child) x.view.ports port
has_effect port s x = true

-- a port that isn't connected hears nothing
abbrev pub is_heard : PortNumber → Signal → NodeState → Bool
is_heard port s x = is_connected x.view.ports port && has_effect port s x

unfoldable pub on_signal : PortNumber → Signal → NodeState → Step
on_signal port s x = if is_heard port s x then hears port s x else silent_step x
