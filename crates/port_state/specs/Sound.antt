-- What every step keeps.
use Rattle.std.specs.Prelude.{◌≡◌, ℕ, ◌≤◌, Bool, true, List, length}
use Rattle.std.specs.List.{AllByRecursion}
use Rattle.self_id.specs.declared.node.Attrs.{Attrs}
use Rattle.self_id.specs.Node.{FitBits}
use Rattle.port_state.specs.declared.ports.PortView.{PortView}
use Rattle.port_state.specs.declared.signal.Signal.{Signal}
use Rattle.port_state.specs.declared.states.NodeState.{NodeState}
use Rattle.port_state.specs.declared.timing.Timing.{Timing}
use Rattle.port_state.specs.Config.{ConfigPacket, HasSixBits, set_config}
use Rattle.port_state.specs.Entry.{enter, disturb, plugged, pulled}
use Rattle.port_state.specs.Heard.{on_signal}
use Rattle.port_state.specs.Ports.{PortNumber, is_connected}
use Rattle.port_state.specs.PowerOn.{power_on_with}
use Rattle.port_state.specs.Limits.{sends_limit}
use Rattle.port_state.specs.Sends.{PortSignal}
use Rattle.port_state.specs.Step.{Step}
use Rattle.port_state.specs.Tick.{tick}
use Rattle.port_state.specs.Valid.{IsBounded, IsValid}

-- every signal goes out on a connected port
abbrev pub OnConnected : List PortView → List PortSignal → Type 0
OnConnected ports sends = AllByRecursion (λ s. is_connected ports s.0 ≡ true) sends

-- a step from a record to a valid one, with what the node is made of unchanged
pub record IsSound (x : NodeState) (s : Step) : Type 0 where
  pub valid : IsValid s.state
  pub ports : s.state.ports ≡ x.ports
  pub attrs : s.state.attrs ≡ x.attrs
  pub timing : s.state.timing ≡ x.timing
  pub few : length s.sends ≤ sends_limit
  pub connected : OnConnected s.state.view.ports s.sends

-- ---- the steps of a valid record

abbrev pub TicksAreSound : Type 0
TicksAreSound = (coin : Bool) (x : NodeState) → IsValid x → IsSound x (tick coin x)

abbrev pub SignalsAreSound : Type 0
SignalsAreSound =
    (port : PortNumber) (s : Signal) (x : NodeState) → IsValid x → IsSound x (on_signal port s x)

-- ---- resets, which may begin from any bounded record

abbrev pub EntriesAreSound : Type 0
EntriesAreSound = (caused : Bool) (x : NodeState) → IsBounded x → IsSound x (enter caused x)

abbrev pub DisturbsAreSound : Type 0
DisturbsAreSound = (x : NodeState) → IsBounded x → IsSound x (disturb x)

abbrev pub PlugsAreSound : Type 0
PlugsAreSound = (port : PortNumber) (x : NodeState) → IsBounded x → IsSound x (plugged port x)

abbrev pub PullsAreSound : Type 0
PullsAreSound = (port : PortNumber) (x : NodeState) → IsBounded x → IsSound x (pulled port x)

-- ---- what sends nothing

abbrev pub ConfigsKeepValid : Type 0
ConfigsKeepValid =
    (packet : ConfigPacket) (x : NodeState) → HasSixBits packet → IsValid x →
    IsValid (set_config packet x)

abbrev pub PowerOnIsValid : Type 0
PowerOnIsValid =
    (resets_gap : Bool) (ports : ℕ) (attrs : Attrs) (force : Bool) (timing : Timing) →
    1 ≤ ports → ports ≤ 16 → FitBits attrs → attrs.delay ≡ 0 →
    IsValid (power_on_with resets_gap ports attrs force timing)
