-- What each call and each row of the step table names. All else of a record stays as it is.
use Rattle.std.specs.Prelude.{◌≡◌, ℕ, Bool, false, List, [], ◌∷◌, ◌++◌, map, Option, Some, None, if◌then◌else◌}
use Rattle.port_state.specs.declared.signal.Level.TheVariants as shown
use Rattle.port_state.specs.declared.signal.Phase.{Phase}
use Rattle.port_state.specs.declared.signal.Phase.TheVariants.{ResetStart}
use Rattle.port_state.specs.declared.signal.Signal.{Signal}
use Rattle.port_state.specs.declared.signal.Signal.TheVariants as signal
use Rattle.port_state.specs.declared.ports.PortView.{PortView}
use Rattle.port_state.specs.declared.states.NodeState.{NodeState}
use Rattle.port_state.specs.Config.{ConfigPacket}
use Rattle.port_state.specs.Entry.{without_marks, with_port}
use Rattle.port_state.specs.Heard.{is_resetting, is_heard}
use Rattle.port_state.specs.Ports.{PortNumber}
use Rattle.port_state.specs.Row as row
use Rattle.port_state.specs.Row.{Row}

-- ---- parts

-- a part of a record; the attributes, the times and the number of ports are none, since nothing
-- names them
pub data Part : Type 0 where
  phase : Part
  timer : Part
  wait : Part
  parent : Part
  granted : Part
  id : Part
  draws : Part
  first_draws : Part
  initiated : Part
  gap : Part
  force : Part
  next_gap : Part
  next_force : Part
  timed_out : Part
  resets : Part
  list : Part
  -- of each port: whether it leads to a child
  children : Part
  -- of each port: whether it leads to a child, which was asked, and named itself
  marks : Part
  -- of the port of this number: its cable and its level; its level; one of its marks
  line : PortNumber → Part
  level : PortNumber → Part
  child : PortNumber → Part
  asked : PortNumber → Part
  named : PortNumber → Part

-- a port that leads to no child
abbrev pub without_child : PortView → PortView
without_child p = record p { child = false }

-- the record with this part forgotten
abbrev pub without : Part → NodeState → NodeState
without phase x = record x { view = record x.view { phase = ResetStart } }
without timer x = record x { view = record x.view { timer = 0 } }
without wait x = record x { view = record x.view { wait = 0 } }
without parent x = record x { view = record x.view { parent = None } }
without granted x = record x { view = record x.view { granted = false } }
without id x = record x { view = record x.view { id = None } }
without draws x = record x { view = record x.view { draws = 0 } }
without first_draws x = record x { view = record x.view { first_draws = 0 } }
without initiated x = record x { view = record x.view { initiated = false } }
without gap x = record x { view = record x.view { gap = 0 } }
without force x = record x { view = record x.view { force = false } }
without next_gap x = record x { view = record x.view { next_gap = 0 } }
without next_force x = record x { view = record x.view { next_force = false } }
without timed_out x = record x { view = record x.view { timed_out = false } }
without resets x = record x { view = record x.view { resets = 0 } }
without list x = record x { list = record { items = [] } }
without children x = record x { view = record x.view { ports = map without_child x.view.ports } }
without marks x = record x { view = record x.view { ports = map without_marks x.view.ports } }
without (line port) x = with_port port (λ p. record p { connected = false; shown = shown.Idle }) x
without (level port) x = with_port port (λ p. record p { shown = shown.Idle }) x
without (child port) x = with_port port without_child x
without (asked port) x = with_port port (λ p. record p { asked = false }) x
without (named port) x = with_port port (λ p. record p { named = false }) x

abbrev pub without_all : List Part → NodeState → NodeState
without_all [] x = x
without_all (p ∷ parts) x = without_all parts (without p x)

-- with these parts forgotten, what was and what is are the same
abbrev pub KeepsBut : List Part → NodeState → NodeState → Type 0
KeepsBut parts was is = without_all parts is ≡ without_all parts was

-- ---- what is named

-- a reset: cables and levels stay, and what a configuration packet said, but for the gap count of a node
-- that resets it
abbrev pub reset_names : Bool → List Part
reset_names resets_gap =
    phase ∷ timer ∷ wait ∷ marks ∷ parent ∷ granted ∷ id ∷ list ∷ draws ∷ first_draws
    ∷ timed_out ∷ initiated ∷ gap ∷ force ∷ resets ∷ (if resets_gap then next_gap ∷ [] else [])

-- plugging and pulling
abbrev pub plug_names : Bool → PortNumber → List Part
plug_names resets_gap port = reset_names resets_gap ++ line port ∷ []

-- a signal that counts: a level, and outside R0 a reset with Reset; a grant, a packet, Done
abbrev pub heard_names : Bool → PortNumber → Signal → Phase → List Part
heard_names resets_gap port signal.Reset ph =
    if is_resetting ph then level port ∷ [] else reset_names resets_gap ++ level port ∷ []
heard_names resets_gap port signal.Grant ph = granted ∷ []
heard_names resets_gap port (signal.Packet quad) ph = list ∷ []
heard_names resets_gap port signal.Done ph = named port ∷ []
heard_names resets_gap port s ph = level port ∷ []

-- a signal that doesn't count names nothing
abbrev pub signal_names : PortNumber → Signal → NodeState → List Part
signal_names port s x =
    if is_heard port s x then heard_names x.resets_gap port s x.view.phase else []

-- a row of a tick, beside the timer that rises
abbrev pub row_names : Row → List Part
row_names row.none = []
row_names row.ends_reset = phase ∷ []
row_names row.begins_tree = phase ∷ []
row_names row.takes_roles = phase ∷ timed_out ∷ children ∷ parent ∷ []
row_names row.times_out = timed_out ∷ []
row_names row.awaits_parent = phase ∷ []
row_names row.becomes_root = phase ∷ granted ∷ []
row_names (row.finds_parent port) = phase ∷ []
row_names (row.begins_contention port) = phase ∷ wait ∷ draws ∷ first_draws ∷ []
row_names (row.takes_rival port) = phase ∷ child port ∷ parent ∷ []
row_names (row.asks_again port) = phase ∷ []
row_names (row.asks_child port) = asked port ∷ []
row_names row.names_itself = phase ∷ id ∷ list ∷ []

abbrev pub tick_names : Row → List Part
tick_names r = timer ∷ row_names r

-- a configuration packet: R and T
abbrev pub force_names : Bool → List Part
force_names on = if on then next_force ∷ [] else []

abbrev pub gap_names : Option ℕ → List Part
gap_names None = []
gap_names (Some count) = next_gap ∷ []

abbrev pub config_names : ConfigPacket → List Part
config_names packet = force_names packet.force ++ gap_names packet.gap
