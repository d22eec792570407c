-- How a reset begins: the entry to R0 (Reset start).
use Rattle.std.specs.Prelude.{◌+◌, Bool, true, false, min, [], map, None}
use Rattle.port_state.specs.declared.signal.Level.TheVariants as level
use Rattle.port_state.specs.declared.signal.Phase.TheVariants.{ResetStart}
use Rattle.port_state.specs.declared.signal.Signal.TheVariants as signal
use Rattle.port_state.specs.declared.ports.PortView.{PortView}
use Rattle.port_state.specs.declared.view.View.{View}
use Rattle.port_state.specs.declared.states.NodeState.{NodeState}
use Rattle.port_state.specs.Config.{gap_after}
use Rattle.port_state.specs.Ports.{PortNumber, change_port}
use Rattle.port_state.specs.Sends.{on_every}
use Rattle.port_state.specs.Step.{Step}

-- a port that leads to no child, as at power-on; it keeps its cable and its level
abbrev pub without_marks : PortView → PortView
without_marks p = record p { child = false; asked = false; named = false }

-- what the node forgets, and what it takes over for the next tree; with `resets_gap` its gap count is 63
-- from the reset after this one on, unless a packet sets it by then
abbrev pub view_at_entry : Bool → Bool → View → View
view_at_entry caused resets_gap v = record v {
  phase = ResetStart;
  timer = 0;
  wait = 0;
  ports = map without_marks v.ports;
  parent = None;
  granted = false;
  id = None;
  draws = 0;
  first_draws = 0;
  initiated = caused;
  gap = v.next_gap;
  force = v.next_force;
  next_gap = gap_after resets_gap v.next_gap;
  timed_out = false;
  resets = min (v.resets + 1) 4294967295;
}

-- the entry, with the cause: whether this node began the reset
unfoldable pub enter : Bool → NodeState → Step
enter caused x = record {
  state = record x {
    view = view_at_entry caused x.resets_gap x.view;
    list = record { items = [] };
  };
  sends = on_every signal.Reset x.view.ports;
}

-- the node resets the bus
abbrev pub disturb : NodeState → Step
disturb x = enter true x

-- the node with a port of this number changed
abbrev pub with_port : PortNumber → (PortView → PortView) → NodeState → NodeState
with_port port change x = record x {
  view = record x.view { ports = change_port port change x.view.ports };
}

-- a cable is plugged: the port is connected and shows Reset, and the node resets the bus
abbrev pub plugged : PortNumber → NodeState → Step
plugged port x =
    enter true (with_port port (λ p. record p { connected = true; shown = level.Reset }) x)

-- a cable is pulled: the port is free and shows Idle, and the node resets the bus
abbrev pub pulled : PortNumber → NodeState → Step
pulled port x =
    enter true (with_port port (λ p. record p { connected = false; shown = level.Idle }) x)
