-- A node at power-on.
use Rattle.std.specs.Prelude.{ℕ, Bool, true, false, [], None, replicate}
use Rattle.self_id.specs.declared.node.Attrs.{Attrs}
use Rattle.port_state.specs.declared.signal.Level.TheVariants as level
use Rattle.port_state.specs.declared.signal.Phase.TheVariants.{ResetStart}
use Rattle.port_state.specs.declared.ports.PortView.{PortView}
use Rattle.port_state.specs.declared.timing.Timing.{Timing}
use Rattle.port_state.specs.declared.states.NodeState.{NodeState}
use Rattle.port_state.specs.Config.{gap_after}

-- a port with no cable
abbrev pub free_port : PortView
free_port = record {
  connected = false;
  shown = level.Idle;
  child = false;
  asked = false;
  named = false;
}

-- R0: no port is connected, the list is empty, and the power-on itself counts as a reset of this
-- node's own. So a node that resets its gap count has 63 from its next reset on.
abbrev pub power_on_with : Bool → ℕ → Attrs → Bool → Timing → NodeState
power_on_with resets_gap ports attrs force timing = record {
  view = record {
    phase = ResetStart;
    timer = 0;
    wait = 0;
    ports = replicate ports free_port;
    parent = None;
    granted = false;
    id = None;
    draws = 0;
    first_draws = 0;
    initiated = true;
    gap = attrs.gap;
    force = force;
    next_gap = gap_after resets_gap attrs.gap;
    next_force = force;
    timed_out = false;
    resets = 1;
  };
  list = record { items = [] };
  attrs = attrs;
  timing = timing;
  ports = ports;
  resets_gap = resets_gap;
}

-- the same of a node that doesn't reset its gap count
abbrev pub power_on : ℕ → Attrs → Bool → Timing → NodeState
power_on ports attrs force timing = power_on_with false ports attrs force timing

-- a node that was just powered on, made one that resets its gap count
abbrev pub resetting_gap : NodeState → NodeState
resetting_gap x = record x {
  view = record x.view { next_gap = gap_after true x.view.next_gap };
  resets_gap = true;
}
