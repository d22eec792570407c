-- The rows of tree identify: T0 (Tree ID start), which ends at the latest with the configuration
-- timeout, T1 (Child handshake) and T2 (Parent handshake). T3 is in Contention.antt.
use Rattle.std.specs.Prelude.{◌+◌, Bool, true, false, not, ◌&&◌, ◌||◌, ◌==◌, [], ◌∷◌, map, count_by, nat_le, Option, Some, None, if◌then◌else◌}
use Rattle.port_state.specs.declared.signal.Phase.TheVariants.{ChildShake, ParentShake, SelfIdent}
use Rattle.port_state.specs.declared.signal.Signal.TheVariants as signal
use Rattle.port_state.specs.declared.ports.PortView.{PortView}
use Rattle.port_state.specs.declared.states.NodeState.{NodeState}
use Rattle.port_state.specs.Ports.{PortNumber, is_idle, is_parent, is_child, asks, is_remaining, connected_count, every, lowest, port_is}
use Rattle.port_state.specs.Sends.{notices}
use Rattle.port_state.specs.Step.{Step, silent_step}
use Rattle.port_state.specs.Row as row
use Rattle.port_state.specs.Row.{Row}

-- T0: all ports show Parent, or all but one do and the node needn't wait to become root
abbrev pub is_decided : NodeState → Bool
is_decided x =
    let asking = count_by asks x.view.ports in
    (asking == connected_count x.view.ports)
    || ((asking + 1 == connected_count x.view.ports)
    && (not x.view.force || nat_le x.timing.force x.view.timer))

-- a port that shows Parent becomes a child port
abbrev pub adopt : PortView → PortView
adopt p = if asks p then record p { child = true } else p

-- T0 to T1: the ports that show Parent are the child ports, and the port that is left, if any, is
-- the parent port; each neighbour is told
abbrev pub takes_roles : NodeState → Step
takes_roles x = record {
  state = record x {
    view = record x.view {
      phase = ChildShake;
      timed_out = false;
      ports = map adopt x.view.ports;
      parent = lowest is_remaining x.view.ports;
    };
  };
  sends = notices x.view.ports;
}

-- T0: there is a loop
abbrev pub times_out : NodeState → Step
times_out x = silent_step (record x { view = record x.view { timed_out = true } })

abbrev pub tree_start_row : NodeState → Row
tree_start_row x =
    if is_decided x then row.takes_roles
    else (if nat_le x.timing.timeout x.view.timer then row.times_out else row.none)

-- T1 to T2: every child port shows Idle
abbrev pub child_shake_row : NodeState → Row
child_shake_row x =
    if every (λ p. if p.child then is_idle p.shown else true) x.view.ports then row.awaits_parent
    else row.none

abbrev pub awaits_parent : NodeState → Step
awaits_parent x = silent_step (record x { view = record x.view { phase = ParentShake } })

-- T2 to S0: a node with no parent port is the root
abbrev pub becomes_root : NodeState → Step
becomes_root x =
    silent_step (record x { view = record x.view { phase = SelfIdent; granted = true } })

-- T2 to S0: the parent port shows Child
abbrev pub finds_parent : PortNumber → NodeState → Step
finds_parent parent x = record {
  state = record x { view = record x.view { phase = SelfIdent } };
  sends = (parent, signal.Idle) ∷ [];
}

abbrev pub parent_shake_at : Option PortNumber → NodeState → Row
parent_shake_at None x = row.becomes_root
parent_shake_at (Some parent) x =
    if port_is (λ p. is_child p.shown) x.view.ports parent then row.finds_parent parent
    else (if port_is (λ p. is_parent p.shown) x.view.ports parent then row.begins_contention parent
    else row.none)

abbrev pub parent_shake_row : NodeState → Row
parent_shake_row x = parent_shake_at x.view.parent x
