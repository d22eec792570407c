-- The rows of self identify: S0 (Self-ID start), S1 (Self-ID grant), S2 (Self-ID receive) and S4
-- (Self-ID transmit), and the end of it in A0 (Idle).
use Rattle.std.specs.Prelude.{◌+◌, Bool, true, ◌&&◌, [], ◌∷◌, ◌++◌, length, nat_le, Option, Some, None, if◌then◌else◌}
use Rattle.port_state.specs.declared.signal.Phase.TheVariants.{Ready}
use Rattle.port_state.specs.declared.signal.Signal.TheVariants as signal
use Rattle.port_state.specs.declared.states.NodeState.{NodeState}
use Rattle.port_state.specs.Limits.{list_limit}
use Rattle.port_state.specs.Ports.{PortNumber, is_unnamed, lowest, port_is}
use Rattle.port_state.specs.Sends.{packets_on_every, on_port}
use Rattle.port_state.specs.Step.{Step}
use Rattle.port_state.specs.Entry.{with_port}
use Rattle.port_state.specs.Row as row
use Rattle.port_state.specs.Row.{Row}
use Rattle.self_id.specs.Group.{node_count}
use Rattle.port_state.specs.Group.{own_group}

-- S1: a child is asked to identify itself
abbrev pub asks_child : PortNumber → NodeState → Step
asks_child port x = record {
  state = with_port port (λ p. record p { asked = true }) x;
  sends = (port, signal.Grant) ∷ [];
}

-- there is an ID left, and room in the list
abbrev pub may_name : NodeState → Bool
may_name x =
    let id = node_count x.list.items in
    nat_le id 62 && nat_le (length x.list.items + length (own_group x id)) list_limit

-- S4 to A0: the ID is the number of the nodes before; the node's packets go out on every port, and
-- Done to the parent
abbrev pub names_itself : NodeState → Step
names_itself x =
    let id = node_count x.list.items in
    let packets = own_group x id in
    record {
      state = record x {
        view = record x.view { phase = Ready; id = Some id };
        list = record { items = x.list.items ++ packets };
      };
      sends = packets_on_every packets x.view.ports ++ on_port x.view.parent signal.Done;
    }

-- the lowest child that hasn't identified itself is asked once; with no such child it is this
-- node's turn
abbrev pub granted_row : Option PortNumber → NodeState → Row
granted_row (Some port) x =
    if port_is (λ p. p.asked) x.view.ports port then row.none else row.asks_child port
granted_row None x = if may_name x then row.names_itself else row.none

-- S0: nothing before the grant
abbrev pub self_ident_row : NodeState → Row
self_ident_row x =
    if x.view.granted then granted_row (lowest is_unnamed x.view.ports) x else row.none
