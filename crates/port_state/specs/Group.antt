-- The group of self-ID packets in which a node identifies itself.
use Rattle.std.specs.Prelude.{◌≡◌, ℕ, ◌≤◌, ◌+◌, ◌-◌, Bool, List, [], ◌∷◌, ◌++◌, replicate, Option, if◌then◌else◌}
use Rattle.self_id.specs.declared.node.Attrs.{Attrs}
use Rattle.self_id.specs.declared.node.PortStatus.{PortStatus}
use Rattle.self_id.specs.declared.node.PortStatus.TheVariants.{Absent, Unplugged, Up, Down}
use Rattle.self_id.specs.Node.{Node, IsNode}
use Rattle.self_id.specs.Group.{group, node_count}
use Rattle.self_id.specs.Slots.{slot_count}
use Rattle.port_state.specs.declared.ports.PortView.{PortView}
use Rattle.port_state.specs.declared.states.NodeState.{NodeState}
use Rattle.port_state.specs.Ports.{PortNumber, is_port}
use Rattle.port_state.specs.Valid.{IsBounded}

-- the attributes that the node shows: the gap count and the initiated bit are those of now
abbrev pub shown_attrs : NodeState → Attrs
shown_attrs x = record x.attrs { gap = x.view.gap; initiated = x.view.initiated }

-- the status of a port, given whether it is the parent port
abbrev pub status : Bool → PortView → PortStatus
status parent p = if parent then Up else (if p.child then Down else Unplugged)

-- the statuses of ports, the first of which has number k
abbrev pub statuses_from : PortNumber → Option PortNumber → List PortView → List PortStatus
statuses_from k parent [] = []
statuses_from k parent (p ∷ ps) = status (is_port parent k) p ∷ statuses_from (k + 1) parent ps

-- a node that shows its ports, and absent slots behind them
abbrev pub shown_node : NodeState → Node
shown_node x = record {
  attrs = shown_attrs x;
  ports =
      statuses_from 0 x.view.parent x.view.ports
      ++ replicate (slot_count x.ports - x.ports) Absent;
  kept_a = 0;
  kept_b = 0;
}

-- its packets with an ID
abbrev pub own_group : NodeState → ℕ → List ℕ
own_group x id = group (shown_node x) id

-- ---- laws

abbrev pub NodesAreShown : Type 0
NodesAreShown = (x : NodeState) → IsBounded x → IsNode (shown_node x)

abbrev pub GroupsHaveOneZero : Type 0
GroupsHaveOneZero =
    (x : NodeState) (id : ℕ) → IsBounded x → id ≤ 62 → node_count (own_group x id) ≡ 1
