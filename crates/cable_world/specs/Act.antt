-- What happens between two turns. It takes no time: what a node sends goes onto its wires with age
-- 0.
use Rattle.std.specs.Prelude.{◌≡◌, ℕ, ◌+◌, ◌==◌, ◌||◌, List, [], ◌∷◌, length, nat_lt, is_some, IsTrue, Option, None, Some, slice_get, slice_set, slice_index_or, if◌then◌else◌}
use Rattle.std.specs.Int.{bit_at}
use Rattle.cabling.specs.declared.cable.End.{End}
use Rattle.cabling.specs.declared.cable.CableFault.{CableFault}
use Rattle.cabling.specs.declared.cable.CableFault.TheVariants.{NoNode}
use Rattle.cabling.specs.Wiring.{far}
use Rattle.cabling.specs.Component.{IsComponent}
use Rattle.cabling.specs.Change.{plug_fault, pull_fault}
use Rattle.port_state.specs.Config.{ConfigPacket, HasSixBits, config_packet}
use Rattle.port_state.specs.Machine.{PortNode, NodeStep, node_disturb, node_plugged, node_pulled, node_set_config}
use Rattle.cable_world.specs.declared.act.Act.{Act}
use Rattle.cable_world.specs.declared.act.Act.TheVariants.{Plug, Pull, Reset, Config}
use Rattle.cable_world.specs.Wire.{empty_wire}
use Rattle.cable_world.specs.World.{CableWorld, NodeNumber, NodeSet, wire_of, put}
use Rattle.cable_world.specs.Turn.{wires_after_sends, last_changes}

-- ---- a step of one node

abbrev pub put_step : NodeNumber → NodeStep → CableWorld → CableWorld
put_step node s w = record w {
  nodes = slice_set w.nodes node s.node;
  wires = slice_set w.wires node (wires_after_sends 0 s.sends (slice_index_or w.wires node []));
}

abbrev pub step_at : Option PortNode → NodeNumber → (PortNode → NodeStep) → CableWorld → CableWorld
step_at None node step w = w
step_at (Some x) node step w = put_step node (step x) w

-- the node of this number does this step
abbrev pub with_step : NodeNumber → (PortNode → NodeStep) → CableWorld → CableWorld
with_step node step w = step_at (slice_get w.nodes node) node step w

-- ---- cables

-- a cable with two empty wires joins two ends
abbrev pub add_cable : End → End → CableWorld → CableWorld
add_cable a b w = record w {
  cabling = put b (Some a) (put a (Some b) w.cabling);
  wires = put b empty_wire (put a empty_wire w.wires);
}

-- the cable between two ends is gone, and what was under way on it
abbrev pub remove_cable : End → End → CableWorld → CableWorld
remove_cable a b w = record w {
  cabling = put b None (put a None w.cabling);
  wires = put b empty_wire (put a empty_wire w.wires);
}

abbrev pub plug : End → End → CableWorld → CableWorld
plug a b w =
    with_step b.node (node_plugged b.port)
    (with_step a.node (node_plugged a.port) (add_cable a b w))

abbrev pub pull_from : End → Option End → CableWorld → CableWorld
pull_from a None w = w
pull_from a (Some b) w =
    with_step b.node (node_pulled b.port)
    (with_step a.node (node_pulled a.port) (remove_cable a b w))

-- the cable at this end is pulled
abbrev pub pull : End → CableWorld → CableWorld
pull end w = pull_from end (far w.cabling end) w

-- ---- resets, and configuration packets

abbrev pub reset : NodeNumber → CableWorld → CableWorld
reset node w = with_step node node_disturb w

-- the nodes of a set, where the first of these nodes has number k
abbrev pub change_in_set :
    NodeSet → (PortNode → PortNode) → NodeNumber → List PortNode → List PortNode
change_in_set set change k [] = []
change_in_set set change k (x ∷ nodes) =
    (if bit_at set k == 1 then change x else x) ∷ change_in_set set change (k + 1) nodes

-- every node of the set hears the packet, and then node `from` resets the bus
abbrev pub configure : NodeSet → NodeNumber → ConfigPacket → CableWorld → CableWorld
configure set from packet w =
    reset from (record w { nodes = change_in_set set (node_set_config packet) 0 w.nodes })

-- ---- the four acts

-- the world after an act, with what it changed in lists noted
abbrev pub note_changes : CableWorld → CableWorld → CableWorld
note_changes before after = record after {
  changed = last_changes before.turns before.nodes after.nodes before.changed;
}

-- an act turns the first world into the second
abbrev pub ActLeads : Act → CableWorld → CableWorld → Type 0
ActLeads (Plug a b) w v = v ≡ note_changes w (plug a b w)
ActLeads (Pull end) w v = v ≡ note_changes w (pull end w)
ActLeads (Reset node) w v = v ≡ note_changes w (reset node w)
ActLeads (Config from root_id force gap) w v =
    let packet = config_packet root_id force gap in
    (set : NodeSet) × IsComponent w.cabling from set
    × (v ≡ note_changes w (configure set from packet w))

abbrev pub node_fault : NodeNumber → CableWorld → Option CableFault
node_fault node w =
    if nat_lt node (length w.nodes) then None else Some (NoNode (record { node = node; port = 0 }))

-- why an act is refused, if it is
abbrev pub act_fault : Act → CableWorld → Option CableFault
act_fault (Plug a b) w = plug_fault w.cabling a b
act_fault (Pull end) w = pull_fault w.cabling end
act_fault (Reset node) w = node_fault node w
act_fault (Config from root_id force gap) w = node_fault from w

-- a configuration packet has R or T set, and its numbers have 6 bits
pub record IsConfigPacket (packet : ConfigPacket) : Type 0 where
  pub bits : HasSixBits packet
  pub says : IsTrue (packet.force || is_some packet.gap)

abbrev pub IsAct : Act → Type 0
IsAct (Plug a b) = Unit {0}
IsAct (Pull end) = Unit {0}
IsAct (Reset node) = Unit {0}
IsAct (Config from root_id force gap) = IsConfigPacket (config_packet root_id force gap)

-- an act that isn't refused turns the first world into the second
abbrev pub Acted : Act → CableWorld → CableWorld → Type 0
Acted a w v = IsAct a × (act_fault a w ≡ None) × ActLeads a w v

-- ---- hold

-- the wire that leaves this end is held for so many turns, whatever it was held for before
abbrev pub hold : End → ℕ → CableWorld → CableWorld
hold end turns w = record w { wires = put end (record (wire_of w end) { held = turns }) w.wires }

-- why a hold is refused, if it is: no cable is there
abbrev pub hold_fault : End → CableWorld → Option CableFault
hold_fault end w = pull_fault w.cabling end
