-- What happens in a turn and at an act: the nodes by rising number.
use Rattle.std.specs.Prelude.{ℕ, ◌+◌, false, List, [], ◌∷◌, ◌++◌, map, length}
use Rattle.port_state.specs.declared.ports.PortView.{PortView}
use Rattle.port_state.specs.Ports.{PortNumber}
use Rattle.port_state.specs.Clock.{misses}
use Rattle.port_state.specs.Machine.{PortNode}
use Rattle.cable_world.specs.World.{CableWorld, NodeNumber, wire_of}
use Rattle.cable_world.specs.Turn.{turn}
use Rattle.script_text.specs.ReportText.{Names}
use Rattle.script_trace.specs.Event.{Seen, node_lines}

-- the nodes from number k on, which showed this before
abbrev pub all_lines : Names → CableWorld → NodeNumber → List Seen → List PortNode → List ℕ
all_lines names w k (s ∷ seen) (x ∷ nodes) =
    node_lines names w k s x.state.view ++ all_lines names w (k + 1) seen nodes
all_lines names w k seen nodes = []

-- what happened up to this world since the nodes showed that
abbrev pub lines_since : Names → List Seen → CableWorld → List ℕ
lines_since names seen w = all_lines names w 0 seen w.nodes

-- ---- a turn

-- in a turn each signal ages, so that none of those before is counted as just sent
abbrev pub seen_before_turn : PortNode → Seen
seen_before_turn x = record { view = x.state.view; there = []; missed = misses x.clock }

-- what happens in the next turn
unfoldable pub turn_lines : Names → CableWorld → List ℕ
turn_lines names w = lines_since names (map seen_before_turn w.nodes) (turn w)

-- ---- an act

-- how many signals are under way on the wires of a node's ports from number k on
abbrev pub counts_from : CableWorld → NodeNumber → PortNumber → List PortView → List ℕ
counts_from w node k [] = []
counts_from w node k (p ∷ ports) =
    length (wire_of w (record { node = node; port = k })).signals ∷ counts_from w node (k + 1) ports

-- node number k, before an act, in which no clock goes on
abbrev pub node_before_act : CableWorld → NodeNumber → PortNode → Seen
node_before_act w k x = record {
  view = x.state.view;
  there = counts_from w k 0 x.state.view.ports;
  missed = false;
}

-- the nodes from number k on
abbrev pub seen_before_act : CableWorld → NodeNumber → List PortNode → List Seen
seen_before_act w k [] = []
seen_before_act w k (x ∷ nodes) = node_before_act w k x ∷ seen_before_act w (k + 1) nodes

-- what an act does that leads from the first world to the second
unfoldable pub act_lines : Names → CableWorld → CableWorld → List ℕ
act_lines names before after = lines_since names (seen_before_act before 0 before.nodes) after
