-- What a trace shows of each node, in a turn and at an act.
use Rattle.std.specs.Prelude.{◌≡◌, ℕ, List, ◌++◌, codes, Some, true, length, slice_get}
use Rattle.port_state.specs.Clock.{misses}
use Rattle.port_state.specs.Machine.{PortNode}
use Rattle.cable_world.specs.World.{CableWorld, NodeNumber}
use Rattle.cable_world.specs.Turn.{turn, turn_at}
use Rattle.script_text.specs.ReportText.{Names}
use Rattle.script_trace.specs.Event.{head, line_of, node_lines}
use Rattle.script_trace.specs.Step.{seen_before_turn, node_before_act, turn_lines, act_lines}

-- these lines stand among those
abbrev pub StandIn : List ℕ → List ℕ → Type 0
StandIn lines all = (before : List ℕ) × (after : List ℕ) × (all ≡ before ++ (lines ++ after))

-- In a turn the lines of a node are, where its clock misses the turn, the one of that, and then those of
-- what its step of the turn changed: its state, its roles, its coin and its ID, and then what it sent.
abbrev pub TurnsShowEachNode : Type 0
TurnsShowEachNode =
    (names : Names) (w : CableWorld) (k : NodeNumber) (x : PortNode) →
    length w.nodes ≡ length w.cabling → slice_get w.nodes k ≡ Some x →
    StandIn (node_lines names (turn w) k (seen_before_turn x) (turn_at w k x).node.state.view)
    (turn_lines names w)

-- Where the node's clock misses the turn, that is said in a line of its own.
abbrev pub MissedTurnsAreShown : Type 0
MissedTurnsAreShown =
    (names : Names) (w : CableWorld) (k : NodeNumber) (x : PortNode) →
    length w.nodes ≡ length w.cabling → slice_get w.nodes k ≡ Some x → misses x.clock ≡ true →
    StandIn (line_of (head names (turn w).turns k) (codes " misses a tick")) (turn_lines names w)

-- Of an act they are those of what is other in the world after it.
abbrev pub ActsShowEachNode : Type 0
ActsShowEachNode =
    (names : Names) (w v : CableWorld) (k : NodeNumber) (x y : PortNode) →
    slice_get w.nodes k ≡ Some x → slice_get v.nodes k ≡ Some y →
    StandIn (node_lines names v k (node_before_act w k x) y.state.view) (act_lines names w v)
