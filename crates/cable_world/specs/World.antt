-- The world: nodes, the cables between them, and what is under way.
use Rattle.std.specs.Prelude.{◌≡◌, ℕ, ◌+◌, ◌≤◌, List, [], ◌∷◌, length, map, replicate, slice_get, slice_set, slice_index_or, Some, if◌then◌else◌}
use Rattle.cabling.specs.declared.cable.End.{End}
use Rattle.cabling.specs.Wiring.{Wiring, far, without_cables}
use Rattle.port_state.specs.PowerOn as power
use Rattle.port_state.specs.declared.timing.Timing.{Timing}
use Rattle.port_state.specs.Timing.{InRange}
use Rattle.port_state.specs.Valid.{IsValid}
use Rattle.port_state.specs.declared.states.NodeState.{NodeState}
use Rattle.port_state.specs.Clock.{IsRegular, is_even}
use Rattle.port_state.specs.Machine.{PortNode}
use Rattle.cable_world.specs.Wire.{Wire, empty_wire}
use Rattle.cable_world.specs.Times.{Suits, KeepsTime, CanBeForced, longest_in_range}
-- the number of a node, from 0, and a set of such numbers
pub use Rattle.cabling.specs.Wiring.{NodeNumber}
pub use Rattle.cabling.specs.NodeSet.{Nodes as NodeSet}

pub record CableWorld : Type 0 where
  -- d: a cable delays a signal by at most so many turns
  pub delay : ℕ
  -- no node takes longer, in turns: a bound for counting turns, which changes nothing that happens
  pub longest : Timing
  pub cabling : Wiring
  -- each node, by its number
  pub nodes : List PortNode
  -- For each node and port the wire that leaves there. A cable has two wires, one from each of its
  -- ends to the other; where no cable is, the wire is empty.
  pub wires : List (List Wire)
  -- for each node the number of turns done when its list last changed, or 0
  pub changed : List ℕ
  -- the number of turns done
  pub turns : ℕ

-- this holds of the two ends of each cable, and of the nodes there
abbrev pub AtCables : CableWorld → (End → NodeState → End → NodeState → Type 0) → Type 0
AtCables w P =
    (a b : End) (x y : PortNode) → far w.cabling a ≡ Some b →
    slice_get w.nodes a.node ≡ Some x → slice_get w.nodes b.node ≡ Some y →
    P a x.state b y.state

-- the wire that leaves an end
abbrev pub wire_of : CableWorld → End → Wire
wire_of w end = slice_index_or (slice_index_or w.wires end.node []) end.port empty_wire

-- a table by node and port, with one entry replaced
abbrev pub put : {A : Type 0} → End → A → List (List A) → List (List A)
put end a rows = slice_set rows end.node (slice_set (slice_index_or rows end.node []) end.port a)

abbrev pub no_wires : PortNode → List Wire
no_wires x = replicate x.state.ports empty_wire

-- a world of these nodes, without cables, before its first turn
abbrev pub world_with_times : ℕ → Timing → List PortNode → CableWorld
world_with_times d longest nodes = record {
  delay = d;
  longest = longest;
  cabling = without_cables (map (λ (x : PortNode). x.state.ports) nodes);
  nodes = nodes;
  wires = map no_wires nodes;
  changed = replicate (length nodes) 0;
  turns = 0;
}

-- the same, where the times of nodes are in their ranges
abbrev pub world_of_nodes : ℕ → List PortNode → CableWorld
world_of_nodes d nodes = world_with_times d (longest_in_range d) nodes

-- a node that was just powered on, with times in their ranges
pub record IsNodeAtPowerOn (d : ℕ) (x : NodeState) : Type 0 where
  pub is : x ≡ power.power_on_with x.resets_gap x.ports x.attrs x.view.force x.timing
  pub valid : IsValid x
  pub timing : InRange d x.timing

-- a node that was just powered on, with times that suit the bus
pub record IsPowered (d : ℕ) (longest : Timing) (x : NodeState) : Type 0 where
  pub is : x ≡ power.power_on_with x.resets_gap x.ports x.attrs x.view.force x.timing
  pub valid : IsValid x
  pub timing : Suits d longest x.timing

-- the power-on world: every node was just powered on, and there is no cable
pub record IsPowerOnWorld (w : CableWorld) : Type 0 where
  pub some_delay : 1 ≤ w.delay
  pub few_nodes : length w.nodes ≤ 63
  pub nodes :
      (k : ℕ) (x : PortNode) → slice_get w.nodes k ≡ Some x →
      IsPowered w.delay w.longest x.state
  pub clocks :
      (k : ℕ) (x : PortNode) → slice_get w.nodes k ≡ Some x →
      KeepsTime w.longest x.state.timing x.clock
  pub is : w ≡ world_with_times w.delay w.longest w.nodes

-- 0 where all clocks are even; else a clock may miss a turn before its next tick
abbrev pub slack_of : List PortNode → ℕ
slack_of [] = 0
slack_of (n ∷ ns) = if is_even n.clock then slack_of ns else 1

abbrev pub slack : CableWorld → ℕ
slack w = slack_of w.nodes

-- what a node tells is heard at the other end of a cable, where the clock ticks
abbrev pub seen_turns : CableWorld → ℕ
seen_turns w = w.delay + slack w

-- each clock is regular: so the slack stays the same
abbrev pub AllRegular : CableWorld → Type 0
AllRegular w = (k : ℕ) (x : PortNode) → slice_get w.nodes k ≡ Some x → IsRegular x.clock

-- each node becomes root where it waits to be forced
abbrev pub AllCanBeForced : CableWorld → Type 0
AllCanBeForced w =
    (k : ℕ) (x : PortNode) → slice_get w.nodes k ≡ Some x →
    CanBeForced (seen_turns w) w.longest x.state.timing

-- what the code asks of a world that runs: signals no older than a byte tells, nodes that can be forced,
-- and regular clocks
pub record CanRun (w : CableWorld) : Type 0 where
  pub short_delay : w.delay ≤ 16
  pub forced : AllCanBeForced w
  pub regular : AllRegular w
