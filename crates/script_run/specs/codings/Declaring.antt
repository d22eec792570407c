-- The nodes that a script declares, as the code keeps them.
use Rattle.std.specs.Prelude.{◌≡◌, ℕ, ◌+◌, ◌≤◌, false, All, length, map, Ok, Some, []}
use Rattle.phy_machine.specs.Any.{any_node}
use Rattle.port_state.specs.Machine.{PortNode}
use Rattle.port_state.specs.declared.ranges.TimeRanges.{TimeRanges}
use Rattle.cable_world.specs.World.{slack_of}
use Rattle.script_told.specs.Fitting.{AreFitting, AreForced, IsFitting, spare}
use Rattle.script_run.specs.declared.draft.Draft as kept
use Rattle.script_run.specs.declared.draft.NodeLine.{NodeLine}
use Rattle.script_lines.specs.Range.{IsNodeInRange}
use Rattle.script_told.specs.Script.{Draft, Declares, StageAnswer, declaring, new_node, times_of, coins_of}

abbrev pub draft_now : kept.Draft → Draft
draft_now draft = record {
  delay = draft.delay;
  times = draft.times;
  names = draft.names;
  nodes = map any_node draft.machines.items;
  slowed = draft.slowed;
}

-- what holds of what was declared: there are 63 nodes at most, each just powered on
pub record IsDraft (draft : kept.Draft) : Type 0 where
  pub some_delay : 1 ≤ draft.delay
  pub short_delay : draft.delay ≤ 16
  pub ranges : AreFitting draft.delay draft.times.ranges
  pub forced : AreForced (draft.delay + spare draft.slowed) draft.times.ranges
  pub slack : slack_of (map any_node draft.machines.items) ≡ spare draft.slowed
  pub few : length draft.machines.items ≤ 63
  pub named : length draft.names ≡ length draft.machines.items
  pub nodes :
      All (λ m. IsFitting draft.delay draft.times.ranges (any_node m)) draft.machines.items

-- what a line says of a node, where the times of nodes are in these ranges
pub record IsLine (ranges : TimeRanges) (node : NodeLine) : Type 0 where
  pub ranged :
      IsNodeInRange ranges node.ports node.attrs.speed node.attrs.power node.attrs.gap node.times.hold
      node.times.short node.times.long node.coins.len
  pub no_delay : node.attrs.delay ≡ 0

-- the node that a line declares, where the times of nodes are in these ranges and the node gets this
-- number
abbrev pub node_said : NodeLine → TimeRanges → ℕ → PortNode
node_said node ranges number =
    new_node node.attrs node.ports node.force node.gap_reset
    (times_of ranges node.times.hold node.times.short node.times.long)
    (coins_of number node.coins.word node.coins.len node.coins.seed)

-- the same node, if it didn't reset its gap count
abbrev pub plain_said : NodeLine → TimeRanges → ℕ → PortNode
plain_said node ranges number =
    new_node node.attrs node.ports node.force false
    (times_of ranges node.times.hold node.times.short node.times.long)
    (coins_of number node.coins.word node.coins.len node.coins.seed)

-- what comes of a line that declares a node
abbrev pub DeclaresNode : kept.Draft → NodeLine → StageAnswer → Type 0
DeclaresNode draft node answer =
    Declares (Some (draft_now draft)) node.name (node_said node) answer

-- the node is declared, and this is the draft then
abbrev pub IsDeclared : kept.Draft → NodeLine → kept.Draft → Type 0
IsDeclared draft node after = DeclaresNode draft node (Ok (declaring (draft_now after), []))
