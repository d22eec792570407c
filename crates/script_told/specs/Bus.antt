-- The bus of a script between two of its lines, and what the script keeps beside it.
use Rattle.std.specs.Prelude.{ℕ, ◌==◌, Bool, List, length, find, replicate, slice_get, slice_set, slice_index_or, position, Option, None, Some, if◌then◌else◌}
use Rattle.std.specs.Int.{bit_at}
use Rattle.std.specs.List.{list_any}
use Rattle.std.specs.Option.{option_and_then}
use Rattle.std.specs.Str.{bytes_eq}
use Rattle.port_state.specs.Machine.{PortNode}
use Rattle.cable_world.specs.World.{CableWorld, NodeNumber, world_with_times}
use Rattle.resource_manager.specs.declared.grant.Seen.{Seen}
use Rattle.resource_manager.specs.declared.access.Access.{Access}
use Rattle.resource_manager.specs.Register.{Values, initial_values}
use Rattle.resource_manager.specs.Access.{after}
use Rattle.settle.specs.declared.report.Outcome.{Outcome}
use Rattle.settle.specs.declared.report.Outcome.TheVariants as reported
use Rattle.settle.specs.declared.report.Part.{Part}
use Rattle.settle.specs.declared.report.Report.{Report}
use Rattle.script_lines.specs.declared.times.ScriptTimes.{ScriptTimes}
use Rattle.script_text.specs.ReportText.{Names}

-- a node's registers, and the count of its resets when they were last used
pub record Bank : Type 0 where
  pub resets : ℕ
  pub values : Values

-- what a script keeps beside the world
pub record Notes : Type 0 where
  -- what the script says of the times of its nodes
  pub times : ScriptTimes
  -- the name of each node
  pub names : Names
  -- the registers of each node
  pub banks : List Bank
  -- what each node saw of the registers, where it keeps a look
  pub looks : List (Option Seen)
  -- the report of the last `settle`, where no act came since
  pub report : Option Report
  -- the numbers of reports and of maps that were shown
  pub reports : ℕ
  pub maps : ℕ

pub record Bus : Type 0 where
  pub world : CableWorld
  pub notes : Notes

-- ---- at first

abbrev pub first_bank : Bank
first_bank = record { resets = 0; values = initial_values }

abbrev pub notes_of : ScriptTimes → Names → Notes
notes_of times names = record {
  times = times;
  names = names;
  banks = replicate (length names) first_bank;
  looks = replicate (length names) None;
  report = None;
  reports = 0;
  maps = 0;
}

-- nodes with these names, just powered on, without cables; no node's times are longer than the
-- longest of their ranges
abbrev pub bus_of_nodes : ℕ → ScriptTimes → Names → List PortNode → Bus
bus_of_nodes d times names nodes = record {
  world = world_with_times d times.ranges.most nodes;
  notes = notes_of times names;
}

-- ---- nodes

-- the number of the node with a name
abbrev pub node_named : Names → List ℕ → Option NodeNumber
node_named names name = position (bytes_eq name) names

-- whether a node with this name is declared
abbrev pub is_declared : Names → List ℕ → Bool
is_declared names name = list_any (bytes_eq name) names

abbrev pub resets_shown : Option PortNode → ℕ
resets_shown None = 0
resets_shown (Some x) = x.state.view.resets

-- how many resets a node counts
abbrev pub resets_of : CableWorld → NodeNumber → ℕ
resets_of w node = resets_shown (slice_get w.nodes node)

-- ---- the last report

-- a tree as it was reported: its list, and the node of each ID
pub record ReportedTree : Type 0 where
  pub root : NodeNumber
  pub list : List ℕ
  pub order : List NodeNumber

abbrev pub tree_of : Part → Option ReportedTree
tree_of part = of_outcome part.outcome
  where
    of_outcome : Outcome → Option ReportedTree
    of_outcome (reported.Tree root list order) =
        Some (record { root = root; list = list; order = order })
    of_outcome outcome = None

-- the part of a report with this node
abbrev pub part_with : NodeNumber → Report → Option Part
part_with node report = find (λ part. bit_at part.nodes node == 1) report.parts

-- the tree with this node, where it stands settled as a tree
abbrev pub tree_with : NodeNumber → Notes → Option ReportedTree
tree_with node notes = option_and_then tree_of (option_and_then (part_with node) notes.report)

-- ---- registers

-- the values of registers after so many resets of their node: a reset restores the initial ones
abbrev pub values_after : ℕ → Bank → Values
values_after resets bank = if bank.resets == resets then bank.values else initial_values

-- the values of a node's registers now
abbrev pub values_at : NodeNumber → Bus → Values
values_at node bus =
    values_after (resets_of bus.world node) (slice_index_or bus.notes.banks node first_bank)

-- the notes with these values for a node's registers
abbrev pub put_values : NodeNumber → Values → Bus → Bus
put_values node values bus =
    let bank : Bank = record { resets = resets_of bus.world node; values = values } in
    record bus { notes = record bus.notes { banks = slice_set bus.notes.banks node bank } }

-- a call to a node's registers is carried out
abbrev pub after_access : NodeNumber → Access → Bus → Bus
after_access node access bus = put_values node (after (values_at node bus) access) bus

-- what a node's last look saw, and else what can be seen now is `now`
abbrev pub look_of : NodeNumber → Notes → Option Seen
look_of node notes = slice_index_or notes.looks node None

abbrev pub put_look : NodeNumber → Option Seen → Bus → Bus
put_look node look bus =
    record bus { notes = record bus.notes { looks = slice_set bus.notes.looks node look } }
