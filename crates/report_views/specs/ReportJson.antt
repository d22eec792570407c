-- The value of a report: what a program is told of it.
use Rattle.std.specs.Prelude.{◌≡◌, ℕ, zero, suc, ◌+◌, ◌==◌, Bool, true, false, Some, List, [], ◌∷◌, codes}
use Rattle.std.specs.Int.{bit_at}
use Rattle.self_id.specs.declared.standard.Standard.TheVariants.{Ieee2000}
use Rattle.topology_stack.specs.Tree.{Tree, IsBusTreeOf, emits}
use Rattle.cabling.specs.NodeSet.{Nodes}
use Rattle.json.specs.Json.{Json, string, array, object, Items, no_items, item, Members, no_members, member, document}
use Rattle.bus_json.specs.Text.{numeral, json_line, json_text}
use Rattle.bus_json.specs.Bus.{with_schema, tree_members}
use Rattle.settle.specs.declared.report.Outcome.{Outcome}
use Rattle.settle.specs.declared.report.Outcome.TheVariants as reported
use Rattle.settle.specs.declared.report.Part.{Part}
use Rattle.settle.specs.declared.report.Report.{Report}
use Rattle.script_text.specs.ReportText.{Names, name_of, names_in}

-- ---- names

abbrev pub held_item : Bool → List ℕ → Items → Items
held_item false name rest = rest
held_item true name rest = item (string name) rest

-- of so many nodes from one on, those of a set
abbrev pub names_from : Names → Nodes → ℕ → ℕ → Items
names_from names set node zero = no_items
names_from names set node (suc count) =
    held_item (bit_at set node == 1) (name_of names node) (names_from names set (node + 1) count)

-- the names of a set's nodes by rising number
unfoldable pub set_names : Names → Nodes → Items
set_names names set = names_from names set 0 63

-- ---- components

-- the tree that emits the list, with the names of its nodes by ID
pub record IsTreeMember (names : Names) (list order : List ℕ) (members : Members) : Type 0 where
  pub tree : Tree
  pub valid : IsBusTreeOf Ieee2000 tree
  pub emitted : emits tree ≡ list
  pub is :
      members ≡ member (codes "tree") (object (tree_members (names_in names order) tree)) no_members

-- the names of the two nodes that contend
abbrev pub contention_member : Names → ℕ → ℕ → Members
contention_member names a b =
    member (codes "contention")
    (array (item (string (name_of names a)) (item (string (name_of names b)) no_items))) no_members

-- the names of the nodes of the loops
abbrev pub loop_member : Names → Nodes → Members
loop_member names core = member (codes "loop") (array (set_names names core)) no_members

-- what a component came to
abbrev pub IsOutcomeMember : Names → Outcome → Members → Type 0
IsOutcomeMember names (reported.Tree root list order) members =
    IsTreeMember names list order members
IsOutcomeMember names (reported.Contention a b) members = members ≡ contention_member names a b
IsOutcomeMember names (reported.Loop core) members = members ≡ loop_member names core

-- the numbers of a component, the names of its nodes, and what it came to
abbrev pub component_value : Names → Part → Members → Json
component_value names part outcome =
    object (member (codes "rounds") (numeral part.rounds)
    (member (codes "changed") (numeral part.changed)
    (member (codes "names") (array (set_names names part.nodes)) outcome)))

-- one component after the other
abbrev pub AreComponents : Names → List Part → Items → Type 0
AreComponents names [] items = items ≡ no_items
AreComponents names (part ∷ parts) items =
    (outcome : Members) × (more : Items) × IsOutcomeMember names part.outcome outcome
    × AreComponents names parts more × (items ≡ item (component_value names part outcome) more)

-- ---- reports

-- the number of the report, the turns that were done, and the components
abbrev pub report_value : ℕ → ℕ → Items → Json
report_value number turn components =
    with_schema (member (codes "report") (numeral number)
    (member (codes "turn") (numeral turn)
    (member (codes "components") (array components) no_members)))

-- the line of a report
pub record IsReportLine (names : Names) (number : ℕ) (report : Report) (line : List ℕ)
    : Type 0 where
  pub components : Items
  pub are : AreComponents names report.parts components
  pub is : line ≡ json_line (report_value number report.turn components)

-- the line is that of the report, and its text is read back as the value of the report
pub record IsReadLine (names : Names) (number : ℕ) (report : Report) (line : List ℕ)
    : Type 0 where
  pub line_is : IsReportLine names number report line
  pub read_back :
      document (json_text (report_value number report.turn line_is.components))
      ≡ Some (report_value number report.turn line_is.components)
