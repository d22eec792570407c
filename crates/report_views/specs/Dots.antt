-- The graph of a report is one in DOT: with a node for each node and an edge for each cable, and no others.
use Rattle.std.specs.Prelude.{◌≡◌, ℕ, zero, suc, ◌+◌, ◌==◌, nat_lt, cond, Option, Some, None, List, [], ◌∷◌, ◌++◌, All, map, slice_index, codes}
use Rattle.std.specs.Int.{bit_at}
use Rattle.self_id.specs.declared.standard.Standard.TheVariants.{Ieee2000}
use Rattle.topology_stack.specs.Name.{IsName}
use Rattle.topology_stack.specs.Tree.{Tree, IsBusTreeOf, emits}
use Rattle.cabling.specs.declared.cable.End.{End}
use Rattle.cabling.specs.NodeSet.{Nodes}
use Rattle.cabling.specs.Wiring.{NodeNumber, Wiring, ports_of}
use Rattle.view_text.specs.declared.cable.Cable.{Cable}
use Rattle.view_text.specs.Cable.{cables}
use Rattle.view_text.specs.Dot.{Id, word, Statement, IsDot, nodes_of, edges_of}
use Rattle.view_text.specs.GraphDot.{node_name}
use Rattle.settle.specs.declared.report.Outcome.{Outcome}
use Rattle.settle.specs.declared.report.Outcome.TheVariants as reported
use Rattle.settle.specs.declared.report.Part.{Part}
use Rattle.settle.specs.declared.report.Report.{Report}
use Rattle.script_text.specs.ReportText.{Names, IsNamedReport}
use Rattle.report_views.specs.ReportGraph.{IsReportGraph}

-- ---- the nodes of a component, and its cables

-- a cable has two ends
abbrev pub Ends : Type 0
Ends = End × End

-- a cable of a tree, of which the order has the node of each ID, from the parent to the child
abbrev pub ends_in : List NodeNumber → Cable → Ends
ends_in order c = (
  record { node = slice_index order c.parent; port = c.port },
  record { node = slice_index order c.child; port = c.child_port },
)

-- the nodes of a set that are below a number
abbrev pub held_below : Nodes → ℕ → List NodeNumber
held_below set zero = []
held_below set (suc node) = held_below set node ++ cond (bit_at set node == 1) (node ∷ []) []

-- a cable is counted at the lower of its two nodes
abbrev pub ends_at : End → Option End → List Ends
ends_at end None = []
ends_at end (Some far) = cond (nat_lt end.node far.node) ((end, far) ∷ []) []

-- the cables of a node's ports, numbered from `port`
abbrev pub ends_from : NodeNumber → ℕ → List (Option End) → List Ends
ends_from node port [] = []
ends_from node port (far ∷ fars) =
    ends_at (record { node = node; port = port }) far ++ ends_from node (port + 1) fars

-- the cables of the nodes of a set that are below a number
abbrev pub ends_below : Wiring → Nodes → ℕ → List Ends
ends_below c set zero = []
ends_below c set (suc node) =
    ends_below c set node ++ cond (bit_at set node == 1) (ends_from node 0 (ports_of c node)) []

-- ---- what is shown

pub record Shown : Type 0 where
  pub nodes : List NodeNumber
  pub cables : List Ends

abbrev pub nothing : Shown
nothing = record { nodes = []; cables = [] }

abbrev pub together : Shown → Shown → Shown
together one other =
    record { nodes = one.nodes ++ other.nodes; cables = one.cables ++ other.cables }

-- the nodes of a tree by rising ID, and the cables of the tree that emits the list
pub record ShowsTree (list order : List ℕ) (shown : Shown) : Type 0 where
  pub tree : Tree
  pub valid : IsBusTreeOf Ieee2000 tree
  pub emitted : emits tree ≡ list
  pub nodes : shown.nodes ≡ order
  pub cables : shown.cables ≡ map (ends_in order) (cables tree)

-- all nodes of a component and all cables between them
pub record ShowsAll (c : Wiring) (set : Nodes) (shown : Shown) : Type 0 where
  pub nodes : shown.nodes ≡ held_below set 63
  pub cables : shown.cables ≡ ends_below c set 63

-- what is shown of a component, by what it came to
abbrev pub ShowsOutcome : Wiring → Nodes → Outcome → Shown → Type 0
ShowsOutcome c set (reported.Tree root list order) shown = ShowsTree list order shown
ShowsOutcome c set (reported.Contention a b) shown = ShowsAll c set shown
ShowsOutcome c set (reported.Loop core) shown = ShowsAll c set shown

-- one component after the other
abbrev pub ShowsParts : Wiring → List Part → Shown → Type 0
ShowsParts c [] shown = shown ≡ nothing
ShowsParts c (part ∷ parts) shown =
    (one : Shown) × (more : Shown) × ShowsOutcome c part.nodes part.outcome one
    × ShowsParts c parts more × (shown ≡ together one more)

-- ---- the graph

-- a cable is an edge between the names of its two nodes
abbrev pub edge_of : Ends → Id × Id
edge_of ends = (node_name ends.0.node, node_name ends.1.node)

-- a text is a graph in DOT that has these nodes and no other, and an edge for each of these cables and no other
pub record IsDotOf (shown : Shown) (text : List ℕ) : Type 0 where
  pub statements : List Statement
  pub is : IsDot (word (codes "bus")) statements text
  pub nodes : nodes_of statements ≡ map node_name shown.nodes
  pub edges : edges_of statements ≡ map edge_of shown.cables

-- it is one of what is shown of a report's components
pub record IsReportDot (c : Wiring) (report : Report) (text : List ℕ) : Type 0 where
  pub shown : Shown
  pub told : ShowsParts c report.parts shown
  pub is : IsDotOf shown text

-- ---- laws

-- whatever the report, where its nodes have names
abbrev pub ReportGraphsAreDot : Type 0
ReportGraphsAreDot =
    (names : Names) (c : Wiring) (report : Report) (text : List ℕ) → All IsName names →
    IsNamedReport names report → IsReportGraph names c report text → IsReportDot c report text
