-- The graph of a report in Graphviz's language.
use Rattle.std.specs.Prelude.{◌≡◌, ℕ, List, [], ◌∷◌, ◌++◌, codes}
use Rattle.self_id.specs.declared.standard.Standard.TheVariants.{Ieee2000}
use Rattle.topology_stack.specs.Tree.{Tree, IsBusTreeOf, emits}
use Rattle.cabling.specs.NodeSet.{Nodes}
use Rattle.cabling.specs.Wiring.{Wiring}
use Rattle.view_text.specs.Graph.{graph_head}
use Rattle.view_text.specs.NamedGraph.{named_graph}
use Rattle.settle.specs.declared.report.Outcome.{Outcome}
use Rattle.settle.specs.declared.report.Outcome.TheVariants as reported
use Rattle.settle.specs.declared.report.Part.{Part}
use Rattle.settle.specs.declared.report.Report.{Report}
use Rattle.script_text.specs.ReportText.{Names, names_in}
use Rattle.report_views.specs.PlainGraph.{plain_graph}

-- the tree that emits the list, with the names and the numbers of its nodes by ID
pub record IsTreeGraph (names : Names) (list order : List ℕ) (text : List ℕ) : Type 0 where
  pub tree : Tree
  pub valid : IsBusTreeOf Ieee2000 tree
  pub emitted : emits tree ≡ list
  pub is : text ≡ named_graph (names_in names order) order tree

-- what a component of these nodes came to
abbrev pub IsOutcomeGraph : Names → Wiring → Nodes → Outcome → List ℕ → Type 0
IsOutcomeGraph names c set (reported.Tree root list order) text = IsTreeGraph names list order text
IsOutcomeGraph names c set (reported.Contention a b) text =
    text ≡ plain_graph names c (reported.Contention a b) set
IsOutcomeGraph names c set (reported.Loop core) text =
    text ≡ plain_graph names c (reported.Loop core) set

-- one component after the other
abbrev pub ArePartGraphs : Names → Wiring → List Part → List ℕ → Type 0
ArePartGraphs names c [] text = text ≡ []
ArePartGraphs names c (part ∷ parts) text =
    (one : List ℕ) × (more : List ℕ) × IsOutcomeGraph names c part.nodes part.outcome one
    × ArePartGraphs names c parts more × (text ≡ one ++ more)

pub record IsReportGraph (names : Names) (c : Wiring) (report : Report) (text : List ℕ)
    : Type 0 where
  pub parts : List ℕ
  pub are : ArePartGraphs names c report.parts parts
  pub is : text ≡ graph_head ++ (parts ++ codes "}\n")
