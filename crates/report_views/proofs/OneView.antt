-- A report has one graph and one line at most.
use Rattle.std.proofs.Common.{◌≡◌, ◌∙◌, ℕ, List, [], ◌∷◌, ◌++◌, ap, sym}
use Rattle.std.specs.Prelude.{codes}
use Rattle.self_id.specs.declared.standard.Standard.TheVariants.{Ieee2000}
use Rattle.topology_stack.specs.Tree.{Tree}
use Rattle.topology_stack.specs.OneAnswer.{NoListHasTwoTrees}
use Rattle.cabling.specs.NodeSet.{Nodes}
use Rattle.cabling.specs.Wiring.{Wiring}
use Rattle.json.specs.Json.{Items, item, Members, object, no_members, member}
use Rattle.bus_json.specs.Text.{json_line}
use Rattle.bus_json.specs.Bus.{tree_members}
use Rattle.view_text.specs.Graph.{graph_head}
use Rattle.view_text.specs.NamedGraph.{named_graph}
use Rattle.settle.specs.declared.report.Outcome.{Outcome}
use Rattle.settle.specs.declared.report.Outcome.TheVariants as reported
use Rattle.settle.specs.declared.report.Part.{Part}
use Rattle.script_text.specs.ReportText.{Names, names_in}
use Rattle.report_views.specs.ReportGraph.{IsOutcomeGraph, ArePartGraphs}
use Rattle.report_views.specs.ReportJson.{IsOutcomeMember, component_value, AreComponents, report_value}
use Rattle.report_views.specs.OneView.{ReportsHaveOneGraph, ReportsHaveOneLine}

-- ---- graphs

one-outcome : NoListHasTwoTrees → (names : Names) (c : Wiring) (set : Nodes) (o : Outcome) (a b : List ℕ) →
    IsOutcomeGraph names c set o a → IsOutcomeGraph names c set o b → a ≡ b
one-outcome one names c set (reported.Tree root list order) a b x y =
    x.is
    ∙ ap (λ (t : Tree). named_graph (names_in names order) order t) (one Ieee2000 x.tree y.tree x.valid y.valid (x.emitted ∙ sym y.emitted))
    ∙ sym y.is
one-outcome one names c set (reported.Contention p q) a b x y = x ∙ sym y
one-outcome one names c set (reported.Loop core) a b x y = x ∙ sym y

one-list : NoListHasTwoTrees → (names : Names) (c : Wiring) (parts : List Part) (a b : List ℕ) →
    ArePartGraphs names c parts a → ArePartGraphs names c parts b → a ≡ b
one-list one names c [] a b x y = x ∙ sym y
one-list one names c (part ∷ parts) a b x y =
    x.4
    ∙ ap (λ (text : List ℕ). text ++ x.1) (one-outcome one names c part.nodes part.outcome x.0 y.0 x.2 y.2)
    ∙ ap (λ (text : List ℕ). y.0 ++ text) (one-list one names c parts x.1 y.1 x.3 y.3)
    ∙ sym y.4

pub one-graph : NoListHasTwoTrees → ReportsHaveOneGraph
one-graph one names c report a b x y =
    x.is
    ∙ ap (λ (text : List ℕ). graph_head ++ (text ++ codes "}\n")) (one-list one names c report.parts x.parts y.parts x.are y.are)
    ∙ sym y.is

-- ---- lines

one-member : NoListHasTwoTrees → (names : Names) (o : Outcome) (a b : Members) →
    IsOutcomeMember names o a → IsOutcomeMember names o b → a ≡ b
one-member one names (reported.Tree root list order) a b x y =
    x.is
    ∙ ap (λ (t : Tree). member (codes "tree") (object (tree_members (names_in names order) t)) no_members) (one Ieee2000 x.tree y.tree x.valid y.valid (x.emitted ∙ sym y.emitted))
    ∙ sym y.is
one-member one names (reported.Contention p q) a b x y = x ∙ sym y
one-member one names (reported.Loop core) a b x y = x ∙ sym y

one-components : NoListHasTwoTrees → (names : Names) (parts : List Part) (a b : Items) →
    AreComponents names parts a → AreComponents names parts b → a ≡ b
one-components one names [] a b x y = x ∙ sym y
one-components one names (part ∷ parts) a b x y =
    x.4
    ∙ ap (λ (m : Members). item (component_value names part m) x.1) (one-member one names part.outcome x.0 y.0 x.2 y.2)
    ∙ ap (λ (more : Items). item (component_value names part y.0) more) (one-components one names parts x.1 y.1 x.3 y.3)
    ∙ sym y.4

pub one-line : NoListHasTwoTrees → ReportsHaveOneLine
one-line one names number report a b x y =
    x.is
    ∙ ap (λ (items : Items). json_line (report_value number report.turn items)) (one-components one names report.parts x.components y.components x.are y.are)
    ∙ sym y.is
