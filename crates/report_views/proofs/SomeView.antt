-- A report that can be shown has a graph and a line.
use Rattle.std.proofs.Common.{ℕ, List, [], ◌∷◌, ◌++◌, All, refl}
use Rattle.std.specs.Prelude.{codes}
use Rattle.std.proofs.lemmas.List.Elements.{All-head, All-tail}
use Rattle.cabling.specs.NodeSet.{Nodes}
use Rattle.cabling.specs.Wiring.{Wiring}
use Rattle.json.specs.Json.{Items, no_items, item, Members, object, no_members, member}
use Rattle.bus_json.specs.Text.{json_line}
use Rattle.bus_json.specs.Bus.{tree_members}
use Rattle.view_text.specs.Graph.{graph_head}
use Rattle.view_text.specs.NamedGraph.{named_graph}
use Rattle.settle.specs.declared.report.Outcome.{Outcome}
use Rattle.settle.specs.declared.report.Outcome.TheVariants as reported
use Rattle.settle.specs.declared.report.Part.{Part}
use Rattle.script_text.specs.ReportText.{Names, names_in, IsNamedOutcome, IsNamedPart}
use Rattle.report_views.specs.PlainGraph.{plain_graph}
use Rattle.report_views.specs.ReportGraph.{IsOutcomeGraph, ArePartGraphs}
use Rattle.report_views.specs.ReportJson.{contention_member, loop_member, IsOutcomeMember, component_value, AreComponents, report_value}
use Rattle.report_views.specs.OneView.{NamedReportsHaveGraphs, NamedReportsHaveLines}

-- ---- graphs

outcome-graph : (names : Names) (c : Wiring) (set : Nodes) (o : Outcome) → IsNamedOutcome names o →
    (text : List ℕ) × IsOutcomeGraph names c set o text
outcome-graph names c set (reported.Tree root list order) h = (
  named_graph (names_in names order) order h.tree,
  record { tree = h.tree; valid = h.valid; emitted = h.emitted; is = refl },
)
outcome-graph names c set (reported.Contention a b) h = (plain_graph names c (reported.Contention a b) set, refl)
outcome-graph names c set (reported.Loop core) h = (plain_graph names c (reported.Loop core) set, refl)

part-graphs : (names : Names) (c : Wiring) (parts : List Part) → All (IsNamedPart names) parts →
    (text : List ℕ) × ArePartGraphs names c parts text
part-graphs names c [] h = ([], refl)
part-graphs names c (part ∷ parts) h =
    let one = outcome-graph names c part.nodes part.outcome (All-head (IsNamedPart names) part parts h).outcome in
    let more = part-graphs names c parts (All-tail (IsNamedPart names) part parts h) in
    (one.0 ++ more.0, (one.0, more.0, one.1, more.1, refl))

pub some-graph : NamedReportsHaveGraphs
some-graph names c report h =
    let parts = part-graphs names c report.parts h in
    record { text = graph_head ++ (parts.0 ++ codes "}\n"); is = record { parts = parts.0; are = parts.1; is = refl } }

-- ---- lines

outcome-member : (names : Names) (o : Outcome) → IsNamedOutcome names o → (m : Members) × IsOutcomeMember names o m
outcome-member names (reported.Tree root list order) h = (
  member (codes "tree") (object (tree_members (names_in names order) h.tree)) no_members,
  record { tree = h.tree; valid = h.valid; emitted = h.emitted; is = refl },
)
outcome-member names (reported.Contention a b) h = (contention_member names a b, refl)
outcome-member names (reported.Loop core) h = (loop_member names core, refl)

components : (names : Names) (parts : List Part) → All (IsNamedPart names) parts →
    (items : Items) × AreComponents names parts items
components names [] h = (no_items, refl)
components names (part ∷ parts) h =
    let one = outcome-member names part.outcome (All-head (IsNamedPart names) part parts h).outcome in
    let more = components names parts (All-tail (IsNamedPart names) part parts h) in
    (item (component_value names part one.0) more.0, (one.0, more.0, one.1, more.1, refl))

pub some-line : NamedReportsHaveLines
some-line names number report h =
    let items = components names report.parts h in
    record { line = json_line (report_value number report.turn items.0); is = record { components = items.0; are = items.1; is = refl } }
