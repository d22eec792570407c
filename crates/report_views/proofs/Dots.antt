-- The graph of a report is one in DOT.
use Rattle.std.proofs.Common.{◌≡◌, ◌∙◌, ℕ, zero, suc, true, false, List, [], ◌∷◌, ◌++◌, append_assoc, length, refl, sym, subst, ap}
use Rattle.std.specs.Prelude.{All, slice_index_or, codes}
use Rattle.std.proofs.lemmas.List.Elements.{All-head, All-tail}
use Rattle.std.proofs.lemmas.Option.{unwrap_or-slice_get}
use Rattle.self_id.specs.declared.standard.Standard.TheVariants.{Ieee2000}
use Rattle.topology_stack.specs.Name.{IsName}
use Rattle.topology_stack.specs.Tree.{Tree, walk}
use Rattle.topology_stack.specs.OneAnswer.{NoListHasTwoTrees}
use Rattle.cabling.specs.NodeSet.{Nodes}
use Rattle.cabling.specs.Wiring.{Wiring}
use Rattle.view_text.specs.Graph.{graph_head}
use Rattle.view_text.specs.Dot.{is_quotable, statement_lines}
use Rattle.view_text.proofs.Lemmas.{name_quotable, head_statements, head_text, head_are, lines-append, statements-append}
use Rattle.settle.specs.declared.report.Outcome.{Outcome}
use Rattle.settle.specs.declared.report.Outcome.TheVariants as reported
use Rattle.settle.specs.declared.report.Part.{Part}
use Rattle.script_text.specs.ReportText.{Names, names_in, IsNamedOutcome, IsNamedPart}
use Rattle.report_views.specs.ReportGraph.{IsOutcomeGraph, ArePartGraphs}
use Rattle.report_views.specs.Dots.{Shown, nothing, together, ShowsOutcome, ShowsParts, IsDotOf, ReportGraphsAreDot}
use Rattle.report_views.proofs.DotLines.{AreLines, no_lines, both}
use Rattle.report_views.proofs.TreeDot.{AreQuotable, tree_lines}
use Rattle.report_views.proofs.PlainDot.{CanBeQuoted, plain_lines}

-- ---- names

name_there : (names : Names) (node : ℕ) → All IsName names → is_quotable false (slice_index_or names node []) ≡ true
name_there [] node h = refl
name_there (name ∷ names) zero h = name_quotable name (All-head IsName name names h)
name_there (name ∷ names) (suc node) h = name_there names node (All-tail IsName name names h)

can_be_quoted : (names : Names) → All IsName names → CanBeQuoted names
can_be_quoted names h node =
    subst (λ (name : List ℕ). is_quotable false name ≡ true) (sym (unwrap_or-slice_get names node [])) (name_there names node h)

in_order : (names : Names) (order : List ℕ) → CanBeQuoted names → AreQuotable (names_in names order)
in_order names [] fine id = refl
in_order names (node ∷ order) fine zero = fine node
in_order names (node ∷ order) fine (suc id) = in_order names order fine id

-- ---- components

-- what is shown of a component is lines
record HasLines (c : Wiring) (set : Nodes) (o : Outcome) (text : List ℕ) : Type 0 where
  shown : Shown
  told : ShowsOutcome c set o shown
  lines : AreLines shown text

module _ (one : NoListHasTwoTrees) (names : Names) (fine : CanBeQuoted names) where
  outcome_lines : (c : Wiring) (set : Nodes) (o : Outcome) (text : List ℕ) → IsNamedOutcome names o → IsOutcomeGraph names c set o text →
      HasLines c set o text
  outcome_lines c set (reported.Tree root list order) text h x =
      let same : h.tree ≡ x.tree = one Ieee2000 h.tree x.tree h.valid x.valid (h.emitted ∙ sym x.emitted) in
      let lines = tree_lines (names_in names order) order x.tree (in_order names order fine) (h.whole ∙ ap (λ (t : Tree). length (walk t)) same) in
      record {
        shown = lines.0;
        told = record { tree = x.tree; valid = x.valid; emitted = x.emitted; nodes = lines.1; cables = lines.2 };
        lines = subst (AreLines lines.0) (sym x.is) lines.3;
      }
  outcome_lines c set (reported.Contention a b) text h x =
      let lines = plain_lines names c (reported.Contention a b) set fine in
      record { shown = lines.0; told = lines.1; lines = subst (AreLines lines.0) (sym x) lines.2 }
  outcome_lines c set (reported.Loop core) text h x =
      let lines = plain_lines names c (reported.Loop core) set fine in
      record { shown = lines.0; told = lines.1; lines = subst (AreLines lines.0) (sym x) lines.2 }

  part_lines : (c : Wiring) (parts : List Part) (text : List ℕ) → All (IsNamedPart names) parts → ArePartGraphs names c parts text →
      (shown : Shown) × ShowsParts c parts shown × AreLines shown text
  part_lines c [] text h x = (nothing, refl, subst (AreLines nothing) (sym x) no_lines)
  part_lines c (part ∷ parts) text h x =
      let first = outcome_lines c part.nodes part.outcome x.0 (All-head (IsNamedPart names) part parts h).outcome x.2 in
      let rest = part_lines c parts x.1 (All-tail (IsNamedPart names) part parts h) x.3 in (
        together first.shown rest.0,
        (first.shown, rest.0, first.told, rest.1, refl),
        subst (AreLines (together first.shown rest.0)) (sym x.4) (both first.shown rest.0 x.0 x.1 first.lines rest.2),
      )

-- ---- the whole

-- lines between the head and the closing brace
whole_dot : (shown : Shown) (text : List ℕ) → AreLines shown text → IsDotOf shown (graph_head ++ (text ++ codes "}\n"))
whole_dot shown text h =
    let all = head_statements ++ h.statements in
    let e : statement_lines all ++ codes "}\n" ≡ statement_lines head_statements ++ (text ++ codes "}\n") =
    ap (λ (x : List ℕ). x ++ codes "}\n") (lines-append head_statements h.statements ∙ ap (λ (x : List ℕ). statement_lines head_statements ++ x) (sym h.is))
    ∙ append_assoc (statement_lines head_statements) text (codes "}\n") in
    record {
      statements = all;
      is = record {
        name_is = refl;
        are = statements-append head_statements h.statements head_are h.are;
        text_is = head_text (text ++ codes "}\n") ∙ ap (λ (x : List ℕ). codes "graph " ++ (codes "bus" ++ (codes " {\n" ++ x))) (sym e);
      };
      nodes = h.nodes;
      edges = h.edges;
    }

pub graphs_are_dot : NoListHasTwoTrees → ReportGraphsAreDot
graphs_are_dot one names c report text h named x =
    let parts = part_lines one names (can_be_quoted names h) c report.parts x.parts named x.are in
    record {
      shown = parts.0;
      told = parts.1;
      is = subst (IsDotOf parts.0) (sym x.is) (whole_dot parts.0 x.parts parts.2);
    }
