-- The graph of a bus tree whose nodes have names is lines of DOT.
use Rattle.std.proofs.Common.{◌≡◌, ◌∙◌, inl, inr, ℕ, suc, ◌+◌, ◌-◌, ◌==◌, true, false, not, Option, List, [], ◌∷◌, ◌++◌, append_assoc, length, refl, sym, ap, arith}
use Rattle.std.specs.Prelude.{All, slice_index, slice_index_or, codes}
use Rattle.std.proofs.lemmas.Bool.Decides.{nat_tests}
use Rattle.self_id.specs.Node.{Node}
use Rattle.topology_stack.specs.Name.{IsName, IsNameChar}
use Rattle.topology_stack.specs.Tree.{Tree, walk}
use Rattle.topology_stack.specs.Elect.{elected}
use Rattle.view_text.specs.declared.cable.Cable.{Cable}
use Rattle.view_text.specs.Packet.{field}
use Rattle.view_text.specs.Cable.{cables}
use Rattle.view_text.specs.Graph.{line_break, root_box, irm_box, graph_label, graph_edge, graph_head}
use Rattle.view_text.specs.NamedGraph.{named_front, named_node, named_nodes, between_numbers, numbered_edges, named_graph}
use Rattle.view_text.specs.Dot.{word, IsDotText, is_quotable, statement_lines}
use Rattle.view_text.proofs.Digits.{two, quotable_more}
use Rattle.view_text.proofs.DotParts.{AreLines, no_lines, one_line, both_lines, lines-append, statements-append}
use Rattle.view_text.proofs.GraphDot.{label_quotable, root_attributes, irm_attributes, box_attributes, box_text, labelled, labelled_line, labelled_is, edge_statement, edge_text, edge_is, head_statements, head_text, head_are}

-- ---- names

name_character : (c : ℕ) → IsNameChar c → (not (c == 34) ≡ true) × ((c == 92) ≡ false)
name_character c (inl letter) = (grind (arith, nat_tests), grind (arith, nat_tests))
name_character c (inr (inl digit)) = (grind (arith, nat_tests), grind (arith, nat_tests))
name_character c (inr (inr line)) = (grind (arith, nat_tests), grind (arith, nat_tests))

characters_quotable : (cs : List ℕ) → All IsNameChar cs → is_quotable false cs ≡ true
characters_quotable [] h = refl
characters_quotable (c ∷ cs) h =
    let p = name_character c (h 0 c (omega arith)) in
    let rest = characters_quotable cs (λ k d less. h (suc k) d (omega (arith, less))) in
    two (not (c == 34)) (is_quotable (c == 92) cs) p.0 (rw p.1 rest)

pub name_quotable : (name : List ℕ) → IsName name → is_quotable false name ≡ true
name_quotable name h = characters_quotable name h.chars

-- ---- nodes

pub named_front_line : (name label box : List ℕ) (number : ℕ) →
    named_front name number ++ (label ++ box)
    ≡ field (codes "  n") number ++ (codes " [label=\"" ++ ((name ++ (line_break ++ label)) ++ box))
unfolding named_front
named_front_line name label box number =
    front_parts (field (codes "  n") number) (codes " [label=\"") name line_break label box
  where
    front_parts : (a b c d e f : List ℕ) → (a ++ (b ++ (c ++ d))) ++ (e ++ f) ≡ a ++ (b ++ ((c ++ (d ++ e)) ++ f))
    front_parts a b c d e f = simp append_assoc

named_text : (name : List ℕ) (number id : ℕ) (n : Node) (root : ℕ) (irm : Option ℕ) →
    named_node name number id n root irm
    ≡ field (codes "  n") number ++ (codes " [label=\"" ++ ((name ++ (line_break ++ graph_label id n root irm))
    ++ (codes "\"" ++ ((root_box id root ++ irm_box id irm) ++ codes "];\n"))))
unfolding named_node
named_text name number id n root irm =
    let e = append_assoc (root_box id root) (irm_box id irm) (codes "];\n") in
    named_front_line name (graph_label id n root irm) (codes "\"" ++ (root_box id root ++ (irm_box id irm ++ codes "];\n"))) number
    ∙ ap (λ (x : List ℕ). field (codes "  n") number ++ (codes " [label=\"" ++ ((name ++ (line_break ++ graph_label id n root irm)) ++ (codes "\"" ++ x)))) (sym e)

one_named : (name : List ℕ) (number id : ℕ) (n : Node) (root : ℕ) (irm : Option ℕ) → is_quotable false name ≡ true →
    AreLines (named_node name number id n root irm)
one_named name number id n root irm fine =
    let label = graph_label id n root irm in
    let more = root_attributes id root ++ irm_attributes id irm in
    let whole : is_quotable false (name ++ (line_break ++ label)) ≡ true =
    quotable_more false name (line_break ++ label) fine (quotable_more false line_break label refl (label_quotable id n root irm)) in
    one_line (labelled number (name ++ (line_break ++ label)) more) (named_node name number id n root irm)
    (labelled_is number (name ++ (line_break ++ label)) more whole (box_attributes id root irm))
    (named_text name number id n root irm
    ∙ labelled_line number (name ++ (line_break ++ label)) (root_box id root ++ irm_box id irm) more (box_text id root irm))

-- each of the names can stand in quotes
abbrev pub AreQuotable : List (List ℕ) → Type 0
AreQuotable names = (id : ℕ) → is_quotable false (slice_index_or names id []) ≡ true

all_named : (names : List (List ℕ)) (numbers : List ℕ) (id : ℕ) (ns : List Node) (root : ℕ) (irm : Option ℕ) → AreQuotable names →
    AreLines (named_nodes names numbers id ns root irm)
all_named names numbers id [] root irm fine = no_lines
all_named names numbers id (n ∷ ns) root irm fine =
    let name = slice_index_or names id [] in
    let number = slice_index numbers id in
    both_lines (named_node name number id n root irm) (named_nodes names numbers (id + 1) ns root irm)
    (one_named name number id n root irm (fine id)) (all_named names numbers (id + 1) ns root irm fine)

-- ---- edges

all_numbered : (numbers : List ℕ) (cs : List Cable) → AreLines (numbered_edges numbers cs)
all_numbered numbers [] = no_lines
all_numbered numbers (c ∷ cs) =
    let d = between_numbers numbers c in
    both_lines (graph_edge d) (numbered_edges numbers cs)
    (one_line (edge_statement d) (graph_edge d) (edge_is d) (edge_text d)) (all_numbered numbers cs)

pub named_lines : (names : List (List ℕ)) (numbers : List ℕ) (t : Tree) → AreQuotable names → AreLines (named_graph names numbers t)
named_lines names numbers t fine =
    both_lines (named_nodes names numbers 0 (walk t) (length (walk t) - 1) (elected t)) (numbered_edges numbers (cables t))
    (all_named names numbers 0 (walk t) (length (walk t) - 1) (elected t) fine) (all_numbered numbers (cables t))

-- ---- a whole graph

-- lines between the head and the closing brace
pub lines_dot : (text : List ℕ) → AreLines text → IsDotText (graph_head ++ (text ++ codes "}\n"))
lines_dot text h =
    let all = head_statements ++ h.statements in
    let e : statement_lines all ++ codes "}\n" ≡ statement_lines head_statements ++ (text ++ codes "}\n") =
    ap (λ (x : List ℕ). x ++ codes "}\n") (lines-append head_statements h.statements ∙ ap (λ (x : List ℕ). statement_lines head_statements ++ x) (sym h.is))
    ∙ append_assoc (statement_lines head_statements) text (codes "}\n") in
    record {
      name = word (codes "bus");
      statements = all;
      is = record {
        name_is = refl;
        are = statements-append head_statements h.statements head_are h.are;
        text_is = head_text (text ++ codes "}\n") ∙ ap (λ (x : List ℕ). codes "graph " ++ (codes "bus" ++ (codes " {\n" ++ x))) (sym e);
      };
    }
