-- The graph of a component that is a tree is lines of DOT.
use Rattle.std.proofs.Common.{◌≡◌, ◌∙◌, ℕ, ◌+◌, ◌-◌, ◌<◌, true, false, Option, List, [], ◌∷◌, ◌++◌, drop, append_assoc, append-nil, length, refl, sym, ap, arith}
use Rattle.std.specs.Prelude.{map, slice_index, slice_index_or, codes}
use Rattle.std.proofs.lemmas.List.{drop_more, drop_all}
use Rattle.self_id.specs.Node.{Node}
use Rattle.topology_stack.specs.Tree.{Tree, walk}
use Rattle.topology_stack.specs.Elect.{elected}
use Rattle.view_text.specs.declared.cable.Cable.{Cable}
use Rattle.view_text.specs.Cable.{cables}
use Rattle.view_text.specs.Packet.{field}
use Rattle.view_text.specs.Graph.{line_break, root_box, irm_box, graph_label, graph_edge}
use Rattle.view_text.specs.NamedGraph.{named_node, named_nodes, between_numbers, numbered_edges, named_graph}
use Rattle.view_text.specs.Dot.{is_quotable}
use Rattle.view_text.proofs.Lemmas.{quotable_more, label_quotable, root_attributes, irm_attributes, box_attributes, box_text, labelled_line, edge_statement, edge_text, edge_is, named_front_line}
use Rattle.report_views.specs.Dots.{ends_in, Shown, together}
use Rattle.report_views.proofs.DotLines.{AreLines, of_nodes, of_cables, no_lines, one_node, one_cable, both}

-- ---- nodes

one_named : (name : List ℕ) (number id : ℕ) (n : Node) (root : ℕ) (irm : Option ℕ) → is_quotable false name ≡ true →
    AreLines (of_nodes (number ∷ [])) (named_node name number id n root irm)
unfolding named_node
one_named name number id n root irm fine =
    let label = graph_label id n root irm in
    let more = root_attributes id root ++ irm_attributes id irm in
    let whole : is_quotable false (name ++ (line_break ++ label)) ≡ true =
    quotable_more false name (line_break ++ label) fine (quotable_more false line_break label refl (label_quotable id n root irm)) in
    let boxes = append_assoc (root_box id root) (irm_box id irm) (codes "];\n") in
    one_node number (name ++ (line_break ++ label)) more (named_node name number id n root irm) whole (box_attributes id root irm)
    (named_front_line name label (codes "\"" ++ (root_box id root ++ (irm_box id irm ++ codes "];\n"))) number
    ∙ (ap (λ (x : List ℕ). field (codes "  n") number ++ (codes " [label=\"" ++ ((name ++ (line_break ++ label)) ++ (codes "\"" ++ x)))) (sym boxes)
    ∙ labelled_line number (name ++ (line_break ++ label)) (root_box id root ++ irm_box id irm) more (box_text id root irm)))

-- the numbers of nodes whose IDs are counted from `id`
abbrev numbers_from : List ℕ → ℕ → List Node → List ℕ
numbers_from order id [] = []
numbers_from order id (n ∷ ns) = slice_index order id ∷ numbers_from order (id + 1) ns

all_numbers : (order : List ℕ) (id : ℕ) (ns : List Node) → length order ≡ id + length ns → numbers_from order id ns ≡ drop id order
all_numbers order id [] e = sym (drop_all id order (omega (arith, e)))
all_numbers order id (n ∷ ns) e =
    let inside : id < length order = omega (arith, e) in
    ap (λ (l : List ℕ). slice_index order id ∷ l) (all_numbers order (id + 1) ns (omega (arith, e)))
    ∙ sym (drop_more order id 0 inside)

-- each of the names can stand in quotes
abbrev pub AreQuotable : List (List ℕ) → Type 0
AreQuotable names = (id : ℕ) → is_quotable false (slice_index_or names id []) ≡ true

all_named : (names : List (List ℕ)) (order : List ℕ) (id : ℕ) (ns : List Node) (root : ℕ) (irm : Option ℕ) → AreQuotable names →
    AreLines (of_nodes (numbers_from order id ns)) (named_nodes names order id ns root irm)
all_named names order id [] root irm fine = no_lines
all_named names order id (n ∷ ns) root irm fine =
    let name = slice_index_or names id [] in
    let number = slice_index order id in
    both (of_nodes (number ∷ [])) (of_nodes (numbers_from order (id + 1) ns)) (named_node name number id n root irm) (named_nodes names order (id + 1) ns root irm)
    (one_named name number id n root irm (fine id)) (all_named names order (id + 1) ns root irm fine)

-- ---- edges

all_numbered : (order : List ℕ) (cs : List Cable) → AreLines (of_cables (map (ends_in order) cs)) (numbered_edges order cs)
all_numbered order [] = no_lines
all_numbered order (c ∷ cs) =
    let d = between_numbers order c in
    let ends = ends_in order c in
    both (of_cables (ends ∷ [])) (of_cables (map (ends_in order) cs)) (graph_edge d) (numbered_edges order cs)
    (one_cable ends.0 ends.1 (edge_statement d) (graph_edge d) refl refl (edge_is d) (edge_text d)) (all_numbered order cs)

-- ---- the whole

pub tree_lines : (names : List (List ℕ)) (order : List ℕ) (t : Tree) → AreQuotable names → length order ≡ length (walk t) →
    (shown : Shown) × (shown.nodes ≡ order) × (shown.cables ≡ map (ends_in order) (cables t))
    × AreLines shown (named_graph names order t)
tree_lines names order t fine whole =
    let ns = walk t in
    let root = length ns - 1 in (
      together (of_nodes (numbers_from order 0 ns)) (of_cables (map (ends_in order) (cables t))),
      append-nil (numbers_from order 0 ns) ∙ all_numbers order 0 ns (omega (arith, whole)),
      refl,
      both (of_nodes (numbers_from order 0 ns)) (of_cables (map (ends_in order) (cables t))) (named_nodes names order 0 ns root (elected t)) (numbered_edges order (cables t))
          (all_named names order 0 ns root (elected t) fine) (all_numbered order (cables t)),
    )
