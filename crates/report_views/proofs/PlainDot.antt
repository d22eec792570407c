-- The graph of a component that is no tree is lines of DOT.
use Rattle.std.proofs.Common.{◌≡◌, ◌∙◌, ℕ, zero, suc, ◌+◌, Bool, true, false, cond, Option, Some, None, List, [], ◌∷◌, ◌++◌, decimal, append_assoc, append-nil, refl, sym, ap}
use Rattle.std.specs.Prelude.{◌==◌, ◌||◌, nat_lt, codes}
use Rattle.std.specs.Int.{bit_at}
use Rattle.cabling.specs.declared.cable.End.{End}
use Rattle.cabling.specs.NodeSet.{Nodes}
use Rattle.cabling.specs.Wiring.{NodeNumber, Wiring, ports_of}
use Rattle.view_text.specs.Packet.{field}
use Rattle.view_text.specs.Dot.{word, Attribute, Statement, edge, is_quotable, more_attributes, are_attributes, statement_line, is_statement}
use Rattle.view_text.specs.GraphDot.{node_name}
use Rattle.view_text.proofs.Lemmas.{quotable_more, node_word, set, labelled_line, port_attributes, ports_given}
use Rattle.settle.specs.declared.report.Outcome.{Outcome}
use Rattle.settle.specs.declared.report.Outcome.TheVariants as reported
use Rattle.script_text.specs.ReportText.{Names, name_of}
use Rattle.report_views.specs.PlainGraph.{loop_end, contention_end, label_end, plain_node, nodes_below, edge_nodes, plain_edge, edge_at, edges_at, edges_below, plain_graph}
use Rattle.report_views.specs.Dots.{held_below, ends_at, ends_from, ends_below, Shown, together, ShowsAll}
use Rattle.report_views.proofs.DotLines.{AreLines, of_nodes, of_cables, both_true, no_lines, one_node, one_cable, both, nodes_where, cables_where}

-- ---- nodes

-- the line of a node up to the end of its label
abbrev begun : NodeNumber → List ℕ → List ℕ → List ℕ
begun node name end = field (codes "  n") node ++ (codes " [label=\"" ++ (name ++ end))

-- a name, more of the label behind it, and attributes
ended : (node : NodeNumber) (name tail box end : List ℕ) (more : List Attribute) → is_quotable false name ≡ true → is_quotable false tail ≡ true →
    more_attributes more ≡ box → are_attributes more ≡ true → end ≡ tail ++ (codes "\"" ++ (box ++ codes "];\n")) →
    AreLines (of_nodes (node ∷ [])) (begun node name end)
ended node name tail box end more fine fine_tail text given e =
    one_node node (name ++ tail) more (begun node name end) (quotable_more false name tail fine fine_tail) given
    (ap (λ (x : List ℕ). field (codes "  n") node ++ (codes " [label=\"" ++ x))
    (ap (λ (x : List ℕ). name ++ x) e ∙ sym (append_assoc name tail (codes "\"" ++ (box ++ codes "];\n"))))
    ∙ labelled_line node (name ++ tail) box more text)

abbrev filled : List Attribute
filled = set (codes "style") (word (codes "filled")) ∷ []

bare : (node : NodeNumber) (name : List ℕ) → is_quotable false name ≡ true →
    AreLines (of_nodes (node ∷ [])) (begun node name (codes "\"];\n"))
bare node name fine = ended node name [] [] (codes "\"];\n") [] fine refl refl refl refl

looped : (node : NodeNumber) (name : List ℕ) → is_quotable false name ≡ true →
    AreLines (of_nodes (node ∷ [])) (begun node name loop_end)
looped node name fine = ended node name (codes "\\nloop") (codes ", style=filled") loop_end filled fine refl refl refl refl

contending : (node : NodeNumber) (name : List ℕ) → is_quotable false name ≡ true →
    AreLines (of_nodes (node ∷ [])) (begun node name contention_end)
contending node name fine =
    ended node name (codes "\\ncontention") (codes ", style=filled") contention_end filled fine refl refl refl refl

either : (b : Bool) (node : NodeNumber) (name one other : List ℕ) → AreLines (of_nodes (node ∷ [])) (begun node name one) →
    AreLines (of_nodes (node ∷ [])) (begun node name other) →
    AreLines (of_nodes (node ∷ [])) (begun node name (cond b one other))
either true node name one other p q = p
either false node name one other p q = q

by_outcome : (o : Outcome) (node : NodeNumber) (name : List ℕ) → is_quotable false name ≡ true →
    AreLines (of_nodes (node ∷ [])) (begun node name (label_end o node))
by_outcome (reported.Tree root list order) node name fine = bare node name fine
by_outcome (reported.Contention a b) node name fine =
    either ((node == a) || (node == b)) node name contention_end (codes "\"];\n") (contending node name fine) (bare node name fine)
by_outcome (reported.Loop core) node name fine =
    either (bit_at core node == 1) node name loop_end (codes "\"];\n") (looped node name fine) (bare node name fine)

-- each name can stand in quotes
abbrev pub CanBeQuoted : Names → Type 0
CanBeQuoted names = (node : NodeNumber) → is_quotable false (name_of names node) ≡ true

one_plain : (names : Names) (o : Outcome) (node : NodeNumber) → CanBeQuoted names →
    AreLines (of_nodes (node ∷ [])) (plain_node names o node)
unfolding plain_node
one_plain names o node fine = by_outcome o node (name_of names node) (fine node)

all_plain : (names : Names) (o : Outcome) (set : Nodes) (n : ℕ) → CanBeQuoted names →
    AreLines (of_nodes (held_below set n)) (nodes_below names o set n)
all_plain names o set zero fine = no_lines
all_plain names o set (suc node) fine =
    both (of_nodes (held_below set node)) (of_nodes (cond (bit_at set node == 1) (node ∷ []) [])) (nodes_below names o set node) (cond (bit_at set node == 1) (plain_node names o node) [])
    (all_plain names o set node fine) (nodes_where (bit_at set node == 1) (node ∷ []) (plain_node names o node) (one_plain names o node fine))

-- ---- cables

abbrev end_at : NodeNumber → ℕ → End
end_at node port = record { node = node; port = port }

abbrev plain_statement : NodeNumber → ℕ → End → Statement
plain_statement node port far = edge (node_name node) (node_name far.node)
    (set (codes "headport") (word (codes "_")) ∷ port_attributes port far.port)

plain_is : (node port : ℕ) (far : End) → is_statement (plain_statement node port far) ≡ true
plain_is node port far =
    both_true _ _ (both_true _ _ (node_word node) (node_word far.node)) (ports_given port far.port)

plain_parts : (two n one line other start headport nearest taillabel equals quote port comma headlabel far close end : List ℕ) →
    (((two ++ n) ++ one) ++ ((line ++ n) ++ other))
    ++ (((start ++ (headport ++ (equals ++ (nearest ++ (comma ++ (taillabel ++ (equals ++ quote))))))) ++ port)
    ++ (((quote ++ (comma ++ (headlabel ++ (equals ++ quote)))) ++ far) ++ (quote ++ (close ++ end))))
    ≡ two ++ (((n ++ one) ++ (line ++ ((n ++ other) ++ (start ++ ((headport ++ (equals ++ nearest)) ++ ((comma ++ ((taillabel ++ (equals ++ (quote ++ (port ++ quote)))) ++ (comma ++ ((headlabel ++ (equals ++ (quote ++ (far ++ quote)))) ++ [])))) ++ close)))))) ++ end)
plain_parts two n one line other start headport nearest taillabel equals quote port comma headlabel far close end =
    simp append_assoc

plain_text : (node port : ℕ) (far : End) → plain_edge node port far ≡ statement_line (plain_statement node port far)
unfolding plain_edge edge_nodes field
plain_text node port far = plain_parts (codes "  ") (codes "n") (decimal node) (codes " -- ") (decimal far.node) (codes " [") (codes "headport") (codes "_") (codes "taillabel") (codes "=") (codes "\"") (decimal port) (codes ", ") (codes "headlabel") (decimal far.port) (codes "]") (codes ";\n")

cable_at : (node port : ℕ) (o : Option End) → AreLines (of_cables (ends_at (end_at node port) o)) (edge_at node port o)
cable_at node port None = no_lines
cable_at node port (Some far) =
    cables_where (nat_lt node far.node) ((end_at node port, far) ∷ []) (plain_edge node port far)
    (one_cable (end_at node port) far (plain_statement node port far) (plain_edge node port far) refl refl (plain_is node port far) (plain_text node port far))

cables_at : (node port : ℕ) (fars : List (Option End)) → AreLines (of_cables (ends_from node port fars)) (edges_at node port fars)
cables_at node port [] = no_lines
cables_at node port (o ∷ fars) =
    both (of_cables (ends_at (end_at node port) o)) (of_cables (ends_from node (port + 1) fars)) (edge_at node port o) (edges_at node (port + 1) fars)
    (cable_at node port o) (cables_at node (port + 1) fars)

all_cables : (c : Wiring) (set : Nodes) (n : ℕ) → AreLines (of_cables (ends_below c set n)) (edges_below c set n)
all_cables c set zero = no_lines
all_cables c set (suc node) =
    let ends = ends_from node 0 (ports_of c node) in
    let text = edges_at node 0 (ports_of c node) in
    both (of_cables (ends_below c set node)) (of_cables (cond (bit_at set node == 1) ends [])) (edges_below c set node) (cond (bit_at set node == 1) text [])
    (all_cables c set node) (cables_where (bit_at set node == 1) ends text (cables_at node 0 (ports_of c node)))

-- ---- the whole

pub plain_lines : (names : Names) (c : Wiring) (o : Outcome) (set : Nodes) → CanBeQuoted names →
    (shown : Shown) × ShowsAll c set shown × AreLines shown (plain_graph names c o set)
unfolding plain_graph
plain_lines names c o set fine = (
  together (of_nodes (held_below set 63)) (of_cables (ends_below c set 63)),
  record { nodes = append-nil (held_below set 63); cables = refl },
  both (of_nodes (held_below set 63)) (of_cables (ends_below c set 63)) (nodes_below names o set 63) (edges_below c set 63)
      (all_plain names o set 63 fine) (all_cables c set 63),
)
