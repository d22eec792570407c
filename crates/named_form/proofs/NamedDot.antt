-- The graph of a bus tree is one in DOT with names in it too.
use Rattle.std.proofs.Common.{◌≡◌, ◌∙◌, ℕ, zero, suc, ◌+◌, ◌-◌, ◌==◌, true, false, Option, Some, None, List, [], ◌∷◌, ◌++◌, decimal, append-nil, append_assoc, length, refl, sym, ap}
use Rattle.std.specs.Prelude.{codes}
use Rattle.std.proofs.lemmas.Bool.{and_from}
use Rattle.self_id.specs.declared.node.Attrs.{Attrs}
use Rattle.self_id.specs.Node.{Node}
use Rattle.topology_stack.specs.Tree.{walk}
use Rattle.topology_stack.specs.Elect.{elected}
use Rattle.topology_stack.specs.Text.{truth}
use Rattle.line_words.specs.Digits.{of_digits}
use Rattle.view_text.specs.declared.cable.Cable.{Cable}
use Rattle.view_text.specs.Packet.{field}
use Rattle.view_text.specs.Cable.{cables}
use Rattle.view_text.specs.Node.{root_mark, irm_mark, title, link_words, gap_words, speed_word}
use Rattle.view_text.specs.Graph.{line_break, root_box, irm_box, graph_label, graph_node, graph_nodes, edge_ends, edge_ports, graph_edge, graph_edges, graph_head}
use Rattle.view_text.specs.Dot.{Id, Statement, statement_line, statement_lines, is_statement, are_statements, nodes_of, edges_of}
use Rattle.view_text.specs.GraphDot.{node_name, names_from, cable_edges}
use Rattle.view_text.proofs.Lemmas.{quotable_more, label_quotable, root_attributes, irm_attributes, box_attributes, box_text, labelled, labelled_line, labelled_is, edge_statement, edge_text, edge_is, head_statements, head_text, head_are, lines-append, statements-append, nodes-append, edges-append}
use Rattle.named_form.specs.File.{lines_of, fault_from}
use Rattle.named_form.specs.Mentions.{before_mention, with_names}
use Rattle.named_form.specs.NamedDot.{NamedGraphsAreDot}
use Rattle.named_form.proofs.Quotable.{before_quotable}
use Rattle.named_form.proofs.Passing.{Passes, both_pass, either_passes, none_passes, number_passes, field_passes, node_passes, other_passes}

-- ---- labels

-- a line of a label begins behind `\n`
link_passes : (lines : List (List ℕ)) (a : Attrs) → Passes lines (line_break ++ link_words a)
unfolding link_words field
link_passes lines a =
    both_pass lines (codes "\\nlink ") (decimal (truth a.link) ++ (field (codes " contender ") (truth a.contender) ++ field (codes " power ") a.power)) (λ rest. refl)
    (both_pass lines (decimal (truth a.link)) (field (codes " contender ") (truth a.contender) ++ field (codes " power ") a.power) (number_passes lines (truth a.link))
    (both_pass lines (field (codes " contender ") (truth a.contender)) (field (codes " power ") a.power)
    (field_passes lines (codes " contender ") (truth a.contender) (λ rest. refl)) (field_passes lines (codes " power ") a.power (λ rest. refl))))

gap_passes : (lines : List (List ℕ)) (a : Attrs) → Passes lines (line_break ++ gap_words a)
unfolding gap_words field
gap_passes lines a =
    both_pass lines (codes "\\ninitiated ") (decimal (truth a.initiated) ++ (field (codes " speed ") a.speed ++ field (codes " gap ") a.gap)) (λ rest. refl)
    (both_pass lines (decimal (truth a.initiated)) (field (codes " speed ") a.speed ++ field (codes " gap ") a.gap) (number_passes lines (truth a.initiated))
    (both_pass lines (field (codes " speed ") a.speed) (field (codes " gap ") a.gap)
    (field_passes lines (codes " speed ") a.speed (λ rest. refl)) (field_passes lines (codes " gap ") a.gap (λ rest. refl))))

irm_passes : (lines : List (List ℕ)) (id : ℕ) (irm : Option ℕ) → Passes lines (irm_mark id irm)
irm_passes lines id None = none_passes lines
irm_passes lines id (Some irm) = either_passes lines (id == irm) (codes " irm") (λ rest. refl)

-- what a label has behind `node `
abbrev marks : ℕ → ℕ → Option ℕ → List ℕ
marks id root irm = decimal id ++ (root_mark id root ++ irm_mark id irm)

abbrev words : Node → List ℕ
words n = line_break ++ (link_words n.attrs ++ (line_break ++ gap_words n.attrs))

behind_passes : (lines : List (List ℕ)) (id : ℕ) (n : Node) (root : ℕ) (irm : Option ℕ) → Passes lines (marks id root irm ++ words n)
behind_passes lines id n root irm =
    both_pass lines (marks id root irm) (words n)
    (both_pass lines (decimal id) (root_mark id root ++ irm_mark id irm) (number_passes lines id)
    (both_pass lines (root_mark id root) (irm_mark id irm) (either_passes lines (id == root) (codes " root") (λ rest. refl)) (irm_passes lines id irm)))
    (both_pass lines (line_break ++ link_words n.attrs) (line_break ++ gap_words n.attrs) (link_passes lines n.attrs) (gap_passes lines n.attrs))

-- a label has its one mention at its beginning
label_named : (lines : List (List ℕ)) (id : ℕ) (n : Node) (root : ℕ) (irm : Option ℕ) (rest : List ℕ) →
    with_names lines (graph_label id n root irm ++ rest)
    ≡ before_mention lines (graph_label id n root irm ++ rest) ++ (graph_label id n root irm ++ with_names lines rest)
unfolding graph_label title field
label_named lines id n root irm rest =
    ap (λ (x : List ℕ). before_mention lines (codes "node " ++ ((marks id root irm ++ words n) ++ rest)) ++ (codes "node " ++ x)) (behind_passes lines id n root irm rest)

-- ---- nodes

-- what a node has behind its label
abbrev box_end : ℕ → ℕ → Option ℕ → List ℕ
box_end id root irm =
    codes "\"" ++ (root_box id root ++ (irm_box id irm ++ codes "];\n"))

irm_box_passes : (lines : List (List ℕ)) (id : ℕ) (irm : Option ℕ) → Passes lines (irm_box id irm)
irm_box_passes lines id None = none_passes lines
irm_box_passes lines id (Some irm) = either_passes lines (id == irm) (codes ", style=bold") (λ rest. refl)

end_passes : (lines : List (List ℕ)) (id root : ℕ) (irm : Option ℕ) → Passes lines (box_end id root irm)
end_passes lines id root irm =
    both_pass lines (codes "\"") (root_box id root ++ (irm_box id irm ++ codes "];\n")) (λ rest. refl)
    (both_pass lines (root_box id root) (irm_box id irm ++ codes "];\n") (either_passes lines (id == root) (codes ", peripheries=2") (λ rest. refl))
    (both_pass lines (irm_box id irm) (codes "];\n") (irm_box_passes lines id irm) (λ rest. refl)))

named_parts : (lines : List (List ℕ)) (front quote label end name rest : List ℕ) → Passes lines front → Passes lines quote → Passes lines end →
    with_names lines (label ++ (end ++ rest)) ≡ name ++ (label ++ with_names lines (end ++ rest)) →
    with_names lines ((front ++ (quote ++ (label ++ end))) ++ rest) ≡ (front ++ (quote ++ ((name ++ label) ++ end))) ++ with_names lines rest
named_parts lines front quote label end name rest p q r e =
    ap (with_names lines) (apart front quote label end rest) ∙ p (quote ++ (label ++ (end ++ rest)))
    ∙ ap (λ (x : List ℕ). front ++ x) (q (label ++ (end ++ rest))) ∙ ap (λ (x : List ℕ). front ++ (quote ++ x)) e
    ∙ ap (λ (x : List ℕ). front ++ (quote ++ (name ++ (label ++ x)))) (r rest) ∙ together front quote name label end (with_names lines rest)
  where
    apart : (a b c d w : List ℕ) → (a ++ (b ++ (c ++ d))) ++ w ≡ a ++ (b ++ (c ++ (d ++ w)))
    apart a b c d w = simp append_assoc

    together : (a b c d e w : List ℕ) → a ++ (b ++ (c ++ (d ++ (e ++ w)))) ≡ (a ++ (b ++ ((c ++ d) ++ e))) ++ w
    together a b c d e w = simp append_assoc

-- what comes before the label of a node that has such a text behind it
abbrev put : List (List ℕ) → ℕ → Node → ℕ → Option ℕ → List ℕ → List ℕ
put lines id n root irm rest =
    before_mention lines (graph_label id n root irm ++ (box_end id root irm ++ rest))

abbrev named_statement : List (List ℕ) → ℕ → Node → ℕ → Option ℕ → List ℕ → Statement
named_statement lines id n root irm rest =
    labelled id (put lines id n root irm rest ++ graph_label id n root irm) (root_attributes id root ++ irm_attributes id irm)

node_named : (lines : List (List ℕ)) (id : ℕ) (n : Node) (root : ℕ) (irm : Option ℕ) (rest : List ℕ) →
    with_names lines (graph_node id n root irm ++ rest) ≡ statement_line (named_statement lines id n root irm rest) ++ with_names lines rest
unfolding graph_node
node_named lines id n root irm rest =
    let label = graph_label id n root irm in
    let name = put lines id n root irm rest in
    let e = append_assoc (root_box id root) (irm_box id irm) (codes "];\n") in
    named_parts lines (field (codes "  n") id) (codes " [label=\"") label (box_end id root irm) name rest
    (node_passes lines id) (λ more. refl) (end_passes lines id root irm) (label_named lines id n root irm (box_end id root irm ++ rest))
    ∙ ap (λ (x : List ℕ). (field (codes "  n") id ++ (codes " [label=\"" ++ ((name ++ label) ++ (codes "\"" ++ x)))) ++ with_names lines rest) (sym e)
    ∙ ap (λ (x : List ℕ). x ++ with_names lines rest) (labelled_line id (name ++ label) (root_box id root ++ irm_box id irm) (root_attributes id root ++ irm_attributes id irm) (box_text id root irm))

node_is : (lines : List (List ℕ)) (id : ℕ) (n : Node) (root : ℕ) (irm : Option ℕ) (rest : List ℕ) → fault_from 1 lines ≡ None →
    is_statement (named_statement lines id n root irm rest) ≡ true
node_is lines id n root irm rest fine =
    let label = graph_label id n root irm in
    labelled_is id (put lines id n root irm rest ++ label) (root_attributes id root ++ irm_attributes id irm)
    (quotable_more false (put lines id n root irm rest) label (before_quotable lines (label ++ (box_end id root irm ++ rest)) fine) (label_quotable id n root irm))
    (box_attributes id root irm)

abbrev node_statements : List (List ℕ) → ℕ → List Node → ℕ → Option ℕ → List ℕ → List Statement
node_statements lines id [] root irm rest = []
node_statements lines id (n ∷ ns) root irm rest =
    named_statement lines id n root irm (graph_nodes (id + 1) ns root irm ++ rest) ∷ node_statements lines (id + 1) ns root irm rest

nodes_named : (lines : List (List ℕ)) (id : ℕ) (ns : List Node) (root : ℕ) (irm : Option ℕ) (rest : List ℕ) →
    with_names lines (graph_nodes id ns root irm ++ rest) ≡ statement_lines (node_statements lines id ns root irm rest) ++ with_names lines rest
nodes_named lines id [] root irm rest = refl
nodes_named lines id (n ∷ ns) root irm rest =
    let behind = graph_nodes (id + 1) ns root irm in
    let s = named_statement lines id n root irm (behind ++ rest) in
    ap (with_names lines) (append_assoc (graph_node id n root irm) behind rest) ∙ node_named lines id n root irm (behind ++ rest)
    ∙ ap (λ (x : List ℕ). statement_line s ++ x) (nodes_named lines (id + 1) ns root irm rest)
    ∙ sym (append_assoc (statement_line s) (statement_lines (node_statements lines (id + 1) ns root irm rest)) (with_names lines rest))

nodes_are : (lines : List (List ℕ)) (id : ℕ) (ns : List Node) (root : ℕ) (irm : Option ℕ) (rest : List ℕ) → fault_from 1 lines ≡ None →
    are_statements (node_statements lines id ns root irm rest) ≡ true
nodes_are lines id [] root irm rest fine = refl
nodes_are lines id (n ∷ ns) root irm rest fine =
    let behind = graph_nodes (id + 1) ns root irm ++ rest in
    and_from (is_statement (named_statement lines id n root irm behind)) (are_statements (node_statements lines (id + 1) ns root irm rest))
    (node_is lines id n root irm behind fine) (nodes_are lines (id + 1) ns root irm rest fine)

nodes_are_all : (lines : List (List ℕ)) (id : ℕ) (ns : List Node) (root : ℕ) (irm : Option ℕ) (rest : List ℕ) →
    nodes_of (node_statements lines id ns root irm rest) ≡ names_from id ns
nodes_are_all lines id [] root irm rest = refl
nodes_are_all lines id (n ∷ ns) root irm rest =
    ap (λ (ids : List Id). node_name id ∷ ids) (nodes_are_all lines (id + 1) ns root irm rest)

nodes_alone : (lines : List (List ℕ)) (id : ℕ) (ns : List Node) (root : ℕ) (irm : Option ℕ) (rest : List ℕ) →
    edges_of (node_statements lines id ns root irm rest) ≡ []
nodes_alone lines id [] root irm rest = refl
nodes_alone lines id (n ∷ ns) root irm rest = nodes_alone lines (id + 1) ns root irm rest

-- ---- edges

speed_passes : (lines : List (List ℕ)) (speed : ℕ) → Passes lines (speed_word speed)
speed_passes lines zero = λ rest. refl
speed_passes lines (suc zero) = λ rest. refl
speed_passes lines (suc (suc n)) = λ rest. refl

ends_pass : (lines : List (List ℕ)) (c : Cable) → Passes lines (edge_ends c)
unfolding edge_ends
ends_pass lines c =
    both_pass lines (field (codes "  n") c.parent) (field (codes " -- n") c.child) (node_passes lines c.parent) (other_passes lines c.child)

ports_pass : (lines : List (List ℕ)) (c : Cable) → Passes lines (edge_ports c)
unfolding edge_ports
ports_pass lines c =
    both_pass lines (field (codes ", taillabel=\"") c.port) (field (codes "\", headlabel=\"") c.child_port ++ codes "\"];\n")
    (field_passes lines (codes ", taillabel=\"") c.port (λ rest. refl))
    (both_pass lines (field (codes "\", headlabel=\"") c.child_port) (codes "\"];\n") (field_passes lines (codes "\", headlabel=\"") c.child_port (λ rest. refl)) (λ rest. refl))

edge_passes : (lines : List (List ℕ)) (c : Cable) → Passes lines (graph_edge c)
edge_passes lines c =
    let width = field (codes "\", penwidth=") (c.speed + 1) in
    both_pass lines (edge_ends c) (codes " [label=\"" ++ (speed_word c.speed ++ (width ++ edge_ports c))) (ends_pass lines c)
    (both_pass lines (codes " [label=\"") (speed_word c.speed ++ (width ++ edge_ports c)) (λ rest. refl)
    (both_pass lines (speed_word c.speed) (width ++ edge_ports c) (speed_passes lines c.speed)
    (both_pass lines width (edge_ports c) (field_passes lines (codes "\", penwidth=") (c.speed + 1) (λ rest. refl)) (ports_pass lines c))))

edges_pass : (lines : List (List ℕ)) (cs : List Cable) → Passes lines (graph_edges cs)
edges_pass lines [] = none_passes lines
edges_pass lines (c ∷ cs) = both_pass lines (graph_edge c) (graph_edges cs) (edge_passes lines c) (edges_pass lines cs)

abbrev edge_statements : List Cable → List Statement
edge_statements [] = []
edge_statements (c ∷ cs) = edge_statement c ∷ edge_statements cs

edges_text : (cs : List Cable) → graph_edges cs ≡ statement_lines (edge_statements cs)
edges_text [] = refl
edges_text (c ∷ cs) = rw (edge_text c, edges_text cs) refl

edges_are : (cs : List Cable) → are_statements (edge_statements cs) ≡ true
edges_are [] = refl
edges_are (c ∷ cs) = and_from (is_statement (edge_statement c)) (are_statements (edge_statements cs)) (edge_is c) (edges_are cs)

edges_alone : (cs : List Cable) → nodes_of (edge_statements cs) ≡ []
edges_alone [] = refl
edges_alone (c ∷ cs) = edges_alone cs

edges_named : (cs : List Cable) → edges_of (edge_statements cs) ≡ cable_edges cs
edges_named [] = refl
edges_named (c ∷ cs) = ap (λ (es : List (Id × Id)). (node_name c.parent, node_name c.child) ∷ es) (edges_named cs)

-- ---- the whole

-- `node [` mentions no node
head_passes : (lines : List (List ℕ)) → Passes lines graph_head
unfolding graph_head of_digits
head_passes lines rest = refl

module _ (lines : List (List ℕ)) (fine : fault_from 1 lines ≡ None) (ns : List Node) (root : ℕ) (irm : Option ℕ) (cs : List Cable) where
  abbrev behind_nodes : List ℕ
  behind_nodes = graph_edges cs ++ codes "}\n"

  abbrev bus_statements : List Statement
  bus_statements =
      head_statements ++ (node_statements lines 0 ns root irm behind_nodes ++ edge_statements cs)

  statements_text : statement_lines bus_statements ++ codes "}\n"
      ≡ statement_lines head_statements ++ (statement_lines (node_statements lines 0 ns root irm behind_nodes) ++ (statement_lines (edge_statements cs) ++ codes "}\n"))
  statements_text =
      let nodes = node_statements lines 0 ns root irm behind_nodes in
      let edges = edge_statements cs in
      ap (λ (x : List ℕ). x ++ codes "}\n") (lines-append head_statements (nodes ++ edges) ∙ ap (λ (x : List ℕ). statement_lines head_statements ++ x) (lines-append nodes edges))
      ∙ (append_assoc (statement_lines head_statements) (statement_lines nodes ++ statement_lines edges) (codes "}\n")
      ∙ ap (λ (x : List ℕ). statement_lines head_statements ++ x) (append_assoc (statement_lines nodes) (statement_lines edges) (codes "}\n")))

  bus_text : with_names lines (graph_head ++ (graph_nodes 0 ns root irm ++ (graph_edges cs ++ codes "}\n")))
      ≡ codes "graph " ++ (codes "bus" ++ (codes " {\n" ++ (statement_lines bus_statements ++ codes "}\n")))
  bus_text =
      let nodes = statement_lines (node_statements lines 0 ns root irm behind_nodes) in
      head_passes lines (graph_nodes 0 ns root irm ++ behind_nodes)
      ∙ ap (λ (x : List ℕ). graph_head ++ x) (nodes_named lines 0 ns root irm behind_nodes)
      ∙ ap (λ (x : List ℕ). graph_head ++ (nodes ++ x)) (edges_pass lines cs (codes "}\n"))
      ∙ ap (λ (x : List ℕ). graph_head ++ (nodes ++ (x ++ codes "}\n"))) (edges_text cs)
      ∙ head_text (nodes ++ (statement_lines (edge_statements cs) ++ codes "}\n"))
      ∙ ap (λ (x : List ℕ). codes "graph " ++ (codes "bus" ++ (codes " {\n" ++ x))) (sym statements_text)

  bus_are : are_statements bus_statements ≡ true
  bus_are =
      let nodes = node_statements lines 0 ns root irm behind_nodes in
      statements-append head_statements (nodes ++ edge_statements cs) head_are
      (statements-append nodes (edge_statements cs) (nodes_are lines 0 ns root irm behind_nodes fine) (edges_are cs))

  bus_nodes : nodes_of bus_statements ≡ names_from 0 ns
  bus_nodes =
      nodes-append (node_statements lines 0 ns root irm behind_nodes) (edge_statements cs)
      ∙ (ap (λ (ids : List Id). ids ++ nodes_of (edge_statements cs)) (nodes_are_all lines 0 ns root irm behind_nodes)
      ∙ (ap (λ (ids : List Id). names_from 0 ns ++ ids) (edges_alone cs) ∙ append-nil (names_from 0 ns)))

  bus_edges : edges_of bus_statements ≡ cable_edges cs
  bus_edges =
      edges-append (node_statements lines 0 ns root irm behind_nodes) (edge_statements cs)
      ∙ (ap (λ (es : List (Id × Id)). es ++ edges_of (edge_statements cs)) (nodes_alone lines 0 ns root irm behind_nodes) ∙ edges_named cs)

pub named_graphs_are_dot : NamedGraphsAreDot
named_graphs_are_dot file t fine =
    let lines = lines_of file in
    let ns = walk t in
    let root = length ns - 1 in
    let irm = elected t in
    let cs = cables t in record {
      statements = bus_statements lines fine ns root irm cs;
      is = record { name_is = refl; are = bus_are lines fine ns root irm cs; text_is = bus_text lines fine ns root irm cs };
      nodes = bus_nodes lines fine ns root irm cs;
      edges = bus_edges lines fine ns root irm cs;
    }
