-- The graph of a bus tree is a graph in DOT.
use Rattle.std.proofs.Common.{◌≡◌, ◌∙◌, ℕ, zero, suc, ◌+◌, ◌-◌, ◌==◌, Bool, true, false, cond, Option, Some, None, List, [], ◌∷◌, ◌++◌, decimal, append-nil, append_assoc, length, refl, sym, subst, ap}
use Rattle.std.specs.Prelude.{if◌then◌else◌, codes}
use Rattle.self_id.specs.declared.node.Attrs.{Attrs}
use Rattle.self_id.specs.Node.{Node}
use Rattle.topology_stack.specs.Tree.{Tree, walk}
use Rattle.topology_stack.specs.Elect.{elected}
use Rattle.topology_stack.specs.Text.{truth}
use Rattle.view_text.specs.declared.cable.Cable.{Cable}
use Rattle.view_text.specs.Packet.{field}
use Rattle.view_text.specs.Cable.{cables}
use Rattle.view_text.specs.Node.{root_mark, irm_mark, title, link_words, gap_words, speed_word}
use Rattle.view_text.specs.Graph.{line_break, root_box, irm_box, graph_label, graph_node, graph_nodes, edge_ends, edge_ports, graph_edge, graph_edges, graph_head, graph}
use Rattle.view_text.specs.Dot.{Id, word, numeral, quoted, Attribute, Statement, of_graph, of_nodes, of_edges, node, edge, is_quotable, more_attributes, are_attributes, statement_line, statement_lines, is_statement, are_statements, nodes_of, edges_of}
use Rattle.view_text.specs.GraphDot.{node_name, names_from, cable_edges, IsTreeDot, GraphsAreDot}
use Rattle.view_text.proofs.Digits.{two, all_digits, digits_quotable, quotable_more, decimal_numeral, node_word}
use Rattle.view_text.proofs.DotParts.{more-append, attributes-append, lines-append, statements-append, nodes-append, edges-append}

-- ---- quoted strings

quotable : (xs ys : List ℕ) → is_quotable false xs ≡ true → is_quotable false ys ≡ true → is_quotable false (xs ++ ys) ≡ true
quotable xs ys p q = quotable_more false xs ys p q

decimal_quotable : (n : ℕ) → is_quotable false (decimal n) ≡ true
decimal_quotable n = digits_quotable (decimal n) (all_digits n)

pub field_quotable : (name : List ℕ) (n : ℕ) → is_quotable false name ≡ true → is_quotable false (field name n) ≡ true
unfolding field
field_quotable name n h = quotable name (decimal n) h (decimal_quotable n)

either : (b : Bool) (xs : List ℕ) → is_quotable false xs ≡ true → is_quotable false (cond b xs []) ≡ true
either true xs h = h
either false xs h = refl

irm_quotable : (id : ℕ) (irm : Option ℕ) → is_quotable false (irm_mark id irm) ≡ true
irm_quotable id None = refl
irm_quotable id (Some irm) = either (id == irm) (codes " irm") refl

title_quotable : (id root : ℕ) (irm : Option ℕ) → is_quotable false (title id root irm) ≡ true
unfolding title
title_quotable id root irm =
    quotable (field (codes "node ") id) (root_mark id root ++ irm_mark id irm) (field_quotable (codes "node ") id refl)
    (quotable (root_mark id root) (irm_mark id irm) (either (id == root) (codes " root") refl) (irm_quotable id irm))

three : (a b c : List ℕ) → is_quotable false a ≡ true → is_quotable false b ≡ true → is_quotable false c ≡ true →
    is_quotable false (a ++ (b ++ c)) ≡ true
three a b c p q r = quotable a (b ++ c) p (quotable b c q r)

link_quotable : (a : Attrs) → is_quotable false (link_words a) ≡ true
unfolding link_words
link_quotable a =
    three (field (codes "link ") (truth a.link)) (field (codes " contender ") (truth a.contender)) (field (codes " power ") a.power)
    (field_quotable (codes "link ") (truth a.link) refl) (field_quotable (codes " contender ") (truth a.contender) refl) (field_quotable (codes " power ") a.power refl)

gap_quotable : (a : Attrs) → is_quotable false (gap_words a) ≡ true
unfolding gap_words
gap_quotable a =
    three (field (codes "initiated ") (truth a.initiated)) (field (codes " speed ") a.speed) (field (codes " gap ") a.gap)
    (field_quotable (codes "initiated ") (truth a.initiated) refl) (field_quotable (codes " speed ") a.speed refl) (field_quotable (codes " gap ") a.gap refl)

pub label_quotable : (id : ℕ) (n : Node) (root : ℕ) (irm : Option ℕ) → is_quotable false (graph_label id n root irm) ≡ true
unfolding graph_label
label_quotable id n root irm =
    three (title id root irm) line_break (link_words n.attrs ++ (line_break ++ gap_words n.attrs)) (title_quotable id root irm) refl
    (three (link_words n.attrs) line_break (gap_words n.attrs) (link_quotable n.attrs) refl (gap_quotable n.attrs))

speed_quotable : (speed : ℕ) → is_quotable false (speed_word speed) ≡ true
speed_quotable zero = refl
speed_quotable (suc zero) = refl
speed_quotable (suc (suc n)) = refl

-- ---- attributes of nodes

abbrev pub set : List ℕ → Id → Attribute
set key value = record { key = word key; value = value }

abbrev pub root_attributes : ℕ → ℕ → List Attribute
root_attributes id root =
    if id == root then set (codes "peripheries") (numeral (codes "2")) ∷ [] else []

abbrev pub irm_attributes : ℕ → Option ℕ → List Attribute
irm_attributes id None = []
irm_attributes id (Some irm) =
    if id == irm then set (codes "style") (word (codes "bold")) ∷ [] else []

text_of : (b : Bool) (given : List Attribute) → cond b (more_attributes given) [] ≡ more_attributes (cond b given [])
text_of true given = refl
text_of false given = refl

root_text : (id root : ℕ) → root_box id root ≡ more_attributes (root_attributes id root)
root_text id root = text_of (id == root) (set (codes "peripheries") (numeral (codes "2")) ∷ [])

irm_text : (id : ℕ) (irm : Option ℕ) → irm_box id irm ≡ more_attributes (irm_attributes id irm)
irm_text id None = refl
irm_text id (Some irm) = text_of (id == irm) (set (codes "style") (word (codes "bold")) ∷ [])

given_so : (b : Bool) (given : List Attribute) → are_attributes given ≡ true → are_attributes (cond b given []) ≡ true
given_so true given h = h
given_so false given h = refl

irm_given : (id : ℕ) (irm : Option ℕ) → are_attributes (irm_attributes id irm) ≡ true
irm_given id None = refl
irm_given id (Some irm) = given_so (id == irm) (set (codes "style") (word (codes "bold")) ∷ []) refl

pub box_attributes : (id root : ℕ) (irm : Option ℕ) → are_attributes (root_attributes id root ++ irm_attributes id irm) ≡ true
box_attributes id root irm =
    attributes-append (root_attributes id root) (irm_attributes id irm)
    (given_so (id == root) (set (codes "peripheries") (numeral (codes "2")) ∷ []) refl) (irm_given id irm)

pub box_text : (id root : ℕ) (irm : Option ℕ) →
    more_attributes (root_attributes id root ++ irm_attributes id irm) ≡ root_box id root ++ irm_box id irm
box_text id root irm =
    rw (root_text id root, irm_text id irm) (more-append (root_attributes id root) (irm_attributes id irm))

-- ---- nodes

-- a node whose label is a text
abbrev pub labelled : ℕ → List ℕ → List Attribute → Statement
labelled number text more = node (node_name number) (set (codes "label") (quoted text) ∷ more)

labelled_parts : (two n number start label equals quote text more close end : List ℕ) →
    ((two ++ n) ++ number)
    ++ ((start ++ (label ++ (equals ++ quote))) ++ (text ++ (quote ++ (more ++ (close ++ end)))))
    ≡ two ++ (((n ++ number) ++ (start ++ ((label ++ (equals ++ (quote ++ (text ++ quote)))) ++ (more ++ close)))) ++ end)
labelled_parts two n number start label equals quote text more close end = simp append_assoc

pub labelled_line : (number : ℕ) (text box : List ℕ) (more : List Attribute) → more_attributes more ≡ box →
    field (codes "  n") number ++ (codes " [label=\"" ++ (text ++ (codes "\"" ++ (box ++ codes "];\n"))))
    ≡ statement_line (labelled number text more)
unfolding field
labelled_line number text box more e = rw (← e) (labelled_parts (codes "  ") (codes "n") (decimal number) (codes " [") (codes "label") (codes "=") (codes "\"") text (more_attributes more) (codes "]") (codes ";\n"))

pub labelled_is : (number : ℕ) (text : List ℕ) (more : List Attribute) → is_quotable false text ≡ true → are_attributes more ≡ true →
    is_statement (labelled number text more) ≡ true
labelled_is number text more p q = rw (node_word number, p, q) refl

abbrev pub node_statement : ℕ → Node → ℕ → Option ℕ → Statement
node_statement id n root irm =
    labelled id (graph_label id n root irm) (root_attributes id root ++ irm_attributes id irm)

node_text : (id : ℕ) (n : Node) (root : ℕ) (irm : Option ℕ) →
    graph_node id n root irm ≡ statement_line (node_statement id n root irm)
unfolding graph_node
node_text id n root irm =
    rw (← (append_assoc (root_box id root) (irm_box id irm) (codes "];\n")))
    (labelled_line id (graph_label id n root irm) (root_box id root ++ irm_box id irm) (root_attributes id root ++ irm_attributes id irm) (box_text id root irm))

node_is : (id : ℕ) (n : Node) (root : ℕ) (irm : Option ℕ) → is_statement (node_statement id n root irm) ≡ true
node_is id n root irm =
    labelled_is id (graph_label id n root irm) (root_attributes id root ++ irm_attributes id irm) (label_quotable id n root irm) (box_attributes id root irm)

abbrev node_statements : ℕ → List Node → ℕ → Option ℕ → List Statement
node_statements id [] root irm = []
node_statements id (n ∷ ns) root irm = node_statement id n root irm ∷ node_statements (id + 1) ns root irm

nodes_text : (id : ℕ) (ns : List Node) (root : ℕ) (irm : Option ℕ) →
    graph_nodes id ns root irm ≡ statement_lines (node_statements id ns root irm)
nodes_text id [] root irm = refl
nodes_text id (n ∷ ns) root irm = rw (node_text id n root irm, nodes_text (id + 1) ns root irm) refl

nodes_are : (id : ℕ) (ns : List Node) (root : ℕ) (irm : Option ℕ) → are_statements (node_statements id ns root irm) ≡ true
nodes_are id [] root irm = refl
nodes_are id (n ∷ ns) root irm =
    two (is_statement (node_statement id n root irm)) (are_statements (node_statements (id + 1) ns root irm)) (node_is id n root irm) (nodes_are (id + 1) ns root irm)

nodes_named : (id : ℕ) (ns : List Node) (root : ℕ) (irm : Option ℕ) → nodes_of (node_statements id ns root irm) ≡ names_from id ns
nodes_named id [] root irm = refl
nodes_named id (n ∷ ns) root irm = ap (λ (ids : List Id). node_name id ∷ ids) (nodes_named (id + 1) ns root irm)

nodes_alone : (id : ℕ) (ns : List Node) (root : ℕ) (irm : Option ℕ) → edges_of (node_statements id ns root irm) ≡ []
nodes_alone id [] root irm = refl
nodes_alone id (n ∷ ns) root irm = nodes_alone (id + 1) ns root irm

-- ---- edges

-- the numbers of the ports at the two ends
abbrev pub port_attributes : ℕ → ℕ → List Attribute
port_attributes port far =
    set (codes "taillabel") (quoted (decimal port))
    ∷ set (codes "headlabel") (quoted (decimal far)) ∷ []

pub ports_given : (port far : ℕ) → are_attributes (port_attributes port far) ≡ true
ports_given port far = rw (decimal_quotable port, decimal_quotable far) refl

abbrev pub edge_statement : Cable → Statement
edge_statement c = edge (node_name c.parent) (node_name c.child)
    (set (codes "label") (quoted (speed_word c.speed)) ∷ set (codes "penwidth") (numeral (decimal (c.speed + 1)))
    ∷ port_attributes c.port c.child_port)

edge_parts : (two n one line other start label equals quote speed comma penwidth width taillabel port headlabel far close end : List ℕ) →
    (((two ++ n) ++ one) ++ ((line ++ n) ++ other))
    ++ ((start ++ (label ++ (equals ++ quote))) ++ (speed ++ (((quote ++ (comma ++ (penwidth ++ equals))) ++ width)
    ++ (((comma ++ (taillabel ++ (equals ++ quote))) ++ port)
    ++ (((quote ++ (comma ++ (headlabel ++ (equals ++ quote)))) ++ far) ++ (quote ++ (close ++ end)))))))
    ≡ two ++ (((n ++ one) ++ (line ++ ((n ++ other) ++ (start ++ ((label ++ (equals ++ (quote ++ (speed ++ quote)))) ++ ((comma ++ ((penwidth ++ (equals ++ width)) ++ (comma ++ ((taillabel ++ (equals ++ (quote ++ (port ++ quote)))) ++ (comma ++ ((headlabel ++ (equals ++ (quote ++ (far ++ quote)))) ++ [])))))) ++ close)))))) ++ end)
edge_parts two n one line other start label equals quote speed comma penwidth width taillabel port headlabel far close end =
    simp append_assoc

pub edge_text : (c : Cable) → graph_edge c ≡ statement_line (edge_statement c)
unfolding field edge_ends edge_ports
edge_text c = edge_parts (codes "  ") (codes "n") (decimal c.parent) (codes " -- ") (decimal c.child) (codes " [") (codes "label") (codes "=") (codes "\"") (speed_word c.speed) (codes ", ") (codes "penwidth") (decimal (c.speed + 1)) (codes "taillabel") (decimal c.port) (codes "headlabel") (decimal c.child_port) (codes "]") (codes ";\n")

pub edge_is : (c : Cable) → is_statement (edge_statement c) ≡ true
edge_is c =
    rw (node_word c.parent, node_word c.child, speed_quotable c.speed, decimal_numeral (c.speed + 1), decimal_quotable c.port, decimal_quotable c.child_port) refl

abbrev edge_statements : List Cable → List Statement
edge_statements [] = []
edge_statements (c ∷ cs) = edge_statement c ∷ edge_statements cs

edges_text : (cs : List Cable) → graph_edges cs ≡ statement_lines (edge_statements cs)
edges_text [] = refl
edges_text (c ∷ cs) = rw (edge_text c, edges_text cs) refl

edges_are : (cs : List Cable) → are_statements (edge_statements cs) ≡ true
edges_are [] = refl
edges_are (c ∷ cs) = two (is_statement (edge_statement c)) (are_statements (edge_statements cs)) (edge_is c) (edges_are cs)

edges_alone : (cs : List Cable) → nodes_of (edge_statements cs) ≡ []
edges_alone [] = refl
edges_alone (c ∷ cs) = edges_alone cs

edges_named : (cs : List Cable) → edges_of (edge_statements cs) ≡ cable_edges cs
edges_named [] = refl
edges_named (c ∷ cs) = ap (λ (es : List (Id × Id)). (node_name c.parent, node_name c.child) ∷ es) (edges_named cs)

-- ---- the head

abbrev pub head_statements : List Statement
head_statements =
    of_graph (set (codes "rankdir") (word (codes "LR"))) ∷ of_graph (set (codes "ranksep") (numeral (codes "1.1")))
    ∷ of_nodes (set (codes "shape") (word (codes "box")) ∷ [])
    ∷ of_edges (set (codes "headport") (word (codes "w")) ∷ set (codes "fontsize") (numeral (codes "11"))
    ∷ set (codes "labelfontsize") (numeral (codes "9")) ∷ set (codes "labeldistance") (numeral (codes "2.2"))
    ∷ set (codes "labelangle") (numeral (codes "-24")) ∷ [])
    ∷ []

pub head_text : (rest : List ℕ) →
    graph_head ++ rest ≡ codes "graph " ++ (codes "bus" ++ (codes " {\n" ++ (statement_lines head_statements ++ rest)))
unfolding graph_head
head_text rest = refl

pub head_are : are_statements head_statements ≡ true
head_are = refl

-- ---- the whole

abbrev bus_statements : List Node → ℕ → Option ℕ → List Cable → List Statement
bus_statements ns root irm cs =
    head_statements ++ (node_statements 0 ns root irm ++ edge_statements cs)

bus_text : (ns : List Node) (root : ℕ) (irm : Option ℕ) (cs : List Cable) →
    graph_head ++ (graph_nodes 0 ns root irm ++ (graph_edges cs ++ codes "}\n"))
    ≡ codes "graph " ++ (codes "bus" ++ (codes " {\n" ++ (statement_lines (bus_statements ns root irm cs) ++ codes "}\n")))
bus_text ns root irm cs =
    let nodes = node_statements 0 ns root irm in
    let cables = edge_statements cs in
    let e : statement_lines (bus_statements ns root irm cs) ++ codes "}\n" ≡ statement_lines head_statements ++ (statement_lines nodes ++ (statement_lines cables ++ codes "}\n")) =
    ap (λ (x : List ℕ). x ++ codes "}\n") (lines-append head_statements (nodes ++ cables) ∙ ap (λ (x : List ℕ). statement_lines head_statements ++ x) (lines-append nodes cables))
    ∙ (append_assoc (statement_lines head_statements) (statement_lines nodes ++ statement_lines cables) (codes "}\n")
    ∙ ap (λ (x : List ℕ). statement_lines head_statements ++ x) (append_assoc (statement_lines nodes) (statement_lines cables) (codes "}\n"))) in
    rw (nodes_text 0 ns root irm, edges_text cs)
    (head_text (statement_lines nodes ++ (statement_lines cables ++ codes "}\n"))
    ∙ ap (λ (x : List ℕ). codes "graph " ++ (codes "bus" ++ (codes " {\n" ++ x))) (sym e))

bus_are : (ns : List Node) (root : ℕ) (irm : Option ℕ) (cs : List Cable) → are_statements (bus_statements ns root irm cs) ≡ true
bus_are ns root irm cs =
    statements-append head_statements (node_statements 0 ns root irm ++ edge_statements cs) head_are
    (statements-append (node_statements 0 ns root irm) (edge_statements cs) (nodes_are 0 ns root irm) (edges_are cs))

bus_nodes : (ns : List Node) (root : ℕ) (irm : Option ℕ) (cs : List Cable) → nodes_of (bus_statements ns root irm cs) ≡ names_from 0 ns
bus_nodes ns root irm cs =
    nodes-append (node_statements 0 ns root irm) (edge_statements cs)
    ∙ (ap (λ (ids : List Id). ids ++ nodes_of (edge_statements cs)) (nodes_named 0 ns root irm)
    ∙ (ap (λ (ids : List Id). names_from 0 ns ++ ids) (edges_alone cs) ∙ append-nil (names_from 0 ns)))

bus_edges : (ns : List Node) (root : ℕ) (irm : Option ℕ) (cs : List Cable) → edges_of (bus_statements ns root irm cs) ≡ cable_edges cs
bus_edges ns root irm cs =
    edges-append (node_statements 0 ns root irm) (edge_statements cs)
    ∙ (ap (λ (es : List (Id × Id)). es ++ edges_of (edge_statements cs)) (nodes_alone 0 ns root irm) ∙ edges_named cs)

pub graphs_are_dot : GraphsAreDot
graphs_are_dot t =
    let ns = walk t in
    let root = length ns - 1 in
    let irm = elected t in
    let cs = cables t in record {
      statements = bus_statements ns root irm cs;
      is = record { name_is = refl; are = bus_are ns root irm cs; text_is = bus_text ns root irm cs };
      nodes = bus_nodes ns root irm cs;
      edges = bus_edges ns root irm cs;
    }

pub tree_dot : (t : Tree) (text : List ℕ) → text ≡ graph t → IsTreeDot t text
tree_dot t text e = subst (IsTreeDot t) (sym e) (graphs_are_dot t)
