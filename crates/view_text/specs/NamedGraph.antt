-- The graph of a bus tree whose nodes have names, and numbers of their own in the graph.
use Rattle.std.specs.Prelude.{ℕ, ◌+◌, ◌-◌, Option, List, [], ◌∷◌, ◌++◌, length, codes, slice_index, slice_index_or}
use Rattle.self_id.specs.Node.{Node}
use Rattle.topology_stack.specs.Tree.{Tree, walk}
use Rattle.topology_stack.specs.Elect.{elected}
use Rattle.view_text.specs.declared.cable.Cable.{Cable}
use Rattle.view_text.specs.Packet.{field}
use Rattle.view_text.specs.Cable.{cables}
use Rattle.view_text.specs.Graph.{line_break, root_box, irm_box, graph_label, graph_edge}

-- `  nNUMBER [label="NAME\n`
unfoldable pub named_front : List ℕ → ℕ → List ℕ
named_front name number =
    field (codes "  n") number ++ (codes " [label=\"" ++ (name ++ line_break))

-- `  nNUMBER [label="NAME\nnode ID\nlink ..\ninitiated .."];`, and before `];` what makes the box stand out
unfoldable pub named_node : List ℕ → ℕ → ℕ → Node → ℕ → Option ℕ → List ℕ
named_node name number id n root irm =
    named_front name number ++ (graph_label id n root irm ++ (codes "\""
    ++ (root_box id root ++ (irm_box id irm ++ codes "];\n"))))

-- the nodes, whose IDs are counted from `id`, with the names and the numbers of all nodes by ID
abbrev pub named_nodes : List (List ℕ) → List ℕ → ℕ → List Node → ℕ → Option ℕ → List ℕ
named_nodes names numbers id [] root irm = []
named_nodes names numbers id (n ∷ ns) root irm =
    named_node (slice_index_or names id []) (slice_index numbers id) id n root irm
    ++ named_nodes names numbers (id + 1) ns root irm

-- a cable between the numbers of its nodes
abbrev pub between_numbers : List ℕ → Cable → Cable
between_numbers numbers c =
    record c { parent = slice_index numbers c.parent; child = slice_index numbers c.child }

abbrev pub numbered_edges : List ℕ → List Cable → List ℕ
numbered_edges numbers [] = []
numbered_edges numbers (c ∷ cs) =
    graph_edge (between_numbers numbers c) ++ numbered_edges numbers cs

-- the nodes by rising ID, and then the cables, as `graph` has them
abbrev pub named_graph : List (List ℕ) → List ℕ → Tree → List ℕ
named_graph names numbers t =
    named_nodes names numbers 0 (walk t) (length (walk t) - 1) (elected t)
    ++ numbered_edges numbers (cables t)
