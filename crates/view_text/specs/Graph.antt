-- The graph of a bus tree in Graphviz's language: a node a node, an edge a cable.
use Rattle.std.specs.Prelude.{ℕ, ◌+◌, ◌-◌, ◌==◌, if◌then◌else◌, Option, Some, None, List, [], ◌∷◌, ◌++◌, length, codes}
use Rattle.self_id.specs.Node.{Node}
use Rattle.topology_stack.specs.Tree.{Tree, walk}
use Rattle.topology_stack.specs.Elect.{elected}
use Rattle.view_text.specs.declared.cable.Cable.{Cable}
use Rattle.view_text.specs.Packet.{field}
use Rattle.view_text.specs.Cable.{cables}
use Rattle.view_text.specs.Node.{title, link_words, gap_words, speed_word}

-- Graphviz breaks a line of a label at a backslash and an n
abbrev pub line_break : List ℕ
line_break = 92 ∷ 110 ∷ []

-- the box of the root has two lines, and that of the isochronous resource manager a bold one
abbrev pub root_box : ℕ → ℕ → List ℕ
root_box id root = if id == root then codes ", peripheries=2" else []

abbrev pub irm_box : ℕ → Option ℕ → List ℕ
irm_box id None = []
irm_box id (Some irm) = if id == irm then codes ", style=bold" else []

-- `  nID [label="node ID\nlink ..\ninitiated .."];`, and before `];` what makes the box stand out
unfoldable pub graph_label : ℕ → Node → ℕ → Option ℕ → List ℕ
graph_label id n root irm =
    title id root irm ++ (line_break ++ (link_words n.attrs ++ (line_break ++ gap_words n.attrs)))

unfoldable pub graph_node : ℕ → Node → ℕ → Option ℕ → List ℕ
graph_node id n root irm =
    field (codes "  n") id
    ++ (codes " [label=\"" ++ (graph_label id n root irm ++ (codes "\""
    ++ (root_box id root ++ (irm_box id irm ++ codes "];\n")))))

abbrev pub graph_nodes : ℕ → List Node → ℕ → Option ℕ → List ℕ
graph_nodes id [] root irm = []
graph_nodes id (n ∷ ns) root irm = graph_node id n root irm ++ graph_nodes (id + 1) ns root irm

-- `  nPARENT -- nCHILD [label="SPEED", penwidth=1, taillabel="PORT", headlabel="PORT"];`, and the line is wider
-- at each higher speed
unfoldable pub edge_ends : Cable → List ℕ
edge_ends c = field (codes "  n") c.parent ++ field (codes " -- n") c.child

unfoldable pub edge_ports : Cable → List ℕ
edge_ports c =
    field (codes ", taillabel=\"") c.port
    ++ (field (codes "\", headlabel=\"") c.child_port ++ codes "\"];\n")

abbrev pub graph_edge : Cable → List ℕ
graph_edge c =
    edge_ends c
    ++ (codes " [label=\"" ++ (speed_word c.speed
    ++ (field (codes "\", penwidth=") (c.speed + 1) ++ edge_ports c)))

abbrev pub graph_edges : List Cable → List ℕ
graph_edges [] = []
graph_edges (c ∷ cs) = graph_edge c ++ graph_edges cs

-- the root at the left, boxes for nodes, and small numbers of ports away from the lines
unfoldable pub graph_head : List ℕ
graph_head =
    codes "graph bus {\n  rankdir=LR;\n  ranksep=1.1;\n  node [shape=box];\n"
    ++ codes "  edge [headport=w, fontsize=11, labelfontsize=9, labeldistance=2.2, labelangle=-24];\n"

-- the nodes by rising ID, and then the cables
abbrev pub graph : Tree → List ℕ
graph t =
    graph_head
    ++ (graph_nodes 0 (walk t) (length (walk t) - 1) (elected t)
    ++ (graph_edges (cables t) ++ codes "}\n"))
