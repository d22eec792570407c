-- The graph of a component that came to no tree: its nodes, and the cables between them.
use Rattle.std.specs.Prelude.{ℕ, zero, suc, ◌+◌, ◌==◌, ◌||◌, ◌<◌, length, nat_lt, if◌then◌else◌, cond, Option, Some, None, List, [], ◌∷◌, ◌++◌, codes}
use Rattle.std.specs.Int.{bit_at}
use Rattle.cabling.specs.declared.cable.End.{End}
use Rattle.cabling.specs.NodeSet.{Nodes, Holds}
use Rattle.cabling.specs.Wiring.{Wiring, ports_of}
use Rattle.view_text.specs.Packet.{field}
use Rattle.settle.specs.declared.report.Outcome.{Outcome}
use Rattle.settle.specs.declared.report.Outcome.TheVariants as reported
use Rattle.script_text.specs.ReportText.{Names, name_of}

-- ---- nodes

-- what ends the label of a node: that of a core has the word `loop` and a filled box, and that of a
-- node which contends has the word `contention`
abbrev pub loop_end : List ℕ
loop_end = codes "\\nloop\", style=filled];\n"

abbrev pub contention_end : List ℕ
contention_end = codes "\\ncontention\", style=filled];\n"

abbrev pub label_end : Outcome → ℕ → List ℕ
label_end (reported.Tree root list order) node = codes "\"];\n"
label_end (reported.Contention a b) node =
    if (node == a) || (node == b) then contention_end else codes "\"];\n"
label_end (reported.Loop core) node =
    if bit_at core node == 1 then loop_end else codes "\"];\n"

-- `  nNUMBER [label="NAME"];`
unfoldable pub plain_node : Names → Outcome → ℕ → List ℕ
plain_node names outcome node =
    field (codes "  n") node
    ++ (codes " [label=\"" ++ (name_of names node ++ label_end outcome node))

-- the nodes of a set that are below a number
abbrev pub nodes_below : Names → Outcome → Nodes → ℕ → List ℕ
nodes_below names outcome set zero = []
nodes_below names outcome set (suc node) =
    nodes_below names outcome set node
    ++ cond (bit_at set node == 1) (plain_node names outcome node) []

-- ---- cables

-- `  nNUMBER -- nNUMBER [headport=_, taillabel="PORT", headlabel="PORT"];`, and the line comes to the node from
-- the side that is nearest, so that the numbers of two ports of a node don't lie on each other
unfoldable pub edge_nodes : ℕ → ℕ → List ℕ
edge_nodes node far = field (codes "  n") node ++ field (codes " -- n") far

unfoldable pub plain_edge : ℕ → ℕ → End → List ℕ
plain_edge node port far =
    edge_nodes node far.node
    ++ (field (codes " [headport=_, taillabel=\"") port
    ++ (field (codes "\", headlabel=\"") far.port ++ codes "\"];\n"))

-- a cable stands at the lower of its two nodes
abbrev pub edge_at : ℕ → ℕ → Option End → List ℕ
edge_at node port None = []
edge_at node port (Some far) = cond (nat_lt node far.node) (plain_edge node port far) []

-- the cables of a node's ports, numbered from `port`
abbrev pub edges_at : ℕ → ℕ → List (Option End) → List ℕ
edges_at node port [] = []
edges_at node port (far ∷ fars) = edge_at node port far ++ edges_at node (port + 1) fars

-- the cables of the nodes of a set that are below a number
abbrev pub edges_below : Wiring → Nodes → ℕ → List ℕ
edges_below c set zero = []
edges_below c set (suc node) =
    edges_below c set node ++ cond (bit_at set node == 1) (edges_at node 0 (ports_of c node)) []

-- each node of a set exists
abbrev pub AreThere : Wiring → Nodes → Type 0
AreThere c set = (node : ℕ) → Holds set node → node < length c

-- all of its nodes, and then the cables
unfoldable pub plain_graph : Names → Wiring → Outcome → Nodes → List ℕ
plain_graph names c outcome set = nodes_below names outcome set 63 ++ edges_below c set 63
