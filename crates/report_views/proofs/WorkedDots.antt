-- Worked rows of what the graph of a report shows.
use Rattle.std.proofs.Common.{◌≡◌, ℕ, Some, None, [], ◌∷◌, refl}
use Rattle.std.specs.Prelude.{codes}
use Rattle.std.specs.Fmt.{digits}
use Rattle.cabling.specs.declared.cable.End.{End}
use Rattle.cabling.specs.Wiring.{Wiring}
use Rattle.view_text.specs.declared.cable.Cable.{Cable}
use Rattle.view_text.specs.Packet.{field}
use Rattle.settle.specs.declared.report.Outcome.TheVariants.{Contention}
use Rattle.report_views.specs.PlainGraph.{plain_node, edge_nodes, plain_edge, plain_graph}
use Rattle.report_views.specs.Dots.{ends_in, held_below, ends_below}

abbrev at : ℕ → ℕ → End
at node port = record { node = node; port = port }

-- nodes 0 and 2 have two cables between them, and node 1 has none
abbrev doubled : Wiring
doubled =
    (Some (at 2 1) ∷ None ∷ Some (at 2 0) ∷ []) ∷ (None ∷ []) ∷ (Some (at 0 2) ∷ Some (at 0 0) ∷ []) ∷ []

both-nodes : held_below 5 63 ≡ 0 ∷ 2 ∷ []
both-nodes = refl

-- each cable once, though each node has both
both-cables : ends_below doubled 5 63 ≡ (at 0 0, at 2 1) ∷ (at 0 2, at 2 0) ∷ []
both-cables = refl

-- a cable of a tree, between the nodes that have the IDs of its ends
abbrev of-tree : Cable
of-tree = record { parent = 2; port = 1; child = 0; child_port = 3; speed = 2 }

tree-cable : ends_in (4 ∷ 1 ∷ 3 ∷ []) of-tree ≡ (at 3 1, at 4 3)
tree-cable = refl

-- the lines of two nodes that contend
abbrev contending : Wiring
contending = (Some (at 1 0) ∷ []) ∷ (Some (at 0 0) ∷ []) ∷ []

lines :
    plain_graph (codes "a" ∷ codes "b" ∷ []) contending (Contention 0 1) 3
    ≡ codes "  n0 [label=\"a\\ncontention\", style=filled];\n  n1 [label=\"b\\ncontention\", style=filled];\n  n0 -- n1 [headport=_, taillabel=\"0\", headlabel=\"0\"];\n"
unfolding plain_graph plain_node plain_edge edge_nodes field digits
lines = refl
