use Rattle.std.proofs.Common.{◌≡◌, ◌++◌, drop}
use Rattle.view_text.specs.Graph.{graph_edges}
use Rattle.view_text.proofs.graph.put_edges.Given as goal

abbrev pub invariant-loop-cable : goal.invariant-loop-cable
invariant-loop-cable l = l.out.items ++ graph_edges (drop l.cable-index l.cables) ≡ l.initial.out.items ++ graph_edges l.cables
