use Rattle.std.proofs.Common.{◌≡◌, ◌-◌, ◌++◌, length, drop}
use Rattle.topology_stack.specs.Tree.{walk}
use Rattle.view_text.specs.Graph.{graph_nodes}
use Rattle.view_text.proofs.graph.put_nodes.Given as goal

abbrev pub invariant-loop-id : goal.invariant-loop-id
invariant-loop-id l = l.out.items ++ graph_nodes l.id (drop l.id (walk l.tree)) (length (walk l.tree) - 1) l.irm ≡ l.fn.out.items ++ graph_nodes 0 (walk l.tree) (length (walk l.tree) - 1) l.irm
