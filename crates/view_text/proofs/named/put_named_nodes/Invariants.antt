use Rattle.std.proofs.Common.{◌≡◌, ◌-◌, ◌++◌, length, drop}
use Rattle.topology_stack.specs.Tree.{walk}
use Rattle.view_text.specs.NamedGraph.{named_nodes}
use Rattle.view_text.proofs.named.put_named_nodes.Given as goal

abbrev pub invariant-loop-id : goal.invariant-loop-id
invariant-loop-id l =
    l.out.items ++ named_nodes l.names l.numbers l.id (drop l.id (walk l.tree)) (length (walk l.tree) - 1) l.irm
    ≡ l.initial.out.items ++ named_nodes l.names l.numbers 0 (walk l.tree) (length (walk l.tree) - 1) l.irm
