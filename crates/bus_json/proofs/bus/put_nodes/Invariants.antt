use Rattle.std.proofs.Common.{◌≡◌, ◌++◌, drop}
use Rattle.topology_stack.specs.Tree.{walk}
use Rattle.json.specs.Tree.{items_tokens}
use Rattle.bus_json.specs.Bus.{node_items}
use Rattle.bus_json.proofs.bus.put_nodes.Given as goal

-- what is written so far, and then the nodes that are left, are all nodes
abbrev pub invariant-loop-id : goal.invariant-loop-id
invariant-loop-id l =
    l.out ++ items_tokens (node_items l.tree l.names l.id (drop l.id (walk l.tree)))
    ≡ l.fn.out ++ items_tokens (node_items l.tree l.names 0 (walk l.tree))
