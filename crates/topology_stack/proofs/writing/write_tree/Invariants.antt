use Rattle.std.proofs.Common.{◌≡◌, ◌++◌, drop}
use Rattle.topology_stack.specs.Tree.{groups}
use Rattle.topology_stack.proofs.writing.write_tree.Given as goal

abbrev pub invariant-loop-id : goal.invariant-loop-id
invariant-loop-id l = l.quads ++ groups l.id (drop l.id l.node-items) ≡ groups 0 l.node-items
