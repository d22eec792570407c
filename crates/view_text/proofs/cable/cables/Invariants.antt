use Rattle.std.proofs.Common.{◌≡◌, ◌++◌, drop}
use Rattle.topology_stack.specs.Tree.{walk}
use Rattle.topology_stack.specs.Far.{ends}
use Rattle.view_text.specs.Cable.{cables_from, cables}
use Rattle.view_text.proofs.cable.cables.Given as goal

-- the cables so far, and then those of the nodes that are left, are all cables
abbrev pub invariant-loop-id : goal.invariant-loop-id
invariant-loop-id l = l.list.items ++ cables_from l.tree l.id (drop l.id (walk l.tree)) (drop l.id (ends l.tree)) ≡ cables l.tree
