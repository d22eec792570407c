use Rattle.std.proofs.Common.{◌≡◌, ◌++◌, drop}
use Rattle.topology_stack.specs.Tree.{walk}
use Rattle.reset_list.specs.Texts.{initiators}
use Rattle.reset_list.proofs.texts.put_initiators.Given as goal

abbrev pub invariant-loop-id : goal.invariant-loop-id
invariant-loop-id l = l.out.items ++ initiators l.id (drop l.id (walk l.tree)) ≡ l.fn.out.items ++ initiators 0 (walk l.tree)
