use Rattle.std.proofs.Common.{◌≡◌, ◌++◌, drop}
use Rattle.topology_stack.specs.Tree.{walk}
use Rattle.view_text.specs.Drawing.{others}
use Rattle.view_text.proofs.gaps.put_others.Given as goal

abbrev pub invariant-loop-id : goal.invariant-loop-id
invariant-loop-id l = l.out.items ++ others l.gap l.id (drop l.id (walk l.tree)) ≡ l.fn.out.items ++ others l.gap 0 (walk l.tree)
