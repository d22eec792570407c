use Rattle.std.proofs.Common.{◌≡◌, drop}
use Rattle.topology_stack.specs.Tree.{walk}
use Rattle.view_text.specs.Drawing.{all_have}
use Rattle.view_text.proofs.gaps.all_have.Given as goal

abbrev pub invariant-loop-id : goal.invariant-loop-id
invariant-loop-id l = all_have l.gap (drop l.id (walk l.tree)) ≡ all_have l.gap (walk l.tree)
