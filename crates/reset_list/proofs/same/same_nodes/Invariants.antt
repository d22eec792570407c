use Rattle.std.proofs.Common.{◌≡◌, length}
use Rattle.reset_list.proofs.same.same_nodes.Given as goal

abbrev pub invariant-loop-one : goal.invariant-loop-one
invariant-loop-one l = l.one ≡ l.other → l.a ≡ l.b

abbrev pub decreases-loop-one : goal.decreases-loop-one
decreases-loop-one l = length l.one
