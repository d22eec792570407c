use Rattle.std.proofs.Common.{◌≡◌, length}
use Rattle.script_words.specs.Near.{is_near}
use Rattle.script_words.proofs.near.is_near.Given as goal

abbrev pub invariant-loop-left : goal.invariant-loop-left
invariant-loop-left l = is_near l.left l.right ≡ is_near l.one l.other

abbrev pub decreases-loop-left : goal.decreases-loop-left
decreases-loop-left l = length l.left
