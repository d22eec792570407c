use Rattle.std.proofs.Common.{◌≡◌, length}
use Rattle.log_line.specs.Marks.{has_mark}
use Rattle.log_line.proofs.marks.has_mark.Given as goal

abbrev pub invariant-loop-behind : goal.invariant-loop-behind
invariant-loop-behind l = has_mark l.rest ≡ has_mark l.line

abbrev pub decreases-loop-behind : goal.decreases-loop-behind
decreases-loop-behind l = length l.rest
