use Rattle.std.proofs.Common.{length}
use Rattle.log_import.specs.codings.Standing.{Searches}
use Rattle.log_import.proofs.finder.find_reset.Given as goal

-- the reset that is wanted isn't in the lines so far
abbrev pub invariant-loop-line : goal.invariant-loop-line
invariant-loop-line l = Searches l.wanted l.log l.rest l.finder

abbrev pub decreases-loop-line : goal.decreases-loop-line
decreases-loop-line l = length l.rest
