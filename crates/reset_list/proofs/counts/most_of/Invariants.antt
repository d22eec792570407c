use Rattle.std.proofs.Common.{◌≡◌, None, length}
use Rattle.reset_list.specs.Counts.{most_of}
use Rattle.reset_list.proofs.counts.most_of.Given as goal

abbrev pub invariant-loop-rest : goal.invariant-loop-rest
invariant-loop-rest l = most_of l.best l.rest ≡ most_of None l.tallies

abbrev pub decreases-loop-rest : goal.decreases-loop-rest
decreases-loop-rest l = length l.rest
