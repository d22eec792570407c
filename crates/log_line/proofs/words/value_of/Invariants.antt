use Rattle.std.proofs.Common.{◌≡◌, length}
use Rattle.log_line.specs.Words.{value_of}
use Rattle.log_line.proofs.words.value_of.Given as goal

abbrev pub invariant-loop-rest : goal.invariant-loop-rest
invariant-loop-rest l = value_of l.key l.rest ≡ value_of l.key l.words

abbrev pub decreases-loop-rest : goal.decreases-loop-rest
decreases-loop-rest l = length l.rest
