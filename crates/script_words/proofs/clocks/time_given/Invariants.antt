use Rattle.std.proofs.Common.{◌≡◌, length}
use Rattle.script_words.specs.Clocks.{time_given}
use Rattle.script_words.proofs.clocks.time_given.Given as goal

abbrev pub invariant-loop-rest : goal.invariant-loop-rest
invariant-loop-rest l = time_given l.key l.rest ≡ time_given l.key l.pairs

abbrev pub decreases-loop-rest : goal.decreases-loop-rest
decreases-loop-rest l = length l.rest
