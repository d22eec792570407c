use Rattle.std.proofs.Common.{◌≡◌, ◌++◌, length}
use Rattle.log_line.specs.Words.{words_of}
use Rattle.log_line.proofs.words.words_of.Given as goal

abbrev pub invariant-loop-part : goal.invariant-loop-part
invariant-loop-part l = l.words.items ++ words_of l.rest ≡ words_of l.initial.rest

abbrev pub decreases-loop-part : goal.decreases-loop-part
decreases-loop-part l = length l.rest
