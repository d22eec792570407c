use Rattle.std.proofs.Common.{◌≡◌, length}
use Rattle.script_words.specs.Pairs.{has_key}
use Rattle.script_words.proofs.pairs.has_key.Given as goal

abbrev pub invariant-loop-rest : goal.invariant-loop-rest
invariant-loop-rest l = has_key l.key l.rest ≡ has_key l.key l.pairs

abbrev pub decreases-loop-rest : goal.decreases-loop-rest
decreases-loop-rest l = length l.rest
