use Rattle.std.proofs.Common.{◌≡◌, ◌+◌, length}
use Rattle.script_words.specs.Pairs.{valued}
use Rattle.script_words.proofs.pairs.valued.Given as goal

abbrev pub invariant-loop-rest : goal.invariant-loop-rest
invariant-loop-rest l = record {
  value : l.n + valued l.times l.rest ≡ valued l.times l.words;
  few : l.n + length l.rest ≡ length l.words;
}

abbrev pub decreases-loop-rest : goal.decreases-loop-rest
decreases-loop-rest l = length l.rest
