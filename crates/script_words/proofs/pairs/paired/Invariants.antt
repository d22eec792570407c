use Rattle.std.proofs.Common.{◌≡◌, ◌+◌, length}
use Rattle.script_words.specs.Pairs.{paired, pair_wanted}
use Rattle.script_words.proofs.pairs.paired.Given as goal

abbrev pub invariant-loop-rest : goal.invariant-loop-rest
invariant-loop-rest l = record {
  value : l.n + paired l.rest ≡ paired l.words;
  few : l.n + length l.rest ≡ length l.words;
  wanted : pair_wanted l.rest ≡ pair_wanted l.words;
}

abbrev pub decreases-loop-rest : goal.decreases-loop-rest
decreases-loop-rest l = length l.rest
