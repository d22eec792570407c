use Rattle.std.proofs.Common.{◌≡◌, ◌+◌, ◌-◌, ◌≤◌, length, drop}
use Rattle.script_words.specs.Fit.{reach}
use Rattle.script_words.proofs.fit.reach.Given as goal

abbrev pub invariant-loop-n : goal.invariant-loop-n
invariant-loop-n l = record {
  value : l.n + reach (drop l.n l.wanted) (drop l.n l.words) ≡ reach l.wanted l.words;
  few : l.n ≤ length l.words;
}

abbrev pub decreases-loop-n : goal.decreases-loop-n
decreases-loop-n l = length l.words - l.n
