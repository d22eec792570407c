use Rattle.std.proofs.Common.{◌≡◌, ◌+◌, ◌-◌, ◌≤◌, [], length, take, drop}
use Rattle.script_words.specs.Pairs.{distinct}
use Rattle.script_words.proofs.pairs.distinct.Given as goal

abbrev pub invariant-loop-n : goal.invariant-loop-n
invariant-loop-n l = record {
  few : l.n ≤ length l.words;
  value : l.n + distinct (take l.n l.words) (drop l.n l.words) ≡ distinct [] l.words;
}

abbrev pub decreases-loop-n : goal.decreases-loop-n
decreases-loop-n l = length l.words - l.n
