use Rattle.std.proofs.Common.{◌≡◌, ◌≤◌, length, drop}
use Rattle.script_words.specs.Usage.{usages}
use Rattle.script_words.specs.Fit.{furthest}
use Rattle.script_words.proofs.fit.furthest.Given as goal

abbrev pub invariant-loop-number : goal.invariant-loop-number
invariant-loop-number l = record {
  value : furthest l.most l.words (drop l.number usages) ≡ furthest 0 l.words usages;
  few : l.most ≤ length l.words;
}
