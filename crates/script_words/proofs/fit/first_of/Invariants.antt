use Rattle.std.proofs.Common.{◌≡◌, drop}
use Rattle.script_words.specs.Usage.{usages}
use Rattle.script_words.specs.Fit.{first_of}
use Rattle.script_words.proofs.fit.first_of.Given as goal

abbrev pub invariant-loop-number : goal.invariant-loop-number
invariant-loop-number l = first_of l.n l.words (drop l.number usages) ≡ first_of l.n l.words usages
