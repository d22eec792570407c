use Rattle.std.proofs.Common.{◌≡◌, ◌++◌, false, drop}
use Rattle.script_words.specs.Usage.{usages}
use Rattle.script_words.specs.Fit.{all_of}
use Rattle.script_words.proofs.fit.put_all_of.Given as goal

abbrev pub invariant-loop-number : goal.invariant-loop-number
invariant-loop-number l =
    l.out.items ++ all_of l.some l.n l.words (drop l.number usages)
    ≡ l.initial.out.items ++ all_of false l.n l.words usages
