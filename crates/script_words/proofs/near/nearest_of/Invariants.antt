use Rattle.std.proofs.Common.{◌≡◌, drop}
use Rattle.script_words.specs.Usage.{usages}
use Rattle.script_words.specs.Near.{nearest_of}
use Rattle.script_words.proofs.near.nearest_of.Given as goal

abbrev pub invariant-loop-number : goal.invariant-loop-number
invariant-loop-number l = nearest_of l.word (drop l.number usages) ≡ nearest_of l.word usages
