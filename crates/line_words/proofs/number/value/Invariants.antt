use Rattle.std.proofs.Common.{◌≡◌, drop}
use Rattle.line_words.specs.codings.Going.{digits_from}
use Rattle.line_words.proofs.number.value.Given as goal

abbrev pub invariant-loop-c : goal.invariant-loop-c
invariant-loop-c l =
    digits_from l.base l.number (drop l.c-index l.digits) ≡ digits_from l.base 0 l.digits
