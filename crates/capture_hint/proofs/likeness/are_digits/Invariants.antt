use Rattle.std.proofs.Common.{◌≡◌, length, false}
use Rattle.capture_hint.specs.Likeness.{are_digits}
use Rattle.capture_hint.proofs.likeness.are_digits.Given as goal

abbrev pub invariant-loop-rest : goal.invariant-loop-rest
invariant-loop-rest l = are_digits l.inside l.rest ≡ are_digits false l.bytes

abbrev pub decreases-loop-rest : goal.decreases-loop-rest
decreases-loop-rest l = length l.rest
