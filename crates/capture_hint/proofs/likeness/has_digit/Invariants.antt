use Rattle.std.proofs.Common.{◌≡◌, length, false}
use Rattle.capture_hint.specs.Likeness.{has_digit}
use Rattle.capture_hint.proofs.likeness.has_digit.Given as goal

abbrev pub invariant-loop-rest : goal.invariant-loop-rest
invariant-loop-rest l = has_digit l.inside l.rest ≡ has_digit false l.bytes

abbrev pub decreases-loop-rest : goal.decreases-loop-rest
decreases-loop-rest l = length l.rest
