use Rattle.std.proofs.Common.{◌≡◌, length}
use Rattle.capture_hint.specs.Likeness.{are_firsts}
use Rattle.capture_hint.proofs.likeness.are_firsts.Given as goal

abbrev pub invariant-loop-rest : goal.invariant-loop-rest
invariant-loop-rest l = are_firsts l.rest ≡ are_firsts l.bytes

abbrev pub decreases-loop-rest : goal.decreases-loop-rest
decreases-loop-rest l = length l.rest
