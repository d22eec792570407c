use Rattle.std.proofs.Common.{◌≡◌, length}
use Rattle.capture_hint.specs.Likeness.{has_piece}
use Rattle.capture_hint.proofs.likeness.has_piece.Given as goal

abbrev pub invariant-loop-rest : goal.invariant-loop-rest
invariant-loop-rest l = has_piece l.piece l.rest ≡ has_piece l.piece l.bytes

abbrev pub decreases-loop-rest : goal.decreases-loop-rest
decreases-loop-rest l = length l.rest
