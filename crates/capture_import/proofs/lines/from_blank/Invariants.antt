use Rattle.std.proofs.Common.{◌≡◌, length}
use Rattle.capture_import.specs.Text.{from_blank}
use Rattle.capture_import.proofs.lines.from_blank.Given as goal

abbrev pub invariant-loop-rest : goal.invariant-loop-rest
invariant-loop-rest l =
    from_blank l.rest ≡ from_blank l.line

abbrev pub decreases-loop-rest : goal.decreases-loop-rest
decreases-loop-rest l = length l.rest
