use Rattle.std.proofs.Common.{◌≡◌, length}
use Rattle.log_line.specs.Line.{has_loss}
use Rattle.log_line.proofs.line.has_loss.Given as goal

abbrev pub invariant-loop-rest : goal.invariant-loop-rest
invariant-loop-rest l = has_loss l.rest ≡ has_loss l.words

abbrev pub decreases-loop-rest : goal.decreases-loop-rest
decreases-loop-rest l = length l.rest
