use Rattle.std.proofs.Common.{◌≡◌, length}
use Rattle.log_line.specs.Marks.{begins_loss}
use Rattle.log_line.proofs.marks.begins_loss.Given as goal

abbrev pub invariant-loop-rest : goal.invariant-loop-rest
invariant-loop-rest l = begins_loss l.rest ≡ begins_loss l.line

abbrev pub decreases-loop-rest : goal.decreases-loop-rest
decreases-loop-rest l = length l.rest
