use Rattle.std.proofs.Common.{◌≡◌, None, length}
use Rattle.log_line.specs.Line.{named}
use Rattle.log_line.proofs.line.named.Given as goal

abbrev pub invariant-loop-rest : goal.invariant-loop-rest
invariant-loop-rest l = named l.time l.rest ≡ named None l.words

abbrev pub decreases-loop-rest : goal.decreases-loop-rest
decreases-loop-rest l = length l.rest
