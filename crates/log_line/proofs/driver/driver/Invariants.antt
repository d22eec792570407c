use Rattle.std.proofs.Common.{◌≡◌, None, length}
use Rattle.log_line.specs.Driver.{driver}
use Rattle.log_line.proofs.driver.driver.Given as goal

abbrev pub invariant-loop-rest : goal.invariant-loop-rest
invariant-loop-rest l = driver l.time l.rest ≡ driver None l.words

abbrev pub decreases-loop-rest : goal.decreases-loop-rest
decreases-loop-rest l = length l.rest
