use Rattle.std.proofs.Common.{◌≡◌, ◌++◌, length}
use Rattle.reset_log.specs.Texts.{all_losses}
use Rattle.reset_log.proofs.heads.put_losses.Given as goal

abbrev pub invariant-loop-rest : goal.invariant-loop-rest
invariant-loop-rest l = l.out.items ++ all_losses l.rest ≡ l.fn.out.items ++ all_losses l.losses

abbrev pub decreases-loop-rest : goal.decreases-loop-rest
decreases-loop-rest l = length l.rest
