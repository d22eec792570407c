use Rattle.std.proofs.Common.{◌≡◌, length}
use Rattle.reset_list.specs.Losses.{lost_by}
use Rattle.reset_list.proofs.losses.count_all.Given as goal

abbrev pub invariant-loop-rest : goal.invariant-loop-rest
invariant-loop-rest l = lost_by l.card l.now l.rest l.losses.items ≡ lost_by l.card l.now l.changes l.fn.losses.items

abbrev pub decreases-loop-rest : goal.decreases-loop-rest
decreases-loop-rest l = length l.rest
