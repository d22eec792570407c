use Rattle.std.proofs.Common.{◌≡◌, length}
use Rattle.reset_list.specs.Losses.{back_by}
use Rattle.reset_list.proofs.losses.back_all.Given as goal

abbrev pub invariant-loop-rest : goal.invariant-loop-rest
invariant-loop-rest l = back_by l.card l.now l.rest l.losses.items ≡ back_by l.card l.now l.changes l.fn.losses.items

abbrev pub decreases-loop-rest : goal.decreases-loop-rest
decreases-loop-rest l = length l.rest
