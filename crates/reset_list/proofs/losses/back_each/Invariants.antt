use Rattle.std.proofs.Common.{◌≡◌, ◌++◌, take, drop}
use Rattle.std.specs.Prelude.{map}
use Rattle.reset_list.specs.Losses.{back_on}
use Rattle.reset_list.proofs.losses.back_each.Given as goal

abbrev pub invariant-loop-loss : goal.invariant-loop-loss
invariant-loop-loss l =
    l.loss-items ≡ map (back_on l.card l.now l.cable) (take l.loss-index l.initial.loss-items) ++ drop l.loss-index l.initial.loss-items
