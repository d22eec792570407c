use Rattle.std.proofs.Common.{◌≡◌, ◌++◌, take, drop}
use Rattle.std.specs.Prelude.{map}
use Rattle.reset_list.specs.Losses.{unknown}
use Rattle.reset_list.proofs.losses.forget_times.Given as goal

abbrev pub invariant-loop-loss : goal.invariant-loop-loss
invariant-loop-loss l =
    l.loss-items ≡ map (unknown l.card) (take l.loss-index l.initial.loss-items) ++ drop l.loss-index l.initial.loss-items
