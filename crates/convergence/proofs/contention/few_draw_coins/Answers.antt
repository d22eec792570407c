use Rattle.convergence.proofs.Common.{CableWorld, quiet_after, IsLawful, comes-lawful, quiet-lawful, ResetsAreOver, IsContested}
use Rattle.convergence.proofs.coins.StaysContested.{comes-contested, quiet-contested}
use Rattle.convergence.proofs.resets.ResetsOver.{resets-over}
use Rattle.convergence.proofs.coins.Drawers.{mutual-close, mutual-agree, two-rivals, no-third}
use Rattle.convergence.proofs.contention.few_draw_coins.Goals as goal

pub returns-clause-close : goal.returns-clause-close
returns-clause-close c = λ w l k a b m. mutual-close w l k a b m

pub returns-clause-agree : goal.returns-clause-agree
returns-clause-agree c = λ w l k a b m. mutual-agree w l k a b m

pub returns-clause-two : goal.returns-clause-two
returns-clause-two c = λ w l h over. two-rivals w l h over

pub returns-clause-no_third : goal.returns-clause-no_third
returns-clause-no_third c = λ w l h over. no-third w l h over

pub returns-clause-after_turns : goal.returns-clause-after_turns
returns-clause-after_turns c = λ holds w k r late.
    let lawful : IsLawful w = comes-lawful w r in
    let v : CableWorld = quiet_after holds k w in
    let l : IsLawful v = quiet-lawful holds k w lawful in
    let knows : IsContested v = quiet-contested holds k w lawful (comes-contested w r) in
    let over : ResetsAreOver v = resets-over holds w lawful k late in
    record {
      close = λ a b m. mutual-close v l knows a b m;
      agree = λ a b m. mutual-agree v l knows a b m;
      two = two-rivals v l knows over;
      no_third = no-third v l knows over;
    }
