-- What turns, holds and acts of a lawful world keep holds along runs.
use Rattle.std.proofs.Common.{zero, suc, ℕ}
use Rattle.convergence.proofs.Common.{CableWorld, ComesOfPowerOn, turn, IsLawful, comes-lawful, turn-lawful, holds-kept, quiet-lawful, HoldSchedule, quiet_after}
use Rattle.cable_world.specs.Run.{starts, acted, held, turned}
use Rattle.cable_world.specs.StaysLawful.{HoldsAtPowerOn}
use Rattle.convergence.specs.Kept.{KeptByTurn, KeptByHold, KeptByAct, IsKept}

module _ (P : CableWorld → Type 0) (at_start : HoldsAtPowerOn P) (by_turn : KeptByTurn P)
    (by_hold : KeptByHold P) (by_act : KeptByAct P) where
  comes : (w : CableWorld) → ComesOfPowerOn w → P w
  comes _ (starts w p) = at_start w p
  comes _ (acted a w v did r) = by_act a w v did (comes-lawful w r) (comes w r)
  comes _ (held end n w none r) = by_hold end n w none (comes-lawful w r) (comes w r)
  comes _ (turned w r) = by_turn w (comes-lawful w r) (comes w r)

  -- it holds of every world that comes of power-on
  pub kept : IsKept P
  kept = record { power_on = at_start; turn = by_turn; hold = by_hold; act = by_act; reached = comes }

-- and after quiet turns
pub kept-quiet : (P : CableWorld → Type 0) → IsKept P →
    (hs : HoldSchedule) (n : ℕ) (w : CableWorld) → IsLawful w → P w → P (quiet_after hs n w)
unfolding quiet_after
kept-quiet P k hs zero w l c = holds-kept P k.hold (hs 0) w l c
kept-quiet P k hs (suc n) w l c =
    let v : CableWorld = quiet_after hs n w in
    let m : IsLawful v = quiet-lawful hs n w l in
    holds-kept P k.hold (hs (suc n)) (turn v) (turn-lawful v m) (k.turn v m (kept-quiet P k hs n w l c))
