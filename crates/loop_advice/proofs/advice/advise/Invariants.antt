use Rattle.std.proofs.Common.{ℕ, ◌^◌, ◌<◌, take}
use Rattle.cabling.specs.Component.{IsClosed}
use Rattle.loop_advice.specs.Order.{AreInOrder}
use Rattle.loop_advice.proofs.Splitting.{Split}
use Rattle.loop_advice.proofs.advice.advise.Given as goal

abbrev pub invariant-loop-cable : goal.invariant-loop-cable
invariant-loop-cable l =
    (set : ℕ) → set < 2 ^ 63 → IsClosed l.cabling set → AreInOrder l.cabling set l.cable-items →
    Split l.cabling set 63 (take l.cable-index l.cable-items) l.groups l.advice.pulls l.advice.kept
