-- What comes of a world.
use Rattle.std.specs.Prelude.{◌≡◌, ℕ, zero, suc, ◌+◌, ◌*◌, None}
use Rattle.cabling.specs.declared.cable.End.{End}
use Rattle.cable_world.specs.declared.act.Act.{Act}
use Rattle.cable_world.specs.World.{CableWorld, CanRun, IsPowerOnWorld}
use Rattle.cable_world.specs.Act.{Acted, hold, hold_fault}
use Rattle.cable_world.specs.Turn.{turn}

-- a world that comes of one of these, by acts, holds and turns of which none is refused
pub data ComesOf (Start : CableWorld → Type 0) : CableWorld → Type 0 where
  starts : (w : CableWorld) → Start w → ComesOf Start w
  acted : (a : Act) (w v : CableWorld) → Acted a w v → ComesOf Start w → ComesOf Start v
  held :
      (end : End) (k : ℕ) (w : CableWorld) → hold_fault end w ≡ None → ComesOf Start w →
      ComesOf Start (hold end k w)
  turned : (w : CableWorld) → ComesOf Start w → ComesOf Start (turn w)

-- a world that comes of a power-on world
abbrev pub ComesOfPowerOn : CableWorld → Type 0
ComesOfPowerOn = ComesOf IsPowerOnWorld

-- the same, of one that the code can run
abbrev pub IsReached : CableWorld → Type 0
IsReached = ComesOf (λ w. IsPowerOnWorld w × CanRun w)

-- A turn is quiet where no act came since the turn before; holds may have come. By so many quiet
-- turns the first world comes to the second.
pub data Rests : ℕ → CableWorld → CableWorld → Type 0 where
  still : {w : CableWorld} → Rests zero w w
  hold_first :
      {n : ℕ} {w v : CableWorld} → (end : End) (k : ℕ) → hold_fault end w ≡ None →
      Rests n (hold end k w) v → Rests n w v
  turn_first : {n : ℕ} {w v : CableWorld} → Rests n (turn w) v → Rests (suc n) w v

-- after so many quiet turns a world of n nodes has settled, where cables delay by at most d turns
abbrev pub quiet_turns : ℕ → ℕ → ℕ
quiet_turns n d = d * (2000 + 4 * n * n + 8 * n)
