-- What holds of every lawful world, and what a lawful world keeps in turns, holds and acts.
use Rattle.std.specs.Prelude.{◌≡◌, ℕ, ◌≤◌, None}
use Rattle.cabling.specs.declared.cable.End.{End}
use Rattle.cable_world.specs.declared.act.Act.{Act}
use Rattle.cable_world.specs.World.{CableWorld}
use Rattle.cable_world.specs.Turn.{turn}
use Rattle.cable_world.specs.Quiet.{HoldSchedule, quiet_after}
use Rattle.cable_world.specs.Act.{Acted, hold, hold_fault}
use Rattle.cable_world.specs.Lawful.{IsLawful}
use Rattle.cable_world.specs.Run.{ComesOfPowerOn}
use Rattle.cable_world.specs.StaysLawful.{HoldsAtPowerOn}
use Rattle.convergence.specs.Acyclic.{IsAcyclic}
use Rattle.convergence.specs.Rivals.{IsContested}
use Rattle.convergence.specs.Milestones.{ResetsAreOver, ResetsAreDone, TreesAreTaken}

-- ---- what a lawful world keeps

abbrev pub KeptByTurn : (CableWorld → Type 0) → Type 0
KeptByTurn P = (w : CableWorld) → IsLawful w → P w → P (turn w)

abbrev pub KeptByHold : (CableWorld → Type 0) → Type 0
KeptByHold P =
    (end : End) (turns : ℕ) (w : CableWorld) → hold_fault end w ≡ None → IsLawful w →
    P w → P (hold end turns w)

abbrev pub KeptByAct : (CableWorld → Type 0) → Type 0
KeptByAct P =
    (a : Act) (w v : CableWorld) → Acted a w v → IsLawful w → P w → P v

abbrev pub HoldsFromPowerOn : (CableWorld → Type 0) → Type 0
HoldsFromPowerOn P = (w : CableWorld) → ComesOfPowerOn w → P w

-- so it holds at power-on, and turns, holds and acts of a lawful world keep it
pub record IsKept (P : CableWorld → Type 0) : Type 0 where
  pub power_on : HoldsAtPowerOn P
  pub turn : KeptByTurn P
  pub hold : KeptByHold P
  pub act : KeptByAct P
  pub reached : HoldsFromPowerOn P

-- ---- what follows in a lawful world

abbrev pub OnceContested : (CableWorld → Type 0) → Type 0
OnceContested P = (w : CableWorld) → IsLawful w → IsContested w → P w

abbrev pub OnceOver : (CableWorld → Type 0) → Type 0
OnceOver P = (w : CableWorld) → IsLawful w → ResetsAreOver w → P w

abbrev pub OnceOverAndAcyclic : (CableWorld → Type 0) → Type 0
OnceOverAndAcyclic P = (w : CableWorld) → IsLawful w → IsAcyclic w → ResetsAreOver w → P w

abbrev pub OnceOverAndContested : (CableWorld → Type 0) → Type 0
OnceOverAndContested P = (w : CableWorld) → IsLawful w → IsContested w → ResetsAreOver w → P w

abbrev pub OnceDone : (CableWorld → Type 0) → Type 0
OnceDone P = (w : CableWorld) → IsLawful w → ResetsAreDone w → P w

-- ---- what comes after so many quiet turns, whatever holds are placed between them

-- whatever was before
abbrev pub AfterAny : (CableWorld → ℕ) → (CableWorld → Type 0) → Type 0
AfterAny count P =
    (holds : HoldSchedule) (w : CableWorld) (k : ℕ) → IsLawful w → count w ≤ k →
    P (quiet_after holds k w)

-- after resets are done
abbrev pub AfterDone : (CableWorld → ℕ) → (CableWorld → Type 0) → Type 0
AfterDone count P =
    (holds : HoldSchedule) (w : CableWorld) (k : ℕ) → IsLawful w → ResetsAreDone w → count w ≤ k →
    P (quiet_after holds k w)

abbrev pub AfterDoneAcyclic : (CableWorld → ℕ) → (CableWorld → Type 0) → Type 0
AfterDoneAcyclic count P =
    (holds : HoldSchedule) (w : CableWorld) (k : ℕ) → IsLawful w → IsAcyclic w → ResetsAreDone w →
    count w ≤ k → P (quiet_after holds k w)

abbrev pub KeptOnceDone : (CableWorld → Type 0) → Type 0
KeptOnceDone P = (w : CableWorld) → IsLawful w → ResetsAreDone w → P w → P (turn w)

-- a world in which resets are done and trees are taken
pub record IsGrown (w : CableWorld) : Type 0 where
  pub lawful : IsLawful w
  pub acyclic : IsAcyclic w
  pub contested : IsContested w
  pub done : ResetsAreDone w
  pub taken : TreesAreTaken w

abbrev pub AfterGrown : (CableWorld → ℕ) → (CableWorld → Type 0) → Type 0
AfterGrown count P =
    (holds : HoldSchedule) (w : CableWorld) (k : ℕ) → IsGrown w → count w ≤ k →
    P (quiet_after holds k w)

abbrev pub KeptOnceGrown : (CableWorld → Type 0) → Type 0
KeptOnceGrown P = (w : CableWorld) → IsGrown w → P w → P (turn w)
