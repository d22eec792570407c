-- What comes of a power-on world: it is lawful; and it is reached, where it can run.
use Rattle.std.specs.Prelude.{◌≡◌, ℕ, List, None, Some, slice_get}
use Rattle.cabling.specs.declared.cable.End.{End}
use Rattle.port_state.specs.Machine.{PortNode}
use Rattle.cable_world.specs.declared.act.Act.{Act}
use Rattle.cable_world.specs.World.{CableWorld, NodeNumber, CanRun, IsPowerOnWorld}
use Rattle.cable_world.specs.Turn.{turns_after}
use Rattle.cable_world.specs.Act.{Acted, hold, hold_fault}
use Rattle.cable_world.specs.Lawful.{IsLawful}
use Rattle.cable_world.specs.Run.{ComesOfPowerOn, IsReached}
use Rattle.cable_world.specs.Events.{Event, Runs}

-- ---- what holds at power-on, and is kept by turns, holds and acts

abbrev pub HoldsAtPowerOn : (CableWorld → Type 0) → Type 0
HoldsAtPowerOn P = (w : CableWorld) → IsPowerOnWorld w → P w

abbrev pub KeptByTurns : (CableWorld → Type 0) → Type 0
KeptByTurns P = (k : ℕ) (w : CableWorld) → P w → P (turns_after k w)

abbrev pub KeptByHolds : (CableWorld → Type 0) → Type 0
KeptByHolds P =
    (end : End) (turns : ℕ) (w : CableWorld) → hold_fault end w ≡ None → P w → P (hold end turns w)

abbrev pub KeptByActs : (CableWorld → Type 0) → Type 0
KeptByActs P =
    (a : Act) (w v : CableWorld) → Acted a w v → P w → P v

-- ---- laws

abbrev pub ComesIsLawful : Type 0
ComesIsLawful = (w : CableWorld) → ComesOfPowerOn w → IsLawful w

abbrev pub ReachedIsLawful : Type 0
ReachedIsLawful = (w : CableWorld) → IsReached w → IsLawful w

-- a power-on world is reached where it can run
abbrev pub ReachedAtPowerOn : Type 0
ReachedAtPowerOn = (w : CableWorld) → IsPowerOnWorld w → CanRun w → IsReached w

abbrev pub ReachedComesOfPowerOn : Type 0
ReachedComesOfPowerOn = (w : CableWorld) → IsReached w → ComesOfPowerOn w

-- times never change, and regular clocks stay regular: so every reached world can run
abbrev pub ReachedCanRun : Type 0
ReachedCanRun = (w : CableWorld) → IsReached w → CanRun w

-- whatever happens, each node has the times that it had
abbrev pub TimesStay : Type 0
TimesStay =
    (events : List Event) (w v : CableWorld) (k : NodeNumber) (x y : PortNode) → IsLawful w →
    Runs events w v → slice_get w.nodes k ≡ Some x → slice_get v.nodes k ≡ Some y →
    y.state.timing ≡ x.state.timing
