-- Loops are out: each component with a loop has come to the outcome Loop.
use Rattle.std.specs.Prelude.{ℕ, ◌≤◌}
use Rattle.cabling.specs.NodeSet.{Holds}
use Rattle.cabling.specs.Component.{IsComponent}
use Rattle.cabling.specs.Looped.{IsCore}
use Rattle.cable_world.specs.World.{CableWorld, NodeNumber, NodeSet}
use Rattle.cable_world.specs.Quiet.{HoldSchedule, quiet_after}
use Rattle.cable_world.specs.Run.{ComesOfPowerOn}
use Rattle.cable_world.specs.Outcome.{IsLoop}
use Rattle.convergence.specs.Milestones.{ResetsAreDone}
use Rattle.convergence.specs.Turns.{loop_turns, turns_to_loops, HoldsAfter}

-- each node of a loop reports that the configuration timed out, and no node of its component has an
-- ID
abbrev pub LoopsAreOut : CableWorld → Type 0
LoopsAreOut w =
    (node : NodeNumber) (set core : NodeSet) (member : NodeNumber) →
    IsComponent w.cabling node set → IsCore w.cabling set core →
    Holds core member → IsLoop w set core

-- ---- laws

-- the longest timeout after resets are done, and at each turn from there
abbrev pub LoopsComeOutOnceDone : Type 0
LoopsComeOutOnceDone =
    (holds : HoldSchedule) (w : CableWorld) (k : ℕ) → ComesOfPowerOn w → ResetsAreDone w →
    loop_turns w ≤ k → LoopsAreOut (quiet_after holds k w)

abbrev pub LoopsComeOutByThen : Type 0
LoopsComeOutByThen = HoldsAfter turns_to_loops LoopsAreOut
