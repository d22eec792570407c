-- A command comes to some answer.
use Rattle.std.specs.Prelude.{◌≡◌, ℕ, List, length, IfSome}
use Rattle.cable_world.specs.World.{CableWorld}
use Rattle.cable_world.specs.Run.{IsReached, Rests}
use Rattle.settle.specs.declared.report.Report.{Report}
use Rattle.settle.specs.Report.{IsReport}
use Rattle.script_lines.specs.declared.command.Command.{Command}
use Rattle.script_lines.specs.declared.command.Command.TheVariants.{Plan}
use Rattle.script_told.specs.Bus.{Bus}
use Rattle.script_told.specs.Step.{LineAnswer, Does, DoesSettle}

-- a report is of a reached world, from which holds and turns alone led to this one
pub record IsOfReached (now : CableWorld) (report : Report) : Type 0 where
  pub world : CableWorld
  pub reached : IsReached world
  pub is : IsReport world report
  pub turns : ℕ
  pub rests : Rests turns world now

-- the world of a bus is reached, each of its nodes has a name, and the report is such a one
pub record IsReachedBus (bus : Bus) : Type 0 where
  pub reached : IsReached bus.world
  pub named : length bus.notes.names ≡ length bus.world.nodes
  pub reported : IfSome bus.notes.report (IsOfReached bus.world)

pub record HasAnswer (Comes : LineAnswer → Type 0) : Type 0 where
  pub answer : LineAnswer
  pub is : Comes answer

abbrev pub IsNoPlan : Command → Type 0
IsNoPlan (Plan name) = ⊥
IsNoPlan command = Unit {0}

-- each command but a plan has an answer on such a bus
abbrev pub CommandsHaveAnswers : Type 0
CommandsHaveAnswers =
    (bus : Bus) (command : Command) → IsReachedBus bus → IsNoPlan command →
    HasAnswer (Does bus command)

-- so has a plan
abbrev pub PlansHaveAnswers : Type 0
PlansHaveAnswers =
    (bus : Bus) (name : List ℕ) → IsReachedBus bus → HasAnswer (Does bus (Plan name))

-- and what a bus settles to
abbrev pub BusesSettle : Type 0
BusesSettle = (bus : Bus) → IsReachedBus bus → HasAnswer (DoesSettle bus)
