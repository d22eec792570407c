-- What each report of a script says of its bus.
use Rattle.std.specs.Prelude.{◌≡◌, ℕ, ◌<◌, Some, List, [], ◌++◌, All, Any, length}
use Rattle.cabling.specs.Component.{IsComponent}
use Rattle.cable_world.specs.World.{CableWorld, NodeNumber}
use Rattle.cable_world.specs.Run.{IsReached}
use Rattle.cable_world.specs.Outcome.{Ending, IsOutcome}
use Rattle.settle.specs.declared.report.Part.{Part}
use Rattle.settle.specs.declared.report.Report.{Report}
use Rattle.settle.specs.Report.{IsReport}
use Rattle.settle.specs.ReportedOutcome.{TellsEnding}
use Rattle.settle.specs.ReadBack.{IfTree, IsReadBack}
use Rattle.script_lines.specs.declared.command.Command.{Command}
use Rattle.script_lines.specs.declared.command.Command.TheVariants.{Settle, Plan}
use Rattle.script_text.specs.ReportText.{IsReportText}
use Rattle.script_told.specs.Bus.{Bus}
use Rattle.script_told.specs.Script.{running}
use Rattle.script_told.specs.Run.{Entry, ScriptRun, IsRun}

-- The part is of the component of a node, as the cables now are, and tells what that came to: a loop, a
-- tree, or a contention, and nothing else. Its tree is the bus tree that is read from its list.
pub record IsOfComponent (w : CableWorld) (node : NodeNumber) (part : Part) : Type 0 where
  pub component : IsComponent w.cabling node part.nodes
  pub outcome : Ending
  pub came : IsOutcome w part.nodes outcome
  pub only : (other : Ending) → IsOutcome w part.nodes other → other ≡ outcome
  pub told : TellsEnding w part.outcome outcome
  pub read : IfTree (IsReadBack w) part.outcome

-- the component of each node is in the report
abbrev pub EachComponentCameTo : CableWorld → Report → Type 0
EachComponentCameTo w report =
    (node : NodeNumber) → node < length w.cabling → Any (IsOfComponent w node) report.parts

-- `settle` and `plan` report
abbrev pub DoesReport : Command → Type 0
DoesReport Settle = Unit {0}
DoesReport (Plan name) = Unit {0}
DoesReport command = ⊥

-- what stands before a report: nothing, or a plan's line
abbrev pub IsBeforeReport : Command → List ℕ → Type 0
IsBeforeReport Settle before = before ≡ []
IsBeforeReport command before = Unit {0}

-- The text is that of the report of the bus's world. That world comes of power-on, and in it each
-- component came to what the report says.
pub record IsReportOf (bus : Bus) (text : List ℕ) : Type 0 where
  pub reached : IsReached bus.world
  pub report : Report
  pub kept : bus.notes.report ≡ Some report
  pub is : IsReport bus.world report
  pub each : EachComponentCameTo bus.world report
  pub told : IsReportText bus.notes.names bus.notes.reports report text

-- the command printed the report of the bus that it left
pub record IsReportedAt (entry : Entry) : Type 0 where
  pub bus : Bus
  pub after : entry.after ≡ running bus
  pub before : List ℕ
  pub alone : IsBeforeReport entry.command before
  pub text : List ℕ
  pub of : IsReportOf bus text
  pub printed : entry.text ≡ before ++ text

-- it is so at each command that reports
abbrev pub EachReportIsSettled : ScriptRun → Type 0
EachReportIsSettled run = All (λ entry. DoesReport entry.command → IsReportedAt entry) run.entries

-- ---- a law

abbrev pub ReportsAreSettled : Type 0
ReportsAreSettled =
    (bytes : List ℕ) (run : ScriptRun) → IsRun bytes run → EachReportIsSettled run
