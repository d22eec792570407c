-- Trees that stand since they were reported, plans for them, and what is heard of commands. No public
-- contract cites this file.
use Rattle.std.specs.Prelude.{◌≡◌, ◌<◌, ◌^◌, ◌++◌, ℕ, List, [], Ok, Some}
use Rattle.topology_stack.specs.Tree.{Tree}
use Rattle.cabling.specs.Walk.{IsWalk}
use Rattle.cabling.specs.Component.{IsComponent}
use Rattle.cable_world.specs.World.{CableWorld, NodeNumber, NodeSet}
use Rattle.cable_world.specs.Run.{IsReached, Rests}
use Rattle.root_plan.specs.declared.choice.RootPlan.{RootPlan}
use Rattle.settle.specs.declared.report.Report.{Report}
use Rattle.settle.specs.Report.{IsReport}
use Rattle.settle.specs.Reported.{ReportsTree}
use Rattle.script_lines.specs.declared.command.Command.{Command}
use Rattle.script_lines.specs.declared.command.Command.TheVariants.{Plug, Pull, Reset, Config, Hold, Turn, Settle, Plan}
use Rattle.script_text.specs.ReportText.{IsNamedReport}
use Rattle.script_told.specs.Bus.{Bus, ReportedTree}
use Rattle.root_plan.specs.Plan.{IsPlan}
use Rattle.script_text.specs.PlanText.{plan_line}
use Rattle.script_told.specs.Step.{IsTreeOf, Acts, Reports, config_of, node_with, notes_after_report}
use Rattle.script_trace.specs.Voice.{Legend, legend_of, Voice}
use Rattle.script_trace.specs.Trace.{act_trace, quiet_trace}

-- no act came since a report was made: holds and turns alone led from its world to this one
pub record StandsSince (report : Report) (w : CableWorld) : Type 0 where
  pub before : CableWorld
  pub reached : ∥ IsReached before ∥₁
  pub is : IsReport before report
  pub turns : ℕ
  pub rests : Rests turns before w

-- the component of a node stands as a reported tree
pub record StandsAs (w : CableWorld) (node : NodeNumber) (tree : ReportedTree) : Type 0 where
  pub set : NodeSet
  pub component : IsComponent w.cabling node set
  pub small : set < 2 ^ 63
  pub stands : ReportsTree w set tree.root tree.list tree.order

-- a plan for a reported tree, and its line
pub record IsPlanned
    (bus : Bus) (name : List ℕ) (tree : ReportedTree) (plan : RootPlan)
    (line : List ℕ) : Type 0 where
  pub shown : Tree
  pub is : IsTreeOf tree.list shown
  pub planned : IsPlan shown plan
  pub expected : List NodeNumber
  pub walk : IsWalk bus.world.cabling (node_with tree plan.root_id) expected
  pub line_is :
      line ≡ plan_line bus.notes.names name (node_with tree plan.root_id) plan expected

-- a node sent the packet of a plan, the bus settled, and this is the text of the report
pub record IsSent (bus : Bus) (node : NodeNumber) (plan : RootPlan) (after : Bus) (text : List ℕ) :
    Type 0 where
  pub sent : Bus
  pub sends : Acts bus (config_of node (Some plan.root_id) (Some plan.gap)) (Ok (sent, []))
  pub reports : Reports sent (Ok (after, text))

-- ---- what is heard of a command

-- the commands in which nothing happens
abbrev pub IsQuestion : Command → Type 0
IsQuestion (Plug a a_port b b_port) = ⊥
IsQuestion (Pull name port) = ⊥
IsQuestion (Reset name) = ⊥
IsQuestion (Config name root_id gap) = ⊥
IsQuestion (Hold name port turns) = ⊥
IsQuestion (Turn count) = ⊥
IsQuestion Settle = ⊥
IsQuestion (Plan name) = ⊥
IsQuestion command = Unit {0}

-- a bus whose world has settled is reported
pub record IsReportedNow (bus after : Bus) : Type 0 where
  pub report : Report
  pub is : IsReport bus.world report
  pub same : after.world ≡ bus.world
  pub notes : after.notes ≡ notes_after_report bus.notes report
  pub named : IsNamedReport bus.notes.names report

-- a listener heard the quiet turns
abbrev pub IsPassed : Voice → Legend → CableWorld → List ℕ → List ℕ → Type 0
IsPassed voice legend w out new = new ≡ out ++ quiet_trace voice legend w

-- the packet of a plan was sent, and a listener heard what it does
pub record IsPacketSent
    (voice : Voice) (bus : Bus) (name : List ℕ) (node : NodeNumber) (plan : RootPlan) (sent : Bus)
    (out new : List ℕ) : Type 0 where
  pub sends : Acts bus (config_of node (Some plan.root_id) (Some plan.gap)) (Ok (sent, []))
  pub written :
      new
      ≡ out
      ++ act_trace voice (legend_of sent.notes) (Config name (Some plan.root_id) (Some plan.gap)) bus.world
      sent.world

-- and then the bus settled, as `IsSent` has it
pub record IsSentHeard
    (voice : Voice) (bus : Bus) (name : List ℕ) (node : NodeNumber) (plan : RootPlan) (after : Bus)
    (text out new : List ℕ) : Type 0 where
  pub sent : IsSent bus node plan after text
  pub written :
      new
      ≡ out
      ++ (act_trace voice (legend_of after.notes) (Config name (Some plan.root_id) (Some plan.gap)) bus.world
      sent.sent.world ++ quiet_trace voice (legend_of after.notes) sent.sent.world)
