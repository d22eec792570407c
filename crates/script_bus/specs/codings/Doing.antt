-- How a command is done: its act, and a plan that can be carried out. No public contract cites
-- this file.
use Rattle.std.specs.Prelude.{◌≡◌, ℕ, ◌+◌, ◌==◌, nat_lt, true, false, List, Some}
use Rattle.cable_world.specs.declared.act.Act.{Act}
use Rattle.cable_world.specs.Act.{IsAct}
use Rattle.cable_world.specs.World.{NodeNumber}
use Rattle.root_plan.specs.declared.choice.RootPlan.{RootPlan}
use Rattle.settle.specs.Report.{quiet_turns_of}
use Rattle.settle.specs.Planned.{SuitsTree}
use Rattle.script_lines.specs.declared.command.Command.{Command}
use Rattle.script_told.specs.Bus.{Bus, ReportedTree, tree_with, values_at}
use Rattle.script_told.specs.Step.{LineAnswer, Acts, Does}
use Rattle.script_trace.specs.Voice.{Voice, legend_of}
use Rattle.script_trace.specs.Trace.{act_trace, Traces}
use Rattle.script_bus.specs.Running.{IsAsked}
use Rattle.script_bus.specs.codings.Standing.{IsPlanned}

-- a command says this act: what comes of the act comes of the command, and what it does is told
pub record IsActOf (bus : Bus) (command : Command) (a : Act) : Type 0 where
  pub is : IsAct a
  pub comes : (answer : LineAnswer) → Acts bus a answer → Does bus command answer
  pub told :
      (voice : Voice) (after : Bus) →
      Traces voice bus command after
      (act_trace voice (legend_of after.notes) command bus.world after.world)

-- the node with a name is the bus manager of its tree, the quiet turns are within the limit, and
-- this is the plan for the tree, and its line
pub record IsReady
    (bus : Bus) (name : List ℕ) (node : NodeNumber) (plan : RootPlan) (line : List ℕ) : Type 0 where
  pub id : ℕ
  pub manager : NodeNumber
  pub asked : IsAsked bus name node id manager
  pub is_manager : ((values_at manager bus).bus_manager_id == id) ≡ true
  pub within : nat_lt 2000000 (bus.world.turns + quiet_turns_of bus.world) ≡ false
  pub tree : ReportedTree
  pub settled : tree_with node bus.notes ≡ Some tree
  pub planned : IsPlanned bus name tree plan line
  pub suits : SuitsTree bus.world node plan
