-- What each plan of a script comes to.
use Rattle.std.specs.Prelude.{◌≡◌, ℕ, List, All, Some}
use Rattle.cable_world.specs.World.{NodeNumber}
use Rattle.settle.specs.Planned.{HaveGap}
use Rattle.script_lines.specs.declared.command.Command.TheVariants.{Plan}
use Rattle.script_told.specs.Bus.{Bus, ReportedTree, node_named, tree_with}
use Rattle.script_told.specs.Step.{CarriesOut, node_with}
use Rattle.script_told.specs.Script.{running, bus_of}
use Rattle.script_told.specs.Run.{Entry, ScriptRun, IsRun}
use Rattle.script_told.specs.PrintedTree.{PrintsTree, PrintsGap}

-- the plan for the tree of the node with this name was carried out
pub record IsCarriedOut (bus : Bus) (name : List ℕ) (after : Bus) (text : List ℕ) : Type 0 where
  pub node : NodeNumber
  pub named : node_named bus.notes.names name ≡ Some node
  pub tree : ReportedTree
  pub settled : tree_with node bus.notes ≡ Some tree
  pub carried : CarriesOut bus name node tree after text

-- It came out as planned: the node with the planned ID is the root of the tree that is printed, the
-- nodes of that have the IDs in which the plan's line names them, and every one has the planned gap
-- count, on the bus and in its line.
pub record ComesOut (entry : Entry) (name : List ℕ) : Type 0 where
  pub after : Bus
  pub after_is : entry.after ≡ running after
  pub is : IsCarriedOut (bus_of entry.before) name after entry.text
  pub root :
      PrintsTree (bus_of entry.before).world.cabling is.node
      (node_with is.tree is.carried.plan.root_id) after entry.text
  pub order : root.tree.order ≡ is.carried.expected
  pub gaps : HaveGap after.world is.node is.carried.plan.gap
  pub lines : PrintsGap after is.node is.carried.plan.gap

-- each `plan` of a run comes out
abbrev pub AllPlansComeOut : ScriptRun → Type 0
AllPlansComeOut run =
    All (λ (e : Entry). (name : List ℕ) → e.command ≡ Plan name → ComesOut e name) run.entries

-- ---- a law

abbrev pub EachPlanComesOut : Type 0
EachPlanComesOut =
    (bytes : List ℕ) (run : ScriptRun) → IsRun bytes run → AllPlansComeOut run
