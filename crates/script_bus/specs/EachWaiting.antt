-- What a node of a script comes to that alone waits to become root, once the bus settles.
use Rattle.std.specs.Prelude.{◌≡◌, ℕ, All, Any, List, [], ◌∷◌, ◌++◌}
use Rattle.cabling.specs.NodeSet.{Holds}
use Rattle.cabling.specs.Component.{IsComponent}
use Rattle.cable_world.specs.declared.act.Act.{Act}
use Rattle.cable_world.specs.World.{CableWorld, NodeNumber, NodeSet}
use Rattle.cable_world.specs.Outcome.{HasNoLoop}
use Rattle.outcomes.specs.Forced.{WaitsAlone}
use Rattle.world_laws.specs.Touched.{Touches}
use Rattle.script_lines.specs.declared.command.Command.TheVariants.{Settle}
use Rattle.script_told.specs.Bus.{Bus}
use Rattle.script_told.specs.Script.{running, bus_of}
use Rattle.script_told.specs.Run.{Entry, ScriptRun, IsRun}
use Rattle.script_told.specs.Reached.{world_of}
use Rattle.script_told.specs.EachReport.{DoesReport}
use Rattle.script_told.specs.ScriptEvents.{TakesNoTurn, IsActOf}
use Rattle.script_told.specs.PrintedTree.{PrintsTree}

-- The bus settles at a command, and in none of those behind `before` a turn passes.
pub record SettlesAtOnce (run : ScriptRun) (before acting : List Entry) (settling : Entry)
    : Type 0 where
  pub rest : List Entry
  pub split : run.entries ≡ before ++ (acting ++ (settling ∷ rest))
  pub at_once : All (λ (e : Entry). TakesNoTurn e.command) acting
  pub settles : settling.command ≡ Settle

-- a command is an act that resets a node of the set
pub record ResetsOneOf (set : NodeSet) (e : Entry) : Type 0 where
  pub a : Act
  pub is : IsActOf (bus_of e.before) e.command a
  pub node : NodeNumber
  pub holds : Holds set node
  pub touched : Touches a (world_of e.before) node

-- No turn passed since power-on; or the command before these reported the bus, and one of them resets
-- a node of the set.
pub data IsResetSince (before acting : List Entry) (set : NodeSet) : Type 0 where
  power_on : before ≡ [] → IsResetSince before acting set
  report :
      (front : List Entry) (e : Entry) → before ≡ front ++ (e ∷ []) → DoesReport e.command →
      Any (ResetsOneOf set) acting → IsResetSince before acting set

-- a component without loop, of whose nodes this one alone waits to become root
pub record OneNodeWaits (w : CableWorld) (root : NodeNumber) (set : NodeSet) : Type 0 where
  pub component : IsComponent w.cabling root set
  pub no_loop : HasNoLoop w set
  pub alone : WaitsAlone w set root

-- the node is the root of the tree that the command prints, by the cables as they were
pub record IsRootOf (root : NodeNumber) (settling : Entry) : Type 0 where
  pub after : Bus
  pub after_is : settling.after ≡ running after
  pub printed : PrintsTree (world_of settling.before).cabling root root after settling.text

-- each node becomes root that alone waits for it when the bus settles, behind acts alone
abbrev pub WaitingNodesBecomeRoots : ScriptRun → Type 0
WaitingNodesBecomeRoots run =
    (before acting : List Entry) (settling : Entry) (root : NodeNumber) (set : NodeSet) →
    SettlesAtOnce run before acting settling → IsResetSince before acting set →
    OneNodeWaits (world_of settling.before) root set → IsRootOf root settling

-- ---- a law

abbrev pub EachWaitingNodeBecomesRoot : Type 0
EachWaitingNodeBecomesRoot =
    (bytes : List ℕ) (run : ScriptRun) → IsRun bytes run → WaitingNodesBecomeRoots run
