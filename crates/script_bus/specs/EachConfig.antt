-- What a configuration packet of a script comes to, once the bus settles next.
use Rattle.std.specs.Prelude.{◌≡◌, ℕ, ◌<◌, All, List, ◌∷◌, ◌++◌, Option, Some, IfSome, length}
use Rattle.cable_world.specs.World.{NodeNumber}
use Rattle.settle.specs.Planned.{HaveGap}
use Rattle.script_lines.specs.declared.command.Command.TheVariants.{Settle, Config}
use Rattle.script_told.specs.Bus.{Bus, ReportedTree, node_named, tree_with}
use Rattle.script_told.specs.Step.{node_with}
use Rattle.script_told.specs.Script.{running, bus_of}
use Rattle.script_told.specs.Run.{Entry, ScriptRun, IsRun}
use Rattle.script_told.specs.ScriptEvents.{LeavesAlone}
use Rattle.script_told.specs.PrintedTree.{PrintsTree, PrintsGap}

-- The bus settles at the second command, and those between the two take time or ask: they neither act
-- nor report.
pub record SettlesNext (run : ScriptRun) (one two : Entry) : Type 0 where
  pub before : List Entry
  pub between : List Entry
  pub rest : List Entry
  pub split : run.entries ≡ before ++ (one ∷ (between ++ (two ∷ rest)))
  pub alone : All (λ (e : Entry). LeavesAlone e.command) between
  pub settles : two.command ≡ Settle

-- The node with this name stood settled in a tree and sent the packet, and the bus settled. Where a
-- node of the tree had the ID, it is the root of the tree that is printed, with the cables as they
-- were. Where a gap count was given, every node has it, on the bus and in its line.
pub record ConfigComesOut
    (one two : Entry) (name : List ℕ) (id gap : Option ℕ) : Type 0 where
  pub node : NodeNumber
  pub named : node_named (bus_of one.before).notes.names name ≡ Some node
  pub tree : ReportedTree
  pub settled : tree_with node (bus_of one.before).notes ≡ Some tree
  pub after : Bus
  pub after_is : two.after ≡ running after
  pub root :
      IfSome id (λ i. i < length tree.order →
      PrintsTree (bus_of one.before).world.cabling node (node_with tree i) after two.text)
  pub gaps : IfSome gap (HaveGap after.world node)
  pub lines : IfSome gap (PrintsGap after node)

-- each `config` comes out that a settling follows next
abbrev pub ConfigsComeOut : ScriptRun → Type 0
ConfigsComeOut run =
    (one two : Entry) (name : List ℕ) (id gap : Option ℕ) → SettlesNext run one two →
    one.command ≡ Config name id gap → ConfigComesOut one two name id gap

-- ---- laws

-- each command of a script's run is done where the one before it led
abbrev pub EntriesFollowOn : Type 0
EntriesFollowOn =
    (bytes : List ℕ) (run : ScriptRun) (before rest : List Entry) (one two : Entry) →
    IsRun bytes run → run.entries ≡ before ++ one ∷ two ∷ rest → two.before ≡ one.after

abbrev pub EachConfigComesOut : Type 0
EachConfigComesOut =
    (bytes : List ℕ) (run : ScriptRun) → IsRun bytes run → ConfigsComeOut run
