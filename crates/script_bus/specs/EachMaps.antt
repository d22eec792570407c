-- What the maps of a script show: from one report to the next act the same tree.
use Rattle.std.specs.Prelude.{◌≡◌, ℕ, List, ◌∷◌, ◌++◌, All, Some}
use Rattle.cable_world.specs.World.{NodeNumber}
use Rattle.script_lines.specs.declared.command.Command.{Command}
use Rattle.script_lines.specs.declared.command.Command.TheVariants.{Plug, Pull, Reset, Settle, Config, Plan, Maps}
use Rattle.script_told.specs.Bus.{Bus, ReportedTree, node_named, resets_of, tree_with}
use Rattle.script_told.specs.Script.{bus_of}
use Rattle.script_told.specs.Run.{Entry, ScriptRun, IsRun}

-- neither an act nor a new report: the last report stands
abbrev pub KeepsReport : Command → Type 0
KeepsReport (Plug a a_port b b_port) = ⊥
KeepsReport (Pull name port) = ⊥
KeepsReport (Reset name) = ⊥
KeepsReport Settle = ⊥
KeepsReport (Config name root_id gap) = ⊥
KeepsReport (Plan name) = ⊥
KeepsReport command = Unit {0}

-- the node with this name stands settled in this tree
pub record StandsIn (bus : Bus) (name : List ℕ) (tree : ReportedTree) : Type 0 where
  pub node : NodeNumber
  pub named : node_named bus.notes.names name ≡ Some node
  pub settled : tree_with node bus.notes ≡ Some tree

-- At the second `maps` the tree stands as at the first, its root counts as many resets, which are the
-- generation of the maps, and the text is the same.
pub record ShowOneTree (one two : Entry) (name : List ℕ) (tree : ReportedTree) : Type 0 where
  pub stands : StandsIn (bus_of two.before) name tree
  pub generation :
      resets_of (bus_of two.before).world tree.root
      ≡ resets_of (bus_of one.before).world tree.root
  pub text : two.text ≡ one.text

-- ---- a law

-- two `maps` of nodes of one tree, between which the report stands, print the same
abbrev pub MapsShowOneTree : Type 0
MapsShowOneTree =
    (bytes : List ℕ) (run : ScriptRun) (before between rest : List Entry) (one two : Entry)
    (name other : List ℕ) (tree : ReportedTree) → IsRun bytes run →
    run.entries ≡ before ++ one ∷ (between ++ two ∷ rest) →
    one.command ≡ Maps name → two.command ≡ Maps other →
    All (λ (e : Entry). KeepsReport e.command) between →
    StandsIn (bus_of one.before) name tree → StandsIn (bus_of one.before) other tree →
    ShowOneTree one two other tree
