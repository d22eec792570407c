-- What `capture NAME` writes is read again.
use Rattle.std.specs.Prelude.{◌≡◌, ℕ, ◌<◌, ◌^◌, ◌++◌, All, List, [], ◌∷◌, Some, Ok, Err}
use Rattle.quad_lanes.specs.Capture.{capture}
use Rattle.self_id.specs.declared.standard.Standard.TheVariants.{Ieee2000}
use Rattle.topology_stack.specs.Tree.{Tree, IsBusTreeOf, emits}
use Rattle.topology_stack.specs.Text.{tree_text}
use Rattle.cable_world.specs.World.{NodeNumber}
use Rattle.script_lines.specs.declared.command.Command.TheVariants.{Settle}
use Rattle.script_lines.specs.declared.kind.ScriptFault.{ScriptFault}
use Rattle.script_text.specs.ReportText.{IsTreeText, root_line, names_in}
use Rattle.script_told.specs.Bus.{Bus, ReportedTree, node_named, tree_with}
use Rattle.script_told.specs.PrintedTree.{IsPieceOf}
use Rattle.script_told.specs.Script.{running}
use Rattle.script_told.specs.Run.{Entry, ScriptRun, IsRun}
use Rattle.script_run.specs.Listed.{IsListed}
use Rattle.capture_reading.specs.Capture.{Spells}
use Rattle.script_run.specs.Line.{script_line}
use Rattle.capture_reading.specs.Answer.{ValidOrRefused, AnswersRead}

-- the list of a bus tree has no quadlet that doesn't fit
abbrev pub ListsFit : Type 0
ListsFit = (t : Tree) → IsBusTreeOf Ieee2000 t → All (λ q. q < 2 ^ 32) (emits t)

-- the last command of a run: the `settle` behind the last line, which leaves this bus
pub record IsLast (run : ScriptRun) (bus : Bus) (last : Entry) : Type 0 where
  pub before : List Entry
  pub entries_are : run.entries ≡ before ++ last ∷ []
  pub settles : last.command ≡ Settle
  pub leaves : last.after ≡ running bus

-- The list of a script's node is that of the tree with the node which stands in the script's last report,
-- and its capture spells a tree. `busconf read` shows that tree without names, and the report, which the
-- script's last command prints, with the names of its nodes.
pub record IsShownByTheReport (bytes name list : List ℕ) : Type 0 where
  pub run : ScriptRun
  pub is : IsRun bytes run
  pub bus : Bus
  pub ends : run.end ≡ Ok bus
  pub node : NodeNumber
  pub named : node_named bus.notes.names name ≡ Some node
  pub part : ReportedTree
  pub settled : tree_with node bus.notes ≡ Some part
  pub listed : list ≡ part.list
  pub tree : Tree
  pub spelt : Spells Ieee2000 (capture list) tree
  pub read : (status : ℕ) (text : List ℕ) →
      AnswersRead Ieee2000 (capture list) status text → (status ≡ 0) × (text ≡ tree_text tree [])
  pub reported : (text : List ℕ) →
      IsTreeText bus.notes.names part.root part.list part.order text →
      text ≡ root_line bus.notes.names part.root ++ tree_text tree (names_in bus.notes.names part.order)
  pub last : Entry
  pub is_last : IsLast run bus last
  pub printed : IsPieceOf
      (root_line bus.notes.names part.root ++ tree_text tree (names_in bus.notes.names part.order))
      last.text

-- the text is the capture of the list of a script's node, which the script's last report shows
pub record TellsReport (name bytes text : List ℕ) : Type 0 where
  pub list : List ℕ
  pub listed : IsListed bytes name (Ok list)
  pub text_is : text ≡ capture list
  pub shown : IsShownByTheReport bytes name list

-- `capture NAME`: such a capture; a script at fault, or without such a list, is refused
abbrev pub AnswersCapture : List ℕ → List ℕ → ℕ → List ℕ → Type 0
AnswersCapture name bytes = ValidOrRefused (TellsReport name bytes)
    (λ text. (f : ScriptFault) × IsListed bytes name (Err f) × (text ≡ script_line f))

-- whatever a script lists of a node
abbrev pub CapturesAreOfReports : Type 0
CapturesAreOfReports =
    (bytes name list : List ℕ) → IsListed bytes name (Ok list) → IsShownByTheReport bytes name list
