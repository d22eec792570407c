-- What reading an input may answer. No public contract cites this file.
use Rattle.std.specs.Prelude.{◌≡◌, ℕ, ◌≤◌, List, [], Option, IfSome, Result, Ok, Err}
use Rattle.std.specs.Io.KnownBytes.{IsAtEnd}
use Rattle.self_id.specs.declared.standard.Standard.{Standard}
use Rattle.self_id.specs.declared.standard.Standard.TheVariants.{Ieee2000}
use Rattle.topology_stack.specs.Tree.{Tree}
use Rattle.topology_stack.specs.Text.{tree_text}
use Rattle.script_text.specs.Maps.{IsMapsText}
use Rattle.bus_cli.specs.declared.answer.Answer.{Answer}
use Rattle.bus_cli.specs.declared.answer.Answer.TheVariants.{Valid, Refused}
use Rattle.bus_cli.specs.declared.form.Form.{Form}
use Rattle.bus_cli.specs.declared.form.Form.TheVariants.{Capture, Rom, Run, Advice, Make, OfItself}
use Rattle.bus_cli.specs.declared.form.CaptureForm.{CaptureForm}
use Rattle.bus_cli.specs.declared.form.CaptureForm.TheVariants.{Read, Read95, Maps}
use Rattle.capture_reading.specs.declared.fault.CaptureStop.{CaptureStop}
use Rattle.capture_reading.specs.declared.fault.CaptureStop.TheVariants.{Fault, Memory}
use Rattle.capture_reading.specs.Capture.{Spells, CaptureRefused}

-- the form asks for 1 to 63 nodes, where it asks for nodes
abbrev pub AsksFewNodes : Form → Type 0
AsksFewNodes (Capture form) = Unit {0}
AsksFewNodes Rom = Unit {0}
AsksFewNodes Run = Unit {0}
AsksFewNodes Advice = Unit {0}
AsksFewNodes (Make nodes seed) = (1 ≤ nodes) × (nodes ≤ 63)
AsksFewNodes (OfItself about) = Unit {0}

-- by a standard the bytes spell the tree or have the fault; of want of memory nothing is said
abbrev pub IsReadAs : Standard → List ℕ → Result Tree CaptureStop → Type 0
IsReadAs standard bytes (Ok t) = Spells standard bytes t
IsReadAs standard bytes (Err (Fault f)) = CaptureRefused standard bytes f
IsReadAs standard bytes (Err (Memory e)) = Unit {0}

-- want of memory comes only where the bytes spell a tree
abbrev pub SparesMemory : List ℕ → Result Tree CaptureStop → Type 0
SparesMemory bytes (Ok t) = Unit {0}
SparesMemory bytes (Err (Fault f)) = Unit {0}
SparesMemory bytes (Err (Memory e)) = (t : Tree) × Spells Ieee2000 bytes t

-- where there was no memory for the form's answer, this is known of the bytes that were left and are
-- left
abbrev pub WantsMemory : Form → Option (List ℕ) → Option (List ℕ) → Type 0
WantsMemory form old new = form ≡ Capture Read →
    IsAtEnd new × IfSome old (λ bytes. (t : Tree) × Spells Ieee2000 bytes t)

-- no fault was found
abbrev pub IsNoFault : Result Tree CaptureStop → Type 0
IsNoFault (Ok t) = Unit {0}
IsNoFault (Err (Fault f)) = ⊥
IsNoFault (Err (Memory e)) = Unit {0}

-- the status and the text of an answer
abbrev pub status_with : Answer → ℕ
status_with (Valid text) = 0
status_with (Refused line) = 1

abbrev pub text_with : Answer → List ℕ
text_with (Valid text) = text.items
text_with (Refused line) = line

-- how a tree is shown in a form: as its text with no names, or as its maps with generation 1
abbrev pub IsTextIn : CaptureForm → Tree → List ℕ → Type 0
IsTextIn Read t text = text ≡ tree_text t []
IsTextIn Read95 t text = text ≡ tree_text t []
IsTextIn Maps t text = IsMapsText 1 t text
