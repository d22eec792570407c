-- What two captures come to: the changes between their trees, or why one is refused, or both.
use Rattle.std.specs.Prelude.{◌≡◌, ℕ, List, [], ◌∷◌, ◌++◌, Result, Ok, Err, codes}
use Rattle.self_id.specs.declared.standard.Standard.{Standard}
use Rattle.topology_stack.specs.Tree.{Tree}
use Rattle.capture_reading.specs.declared.fault.CaptureFault.{CaptureFault}
use Rattle.capture_reading.specs.Capture.{Spells, CaptureRefused}
use Rattle.capture_reading.specs.Line.{fault_line}
use Rattle.bus_diff.specs.declared.change.Change.{Change}
use Rattle.bus_diff.specs.Difference.{AreDifferences}
use Rattle.bus_diff.specs.Text.{changes_text}
use Rattle.json.specs.Json.{Json, string, array, object, Items, no_items, item, no_members, member}
use Rattle.bus_json.specs.Text.{json_line}
use Rattle.bus_json.specs.Bus.{with_schema}
use Rattle.bus_json.specs.Refusal.{fault_members, refused_members}
use Rattle.diff_json.specs.Changes.{changes_value}
use Rattle.diff_form.specs.declared.form.DiffForm.{DiffForm}
use Rattle.diff_form.specs.declared.form.DiffForm.TheVariants.{Text, Json as JsonForm}
use Rattle.diff_form.specs.Form.{standard_of}
use Rattle.diff_form.specs.declared.outcome.Outcome.{Outcome}
use Rattle.diff_form.specs.declared.outcome.Outcome.TheVariants.{Same, Differs, OldRefused, NewRefused, BothRefused}

-- what a capture is read as by a standard: the tree that it spells, or the fault that it has
abbrev pub IsReading : Standard → List ℕ → Result Tree CaptureFault → Type 0
IsReading standard bytes (Ok t) = Spells standard bytes t
IsReading standard bytes (Err f) = CaptureRefused standard bytes f

abbrev pub outcome_of : List Change → Outcome
outcome_of [] = Same
outcome_of (change ∷ changes) = Differs

-- what is written of changes: a line for each, or all as one line of JSON
abbrev pub shown_changes : DiffForm → List Change → List ℕ
shown_changes (Text standard) told = changes_text told
shown_changes (JsonForm standard) told = json_line (changes_value told)

-- the text of what differs between two buses, and whether something does
pub record IsCompared (form : DiffForm) (old new : Tree) (text : List ℕ) (outcome : Outcome) : Type 0 where
  pub told : List Change
  pub differ : AreDifferences old new told
  pub text_is : text ≡ shown_changes form told
  pub outcome_is : outcome ≡ outcome_of told

-- `NAME: refused pair P KIND`: the file of a capture, and the line of its fault
unfoldable pub refusal : List ℕ → CaptureFault → List ℕ
refusal name f = name ++ (codes ": " ++ fault_line f)

-- the same as JSON: the name of the file, and its refusal as `json` has it
abbrev pub refused_item : List ℕ → CaptureFault → Json
refused_item name f = object (member (codes "file") (string name) (refused_members (fault_members f)))

-- the line of one capture or of both that are refused
abbrev pub refused_line : Items → List ℕ
refused_line items = json_line (with_schema (member (codes "captures") (array items) no_members))

-- what is written of one capture that is refused, and of two
abbrev pub shown_refusal : DiffForm → List ℕ → CaptureFault → List ℕ
shown_refusal (Text standard) name f = refusal name f
shown_refusal (JsonForm standard) name f = refused_line (item (refused_item name f) no_items)

abbrev pub shown_refusals : DiffForm → List ℕ → List ℕ → CaptureFault → CaptureFault → List ℕ
shown_refusals (Text standard) old_name new_name f g = refusal old_name f ++ refusal new_name g
shown_refusals (JsonForm standard) old_name new_name f g =
    refused_line (item (refused_item old_name f) (item (refused_item new_name g) no_items))

-- what is written of the captures in two files that are read so
abbrev pub IsOfReadings : DiffForm →
    List ℕ → List ℕ → Result Tree CaptureFault → Result Tree CaptureFault → List ℕ → Outcome → Type 0
IsOfReadings form old_name new_name (Ok t) (Ok u) text outcome = IsCompared form t u text outcome
IsOfReadings form old_name new_name (Err f) (Ok u) text outcome =
    (text ≡ shown_refusal form old_name f) × (outcome ≡ OldRefused)
IsOfReadings form old_name new_name (Ok t) (Err g) text outcome =
    (text ≡ shown_refusal form new_name g) × (outcome ≡ NewRefused)
IsOfReadings form old_name new_name (Err f) (Err g) text outcome =
    (text ≡ shown_refusals form old_name new_name f g) × (outcome ≡ BothRefused)

-- the same of the bytes, which are read by the standard of the form
pub record IsDifference (form : DiffForm) (old_name new_name old new text : List ℕ)
    (outcome : Outcome) : Type 0 where
  pub old_read : Result Tree CaptureFault
  pub new_read : Result Tree CaptureFault
  pub old_is : IsReading (standard_of form) old old_read
  pub new_is : IsReading (standard_of form) new new_read
  pub written : IsOfReadings form old_name new_name old_read new_read text outcome
