-- What is written for programs: lines of JSON, each of which is read back as a value.
use Rattle.std.specs.Prelude.{◌≡◌, ◌⊎◌, ℕ, List, String}
use Rattle.std.specs.Global.{Global}
use Rattle.self_id.specs.declared.standard.Standard.{Standard}
use Rattle.topology_stack.specs.Tree.{Tree}
use Rattle.capture_reading.specs.Capture.{Spells}
use Rattle.view_text.specs.GraphDot.{IsTreeDot}
use Rattle.bus_json.specs.Lines.{IsJsonLine, AreJsonLines}
use Rattle.script_run.specs.Viewed.{AreReadBack}
use Rattle.reset_list.specs.declared.form.LogForm.TheVariants.{Json as Lines}
use Rattle.bus_view.specs.declared.form.CaptureView.TheVariants.{Dot, Json}
use Rattle.bus_view.specs.declared.form.ExplainForm.TheVariants.{Json as Each}
use Rattle.bus_view.specs.declared.form.ViewForm.{ViewForm}
use Rattle.bus_view.specs.declared.form.ViewForm.TheVariants.{Capture, JsonRun, Explain, Resets, Nosy}
use Rattle.bus_view.specs.Form.{Asks}

-- the lines of a script's reports, which are read back as the values of the reports, or that of its fault
pub record AreReports (bytes : List ℕ) (status : ℕ) (text : List ℕ) : Type 0 where
  pub lines : AreJsonLines text
  pub reports : status ≡ 0 → AreReadBack bytes text

-- a graph in DOT of the tree that a capture spells, with an edge for each of its cables and no other
pub record IsDotOf (standard : Standard) (bytes text : List ℕ) : Type 0 where
  pub tree : Tree
  pub spelt : Spells standard bytes tree
  pub is : IsTreeDot tree text

-- what else is promised of the view of bytes in a form
abbrev pub ReadsBack : ViewForm → List ℕ → ℕ → List ℕ → Type 0
ReadsBack (Capture Dot standard) bytes status text = status ≡ 0 → IsDotOf standard bytes text
ReadsBack (Capture Json standard) bytes status text = IsJsonLine text
ReadsBack (Explain how) bytes status text = how ≡ Each → AreJsonLines text
ReadsBack JsonRun bytes status text = AreReports bytes status text
ReadsBack form bytes status text = Unit {0}

-- the words ask for lines of JSON: those of a capture, of a script's reports, of its faults, of a log, or of
-- a dump
abbrev pub AsksJson : List (String Global) → Type 0
AsksJson words =
    ((standard : Standard) × Asks words (Capture Json standard)) ⊎ Asks words JsonRun
    ⊎ Asks words (Explain Each)
    ⊎ ((standard : Standard) × Asks words (Resets (Lines standard)))
    ⊎ ((standard : Standard) × Asks words (Nosy (Lines standard)))
