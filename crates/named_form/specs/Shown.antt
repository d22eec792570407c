-- What is written of a capture and a file of names.
use Rattle.std.specs.Prelude.{◌≡◌, ℕ, List, [], Result, Ok, Err, Option, Some, None}
use Rattle.topology_stack.specs.Tree.{Tree}
use Rattle.capture_reading.specs.declared.fault.CaptureFault.{CaptureFault}
use Rattle.capture_reading.specs.Line.{fault_line}
use Rattle.view_text.specs.Drawing.{IsDrawing}
use Rattle.view_text.specs.Graph.{graph}
use Rattle.diff_form.specs.Difference.{IsReading}
use Rattle.named_form.specs.declared.form.NamedForm.{NamedForm}
use Rattle.named_form.specs.declared.form.NamedForm.TheVariants as form
use Rattle.named_form.specs.declared.fault.NamesFault.{NamesFault}
use Rattle.named_form.specs.declared.outcome.Outcome.{Outcome}
use Rattle.named_form.specs.declared.outcome.Outcome.TheVariants.{Shown, Refused, Misnamed}
use Rattle.named_form.specs.Form.{standard_of}
use Rattle.named_form.specs.File.{lines_of, fault_of}
use Rattle.named_form.specs.Mentions.{with_names}

-- what `tree` and `dot` write of a bus without names
abbrev pub IsBare : NamedForm → Tree → List ℕ → Type 0
IsBare (form.Tree standard) t text = IsDrawing t text
IsBare (form.Dot standard) t text = text ≡ graph t

-- the same with the names of a file
pub record IsNamed (form : NamedForm) (file : List ℕ) (t : Tree) (text : List ℕ) : Type 0 where
  pub bare : List ℕ
  pub is : IsBare form t bare
  pub text_is : text ≡ with_names (lines_of file) bare

-- what is written of a capture that is read so, and what it comes to
abbrev pub IsOfReading : NamedForm → List ℕ → Result Tree CaptureFault → List ℕ → Outcome → Type 0
IsOfReading form file (Ok t) text outcome = IsNamed form file t text × (outcome ≡ Shown)
IsOfReading form file (Err f) text outcome = (text ≡ fault_line f) × (outcome ≡ Refused)

-- with a file that has a fault nothing is written
abbrev pub IsByFault : NamedForm → List ℕ → Result Tree CaptureFault → Option NamesFault → List ℕ → Outcome → Type 0
IsByFault form file reading (Some fault) text outcome = (text ≡ []) × (outcome ≡ Misnamed fault)
IsByFault form file reading None text outcome = IsOfReading form file reading text outcome

-- the same of the bytes, which are read by the standard of the form
pub record IsShown (form : NamedForm) (file bytes text : List ℕ) (outcome : Outcome) : Type 0 where
  pub reading : Result Tree CaptureFault
  pub reading_is : IsReading (standard_of form) bytes reading
  pub written : IsByFault form file reading (fault_of file) text outcome
