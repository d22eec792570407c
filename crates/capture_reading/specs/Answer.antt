-- What is answered to a capture: the text of its tree, or the line of its fault.
use Rattle.std.specs.Prelude.{◌≡◌, ◌⊎◌, ℕ, List, []}
use Rattle.self_id.specs.declared.standard.Standard.{Standard}
use Rattle.topology_stack.specs.Tree.{Tree}
use Rattle.topology_stack.specs.Text.{tree_text}
use Rattle.capture_reading.specs.declared.fault.CaptureFault.{CaptureFault}
use Rattle.capture_reading.specs.Capture.{Spells, CaptureRefused}
use Rattle.capture_reading.specs.Line.{fault_line}

-- A valid input has status 0 and such a text, and one that is refused has 1 and the line of its fault.
abbrev pub ValidOrRefused : (List ℕ → Type 0) → (List ℕ → Type 0) → ℕ → List ℕ → Type 0
ValidOrRefused valid refused status text =
    ((status ≡ 0) × valid text) ⊎ ((status ≡ 1) × refused text)

-- the line of the fault that the capture has by a standard
abbrev pub IsCaptureLine : Standard → List ℕ → List ℕ → Type 0
IsCaptureLine standard bytes text =
    (f : CaptureFault) × CaptureRefused standard bytes f × (text ≡ fault_line f)

-- `read` and `read95`: the text of the tree that the capture spells by the standard
abbrev pub AnswersRead : Standard → List ℕ → ℕ → List ℕ → Type 0
AnswersRead standard bytes = ValidOrRefused
    (λ text. (t : Tree) × Spells standard bytes t × (text ≡ tree_text t []))
    (IsCaptureLine standard bytes)
