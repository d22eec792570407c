-- By either standard each capture has one reading: it spells a tree or has a fault, and never two of
-- them.
use Rattle.std.specs.Prelude.{◌≡◌, ◌⊎◌, ℕ, ◌<◌, All, List}
use Rattle.self_id.specs.declared.standard.Standard.{Standard}
use Rattle.topology_stack.specs.Tree.{Tree}
use Rattle.capture_reading.specs.declared.fault.CaptureFault.{CaptureFault}
use Rattle.capture_reading.specs.Capture.{Spells, CaptureRefused}

abbrev pub EachCaptureHasATreeOrAFault : Type 0
EachCaptureHasATreeOrAFault =
    (standard : Standard) (bytes : List ℕ) → All (λ b. b < 256) bytes →
    ((t : Tree) × Spells standard bytes t)
    ⊎ ((f : CaptureFault) × CaptureRefused standard bytes f)

abbrev pub NoCaptureHasTwoTrees : Type 0
NoCaptureHasTwoTrees =
    (standard : Standard) (bytes : List ℕ) (t u : Tree) →
    Spells standard bytes t → Spells standard bytes u → t ≡ u

abbrev pub NoCaptureHasATreeAndAFault : Type 0
NoCaptureHasATreeAndAFault =
    (standard : Standard) (bytes : List ℕ) (t : Tree) (f : CaptureFault) →
    Spells standard bytes t → CaptureRefused standard bytes f → ⊥

abbrev pub NoCaptureHasTwoFaults : Type 0
NoCaptureHasTwoFaults =
    (standard : Standard) (bytes : List ℕ) (f g : CaptureFault) →
    CaptureRefused standard bytes f → CaptureRefused standard bytes g → f ≡ g
