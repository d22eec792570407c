-- Whether a reset is heard, if it isn't passed over.
use Rattle.std.specs.Prelude.{◌≡◌, ◌==◌, ◌⊎◌, Bool, true, false}
use Rattle.self_id.specs.declared.standard.Standard.TheVariants.{Ieee2000}
use Rattle.topology_stack.specs.Tree.{Tree}
use Rattle.capture_reading.specs.declared.fault.CaptureFault.{CaptureFault}
use Rattle.capture_reading.specs.Capture.{Spells, CaptureRefused}
use Rattle.reset_list.specs.Judged.{capture_by}
use Rattle.reset_log.specs.declared.notes.Pending.{Pending}

-- it is heard as this tree
abbrev pub IsHeardAs : Pending → Tree → Type 0
IsHeardAs p t =
    (p.reset.is_error ≡ false) × ((p.left == 0) ≡ true)
    × Spells Ieee2000 (capture_by p.reset.origin p.reset.list) t

-- its list has this fault
abbrev pub HasFault : Pending → CaptureFault → Type 0
HasFault p f =
    (p.reset.is_error ≡ false) × ((p.left == 0) ≡ true)
    × CaptureRefused Ieee2000 (capture_by p.reset.origin p.reset.list) f

abbrev pub IsJudged : Pending → Bool → Type 0
IsJudged p true = (t : Tree) × IsHeardAs p t
IsJudged p false =
    (p.reset.is_error ≡ true)
    ⊎ (((p.reset.is_error ≡ false) × ((p.left == 0) ≡ false)) ⊎ ((f : CaptureFault) × HasFault p f))
