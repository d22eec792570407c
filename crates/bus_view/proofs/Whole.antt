-- What is written whole of a script without a fault.
use Rattle.std.proofs.Common.{◌≡◌, inl, ℕ, Option, Some, None, List, arith}
use Rattle.std.specs.Prelude.{IfSome, Ok}
use Rattle.std.specs.Io.KnownBytes.{Appends}
use Rattle.io_edges.specs.Streams.{IsWritten}
use Rattle.script_lines.specs.declared.kind.ScriptFault.{ScriptFault}
use Rattle.script_told.specs.Script.{ScriptResult}
use Rattle.bus_view.specs.Answer.{IsShown, shown, at_fault}

-- where this holds of whatever is told of a script, it holds of the text that is written at status 0
pub written_whole :
    (Tells : List ℕ → ScriptResult → Type 0) (said : List ℕ → ScriptFault → List ℕ) (Holds : List ℕ → List ℕ → Type 0) →
    ((bytes text : List ℕ) → Tells bytes (Ok text) → Holds bytes text) → (left old new : Option (List ℕ)) (status : ℕ) →
    status ≡ 0 → IsWritten (λ bytes. IsShown Tells (said bytes) bytes) status left old new →
    IfSome left (λ bytes. (text : List ℕ) × Holds bytes text × Appends old new text)
written_whole Tells said Holds law None old new status zero wrote = tt
written_whole Tells said Holds law (Some bytes) old new status zero wrote =
    let w = wrote (inl zero) in go w.0 w.1 w.2
  where
    go : (text : List ℕ) → IsShown Tells (said bytes) bytes status text → Appends old new text →
        (text : List ℕ) × Holds bytes text × Appends old new text
    go text (shown e tells) appends = (text, law bytes text tells, appends)
    go text (at_fault fault e refused is) appends = absurd (omega (arith, zero, e))
