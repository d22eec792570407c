-- What is promised of a text that is written while its input comes: of whatever is the text of the
-- input, and whether the input is at fault.
use Rattle.std.specs.Prelude.{◌≡◌, ◌⊎◌, ℕ, Bool, List, length, Option, Result, Ok, Err, IfOk, alloc_error}
use Rattle.std.specs.Io.KnownBytes.{Appends}
use Rattle.io_edges.specs.Told.{AppendsStart}
use Rattle.reset_list.specs.declared.stop.LogStop.{LogStop}
use Rattle.reset_list.specs.declared.stop.LogStop.TheVariants.{Memory}

-- no other answer is given than that of the text
abbrev pub IsExact : (List ℕ → Bool → Type 0) → Result Bool LogStop → Type 0
IsExact IsText result =
    (text : List ℕ) (bad : Bool) → IsText text bad → IfOk result (λ answer. answer ≡ bad)

-- the text is written whole, and its answer is given, unless there was no memory
abbrev pub IsComplete :
    (List ℕ → Bool → Type 0) → Result Bool LogStop → Option (List ℕ) → Option (List ℕ) → Type 0
IsComplete IsText result old new =
    (text : List ℕ) (bad : Bool) → IsText text bad →
    ((result ≡ Ok bad) × Appends old new text) ⊎ (result ≡ Err (Memory alloc_error))

-- what was written is the front of the text
abbrev pub IsFront :
    (List ℕ → Bool → Type 0) → Option (List ℕ) → Option (List ℕ) → Type 0
IsFront IsText old new =
    (text : List ℕ) (bad : Bool) → IsText text bad → AppendsStart old new text

-- a sink that surely takes the text has no fault
abbrev pub IsSure : (List ℕ → Bool → Type 0) → (ℕ → Type 0) → ℕ → ℕ → Type 0
IsSure IsText surely_takes before after =
    (text : List ℕ) (bad : Bool) → IsText text bad → surely_takes (length text) → after ≡ before
