-- What was written into a sink, by what it shows: the bytes that it holds, where it tells them, its count of
-- faults, and how many bytes it surely takes.
use Rattle.std.specs.Prelude.{◌≡◌, ℕ, ◌-◌, ◌≤◌, Bool, Option, List, length}
use Rattle.std.specs.Io.KnownBytes.{Appends}
use Rattle.io_edges.specs.Told.{AppendsStart}

-- A text was appended. A sink that surely took so many bytes had no fault, and surely takes the others.
pub record Wrote {K : Type 0} (written : K → Option (List ℕ)) (faults : K → ℕ)
    (surely_takes : K → ℕ → Type 0) (old new : K) (text : List ℕ) : Type 0
  where
    pub appended : Appends (written old) (written new) text
    pub sure :
        (n : ℕ) → length text ≤ n → surely_takes old n →
        surely_takes new (n - length text) × (faults new ≡ faults old)

-- The front of a text was appended. A sink that surely took so many bytes had no fault.
pub record WroteFront {K : Type 0} (written : K → Option (List ℕ)) (faults : K → ℕ)
    (surely_takes : K → ℕ → Type 0) (old new : K) (text : List ℕ) : Type 0
  where
    pub appended : AppendsStart (written old) (written new) text
    pub sure : (n : ℕ) → length text ≤ n → surely_takes old n → faults new ≡ faults old

-- the same of whatever is the text
abbrev pub WroteFrontOf :
    {K : Type 0} → (K → Option (List ℕ)) → (K → ℕ) → (K → ℕ → Type 0) →
    (List ℕ → Bool → Type 0) → K → K → Type 0
WroteFrontOf written faults surely_takes IsText old new =
    (text : List ℕ) (bad : Bool) → IsText text bad →
    WroteFront written faults surely_takes old new text
