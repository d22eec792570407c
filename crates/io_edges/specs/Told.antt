-- Bytes that a source has left or a sink holds, where they are told.
use Rattle.std.specs.Prelude.{◌≡◌, ℕ, ◌+◌, ◌<◌, All, List, length, take, Option, IfSome, is_some}
use Rattle.std.specs.Io.KnownBytes.{Consumes, Appends}

-- what is told are bytes
abbrev pub AreBytes : Option (List ℕ) → Type 0
AreBytes left = IfSome left (All (λ b. b < 256))

-- bytes stay told or untold
abbrev pub StayTold : Option (List ℕ) → Option (List ℕ) → Type 0
StayTold old new = is_some new ≡ is_some old

-- the bytes left are the end of those that were left
abbrev pub LeavesEnd : Option (List ℕ) → Option (List ℕ) → Type 0
LeavesEnd old new = (taken : List ℕ) × Consumes old new taken

-- these are the bytes left, where they are told
abbrev pub AreLeft : Option (List ℕ) → List ℕ → Type 0
AreLeft left bytes = IfSome left (λ told. bytes ≡ told)

-- a fact on the bytes that were left and those that are left, where both are told
abbrev pub IfTold : Option (List ℕ) → Option (List ℕ) → (List ℕ → List ℕ → Type 0) →
    Type 0
IfTold old new P = IfSome old (λ xs. IfSome new (λ ys. P xs ys))

-- more than so many bytes were taken from the front
abbrev pub TookOver : ℕ → List ℕ → List ℕ → Type 0
TookOver limit old new = limit + length new < length old

-- the first bytes of a text were appended
abbrev pub AppendsStart : Option (List ℕ) → Option (List ℕ) → List ℕ → Type 0
AppendsStart old new text = (count : ℕ) × Appends old new (take count text)
