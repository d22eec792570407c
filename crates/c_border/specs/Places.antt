-- What is told at a place of the caller's.
-- Statuses: 0 ok, 1 refused, 2 no memory, 3 too short.
use Rattle.std.specs.Prelude.{◌≡◌, ℕ, ◌<◌, ◌≤◌, Result, Ok, Err, List, ◌++◌, length, drop}

-- a list stands at the front of a place, and what is behind it stays; where the place is too short
-- for the list, it stays whole
pub record IsCopied {A : Type 0} (list before after : List A) (needed status : ℕ) : Type 0 where
  pub needed_is : needed ≡ length list
  pub whole : length list ≤ length before →
      (after ≡ list ++ drop (length list) before) × (status ≡ 0)
  pub too_short : length before < length list → (after ≡ before) × (status ≡ 3)

-- a list of which this holds is told, unless memory ran out
pub data Tells (Holds : List ℕ → Type 0) (before after : List ℕ) (needed_before needed status : ℕ)
    : Type 0 where
  some : (list : List ℕ) → Holds list → IsCopied list before after needed status →
      Tells Holds before after needed_before needed status
  no_memory : after ≡ before → needed ≡ needed_before → status ≡ 2 →
      Tells Holds before after needed_before needed status

-- nothing is told of a kind that there isn't
abbrev pub IsUntold : List ℕ → List ℕ → ℕ → ℕ → ℕ → Type 0
IsUntold before after needed_before needed status =
    (after ≡ before) × (needed ≡ needed_before) × (status ≡ 1)

-- the list is told, unless memory ran out for it
abbrev pub TellsOk : {E : Type 0} → Result (List ℕ) E → List ℕ → List ℕ → ℕ → ℕ → ℕ → Type 0
TellsOk (Ok list) before after needed_before needed status =
    Tells (λ l. l ≡ list) before after needed_before needed status
TellsOk (Err e) before after needed_before needed status =
    (after ≡ before) × (needed ≡ needed_before) × (status ≡ 2)
