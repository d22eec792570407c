-- The names of nodes.
use Rattle.std.specs.Prelude.{◌≡◌, ℕ, ◌≤◌, ◌⊎◌, All, List, [], ◌∷◌, length}

-- a to z
abbrev pub IsLetter : ℕ → Type 0
IsLetter c = (97 ≤ c) × (c ≤ 122)

-- 0 to 9
abbrev pub IsDigit : ℕ → Type 0
IsDigit c = (48 ≤ c) × (c ≤ 57)

abbrev pub IsUnderline : ℕ → Type 0
IsUnderline c = c ≡ 95

abbrev pub IsNameChar : ℕ → Type 0
IsNameChar c = IsLetter c ⊎ (IsDigit c ⊎ IsUnderline c)

abbrev pub BeginsWithLetter : List ℕ → Type 0
BeginsWithLetter [] = ⊥
BeginsWithLetter (c ∷ cs) = IsLetter c

-- 1 to 16 letters, digits and underlines, of which the first is a letter
pub record IsName (bytes : List ℕ) : Type 0 where
  pub first : BeginsWithLetter bytes
  pub chars : All IsNameChar bytes
  pub few : length bytes ≤ 16
