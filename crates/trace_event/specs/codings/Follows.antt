-- What stands behind a word, so that its end is found. No public contract cites this file.
use Rattle.std.specs.Prelude.{◌≡◌, ℕ, ◌==◌, ◌||◌, not, Bool, false, List, [], ◌∷◌}
use Rattle.std.specs.Char.{is_ascii_digit}

-- no digit
abbrev pub EndsNumber : List ℕ → Type 0
EndsNumber [] = ⊥
EndsNumber (c ∷ cs) = is_ascii_digit c ≡ false

-- a byte that may stand in a name, or in what isn't one: neither a space nor a line feed
abbrev pub is_inner : ℕ → Bool
is_inner c = not (c == 32 || c == 10)

-- a space or a line feed
abbrev pub EndsName : List ℕ → Type 0
EndsName [] = ⊥
EndsName (c ∷ cs) = is_inner c ≡ false
