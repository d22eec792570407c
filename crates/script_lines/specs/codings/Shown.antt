-- The characters of words.
use Rattle.std.specs.Prelude.{ℕ, ◌&&◌, nat_le, Bool}

-- permitted, and no blank
abbrev pub is_shown : ℕ → Bool
is_shown c = nat_le 33 c && nat_le c 126
