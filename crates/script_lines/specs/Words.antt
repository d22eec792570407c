-- The words of a line.
use Rattle.std.specs.Prelude.{ℕ, ◌==◌, ◌||◌, ◌&&◌, nat_le, Bool, List}
use Rattle.line_words.specs.Words.{words_by}

-- a space or a tab
abbrev pub is_blank : ℕ → Bool
is_blank c = (c == 32) || (c == 9)

-- the words of a line are what stands between blanks
abbrev pub words_of : List ℕ → List (List ℕ)
words_of line = words_by is_blank line

-- the tab, and the characters from the space to the tilde
abbrev pub is_permitted : ℕ → Bool
is_permitted c = (c == 9) || (nat_le 32 c && nat_le c 126)
