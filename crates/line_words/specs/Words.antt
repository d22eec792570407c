-- The words of a line.
use Rattle.std.specs.Prelude.{ℕ, ◌==◌, not, Bool, List, length, filter}
use Rattle.std.specs.List.{slice_split}

abbrev pub is_some_text : List ℕ → Bool
is_some_text text = not (length text == 0)

-- what stands between the characters that part words
unfoldable pub words_by : (ℕ → Bool) → List ℕ → List (List ℕ)
words_by is_blank line = filter is_some_text (slice_split is_blank line)
