-- The words of a line, and the fields among them.
use Rattle.std.specs.Prelude.{ℕ, ◌==◌, ◌||◌, Bool, List, [], ◌∷◌, length, take, drop, position, is_some, Option, Some, None, if◌then◌else◌}
use Rattle.std.specs.Str.{bytes_eq}
use Rattle.line_words.specs.Words.{words_by}

-- a space, a tab or a carriage return
abbrev pub is_blank : ℕ → Bool
is_blank c = (c == 32) || (c == 9) || (c == 13)

-- the words of a line are what stands between blanks
abbrev pub words_of : List ℕ → List (List ℕ)
words_of line = words_by is_blank line

-- what stands behind a key in a word that begins with it
abbrev pub behind : List ℕ → List ℕ → Option (List ℕ)
behind key word =
    if bytes_eq (take (length key) word) key then Some (drop (length key) word) else None

-- the text, or what stands behind a key of it
abbrev pub or_whole : List ℕ → Option (List ℕ) → List ℕ
or_whole text None = text
or_whole text (Some rest) = rest

-- what stands behind a key in the first word that begins with it, and the words behind that one
abbrev pub value_of : List ℕ → List (List ℕ) → Option (List ℕ × List (List ℕ))
value_of key [] = None
value_of key (word ∷ words) =
    elim (behind key word) [ None ↦ value_of key words | Some value ↦ Some (value, words) ]

abbrev pub is_equals : ℕ → Bool
is_equals c = c == 61

-- whether a word is of a field: `=` stands in it
abbrev pub is_of_field : List ℕ → Bool
is_of_field word = is_some (position is_equals word)

-- the words up to the next field
abbrev pub to_field : List (List ℕ) → List (List ℕ)
to_field [] = []
to_field (word ∷ words) = if is_of_field word then [] else word ∷ to_field words
