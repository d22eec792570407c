-- The lists of a log: `{0x807f8094,0x7f807f6b}` as the kernel prints it, `2155839636 2139127659` as the tools do
-- that print the fields of an event themselves.
use Rattle.std.specs.Prelude.{ℕ, ◌==◌, ◌-◌, Bool, List, [], ◌∷◌, ◌++◌, length, take, drop, map, Option, Some, None, if◌then◌else◌, codes}
use Rattle.std.specs.List.{slice_split}
use Rattle.std.specs.Str.{bytes_eq}
use Rattle.log_line.specs.Number.{number_of}
use Rattle.log_line.specs.Words.{behind, or_whole, to_field}

abbrev pub is_comma : ℕ → Bool
is_comma c = c == 44

-- a first number before others, where there is one
abbrev pub before : Option ℕ → Option (List ℕ) → Option (List ℕ)
before None rest = None
before (Some n) None = None
before (Some n) (Some ns) = Some (n ∷ ns)

-- the numbers that words spell, where each of them spells one
abbrev pub numbers_of : List (List ℕ) → Option (List ℕ)
numbers_of [] = Some []
numbers_of (word ∷ words) = before (number_of word) (numbers_of words)

-- numbers that stand before others
abbrev pub behind_all : List ℕ → Option (List ℕ) → Option (List ℕ)
behind_all ns None = None
behind_all ns (Some rest) = Some (ns ++ rest)

-- ---- between commas, and all within braces

-- a text without a blank that it begins with
abbrev pub bare : List ℕ → List ℕ
bare text = or_whole text (behind (codes " ") text)

-- the numbers that stand between commas, a blank before them or none
unfoldable pub between_commas : List ℕ → Option (List ℕ)
between_commas text = numbers_of (map bare (slice_split is_comma text))

-- what stands before a last brace
abbrev pub unclosed : List ℕ → Option (List ℕ)
unclosed text =
    if bytes_eq (drop (length text - 1) text) (codes "}") then Some (take (length text - 1) text)
    else None

-- the numbers of a text within braces; there may be none
abbrev pub within : Option (List ℕ) → Option (List ℕ)
within None = None
within (Some []) = Some []
within (Some (c ∷ text)) = between_commas (c ∷ text)

-- a text and the words behind it, each behind a blank
abbrev pub spaced : List ℕ → List (List ℕ) → List ℕ
spaced text [] = text
spaced text (word ∷ words) = spaced (text ++ 32 ∷ word) words

-- ---- between blanks

-- the numbers of a word, which may be empty, and of the words behind it
abbrev pub between_blanks : List ℕ → List (List ℕ) → Option (List ℕ)
between_blanks [] words = numbers_of words
between_blanks (c ∷ word) words = before (number_of (c ∷ word)) (numbers_of words)

-- ---- a field's list

-- the numbers of a list that this begins, and that goes on in these words
abbrev pub list_in : List ℕ → List (List ℕ) → Option (List ℕ) → Option (List ℕ)
list_in first words None = between_blanks first words
list_in first words (Some inside) = within (unclosed (spaced inside words))

-- within braces where it begins with one; it ends before the next field
abbrev pub list_of : List ℕ → List (List ℕ) → Option (List ℕ)
list_of first words = list_in first (to_field words) (behind (codes "{") first)
