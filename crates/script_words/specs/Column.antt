-- Where the words of a line stand.
use Rattle.std.specs.Prelude.{◌≡◌, ℕ, ◌+◌, ◌&&◌, not, nat_lt, Bool, true, false, if◌then◌else◌, Some, List, [], ◌∷◌, ◌++◌, length, slice_index, slice_get, codes, decimal}
use Rattle.script_lines.specs.Words.{is_blank, words_of}
use Rattle.script_lines.specs.Form.{word_at}

-- a word begins at each byte that is no blank, behind a blank or at the line's start; the next byte has
-- this column
abbrev pub begins : ℕ → Bool → List ℕ → List ℕ
begins column blank [] = []
begins column blank (c ∷ cs) =
    if blank && not (is_blank c) then column ∷ begins (column + 1) false cs
    else begins (column + 1) (is_blank c) cs

-- the columns at which the words of a line begin, the first byte's being 1
abbrev pub columns : List ℕ → List ℕ
columns line = begins 1 true line

-- a word and a number
unfoldable pub field : List ℕ → ℕ → List ℕ
field word n = word ++ decimal n

-- a word, its number from 1, and its column
unfoldable pub word_found : List ℕ → List ℕ → ℕ → List ℕ
word_found line word place =
    codes "Found " ++ (word
    ++ (field (codes ", word ") (place + 1)
    ++ (field (codes " in column ") (slice_index (columns line) place) ++ codes ", wanted ")))

-- what stands at a place of a line, counted from 0, where something else was wanted: a word or the end
abbrev pub found : List ℕ → List (List ℕ) → ℕ → List ℕ
found line words place =
    if nat_lt place (length words) then word_found line (word_at words place) place
    else codes "Found the end of the line, wanted "

-- ---- a law

-- a text ends with a blank, or it is nothing and stands behind one
abbrev pub ends_blank : Bool → List ℕ → Bool
ends_blank blank [] = blank
ends_blank blank (c ∷ cs) = ends_blank (is_blank c) cs

-- a word stands at a column of a line, the first being 1, and behind so many words: what is before it ends
-- with a blank, or is nothing
pub record IsAtColumn (line : List ℕ) (number column : ℕ) (word : List ℕ) : Type 0 where
  pub before : List ℕ
  pub behind : List ℕ
  pub line_is : line ≡ before ++ (word ++ behind)
  pub column_is : column ≡ length before + 1
  pub words_before : length (words_of before) ≡ number
  pub edge : ends_blank true before ≡ true

-- the column of each word of a line is where it stands
abbrev pub ColumnsAreOfWords : Type 0
ColumnsAreOfWords =
    (line : List ℕ) (number : ℕ) (word : List ℕ) → slice_get (words_of line) number ≡ Some word →
    IsAtColumn line number (slice_index (columns line) number) word
