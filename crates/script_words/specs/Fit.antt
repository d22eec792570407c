-- Which usage the words of a line come nearest to.
use Rattle.std.specs.Prelude.{ℕ, ◌+◌, ◌==◌, nat_lt, is_some, Bool, true, false, List, [], ◌∷◌, ◌++◌, codes, if◌then◌else◌}
use Rattle.script_lines.specs.Words.{words_of}
use Rattle.script_lines.specs.Shape.{fits, wrong}
use Rattle.script_words.specs.Usage.{shape_of}

-- how many words at the front may stand for those of a usage
abbrev pub reach : List (List ℕ) → List (List ℕ) → ℕ
reach [] words = 0
reach (u ∷ us) [] = 0
reach (u ∷ us) (word ∷ words) = if fits (shape_of u) word then 1 + reach us words else 0

-- how many of them have no fault
abbrev pub right : List (List ℕ) → List (List ℕ) → ℕ
right [] words = 0
right (u ∷ us) [] = 0
right (u ∷ us) (word ∷ words) =
    if is_some (wrong (shape_of u) word) then 0 else 1 + right us words

-- the most words that may stand for those of one of these usages, or so many
abbrev pub furthest : ℕ → List (List ℕ) → List (List ℕ) → ℕ
furthest most words [] = most
furthest most words (u ∷ us) =
    let n : ℕ = reach (words_of u) words in furthest (if nat_lt most n then n else most) words us

-- the first usage for which so many words may stand
abbrev pub first_of : ℕ → List (List ℕ) → List (List ℕ) → List ℕ
first_of n words [] = []
first_of n words (u ∷ us) = if reach (words_of u) words == n then u else first_of n words us

-- all of them, with ` or ` before each but the first
abbrev pub all_of : Bool → ℕ → List (List ℕ) → List (List ℕ) → List ℕ
all_of some n words [] = []
all_of some n words (u ∷ us) =
    if reach (words_of u) words == n then
    (if some then codes " or " else []) ++ (u ++ all_of true n words us)
    else all_of some n words us
