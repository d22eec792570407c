-- The words that ask for one reset of a log.
use Rattle.std.specs.Prelude.{◌≡◌, ℕ, ◌==◌, List, [], ◌∷◌, map, codes, string_bytes, String, Option, Some, None, if◌then◌else◌}
use Rattle.std.specs.Global.{Global}
use Rattle.line_words.specs.Digits.{of_digits}
use Rattle.log_line.specs.Words.{behind}

abbrev pub from_one : Option ℕ → Option ℕ
from_one None = None
from_one (Some n) = if n == 0 then None else Some n

abbrev pub number_in : Option (List ℕ) → Option ℕ
number_in None = None
number_in (Some digits) = from_one (of_digits 10 10 digits)

-- `--reset=K`, where K is a number from 1 of at most ten digits
unfoldable pub number_of_option : List ℕ → Option ℕ
number_of_option word = number_in (behind (codes "--reset=") word)

unfoldable pub AreWordsOf : ℕ → List (List ℕ) → Type 0
AreWordsOf k (word ∷ option ∷ []) = (word ≡ codes "import") × (number_of_option option ≡ Some k)
AreWordsOf k _ = ⊥

abbrev pub AsksReset : List (String Global) → ℕ → Type 0
AsksReset words k = AreWordsOf k (map string_bytes words)
