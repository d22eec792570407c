-- The numbers of a log.
use Rattle.std.specs.Prelude.{ℕ, ◌||◌, List, take, drop, codes, Option, if◌then◌else◌}
use Rattle.std.specs.Str.{bytes_eq}
use Rattle.line_words.specs.Digits.{of_digits}

-- the number of a word: 1 to 10 decimal digits, or `0x` or `0X` and 1 to 8 hexadecimal digits
unfoldable pub number_of : List ℕ → Option ℕ
number_of word =
    if bytes_eq (take 2 word) (codes "0x") || bytes_eq (take 2 word) (codes "0X") then
    of_digits 16 8 (drop 2 word)
    else of_digits 10 10 word
