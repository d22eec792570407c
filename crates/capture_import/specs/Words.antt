-- The bytes that words of digits spell.
use Rattle.std.specs.Prelude.{ℕ, ◌+◌, ◌*◌, ◌-◌, ◌%◌, ◌==◌, ◌||◌, ◌&&◌, not, nat_le, nat_lt, Bool, List, [], ◌∷◌, ◌++◌, length, take, drop, slice_index, is_some, Option, Some, None, if◌then◌else◌, codes}
use Rattle.std.specs.Int.{w32, to_be_bytes}
use Rattle.std.specs.List.{list_all, starts_with}
use Rattle.std.specs.Char.{digit_value}
use Rattle.line_words.specs.Digits.{are_digits, of_digits}
use Rattle.line_words.specs.Words.{words_by}

-- the bytes begin so
abbrev pub begins : List ℕ → List ℕ → Bool
begins front bytes = starts_with (λ a b. a == b) bytes front

-- blanks and ends of lines, and the signs between the items of a list: , : ; - " ' ( ) [ ] { }
abbrev pub is_between : ℕ → Bool
is_between c =
    (c == 32) || (c == 9) || (c == 10) || (c == 13) || (c == 44) || (c == 58) || (c == 59)
    || (c == 45) || (c == 34) || (c == 39) || (c == 40) || (c == 41) || (c == 91) || (c == 93)
    || (c == 123) || (c == 125)

-- what stands between these
abbrev pub words_of : List ℕ → List (List ℕ)
words_of text = words_by is_between text

-- ---- a word

-- a word without `0x` or `0X` before it
abbrev pub without_prefix : List ℕ → List ℕ
without_prefix word =
    if nat_le 2 (length word) && (begins (codes "0x") word || begins (codes "0X") word) then
    drop 2 word else word

-- one of h, H, u and U
abbrev pub is_suffix : ℕ → Bool
is_suffix c = (c == 104) || (c == 72) || (c == 117) || (c == 85)

-- a word ends with such a letter
abbrev pub has_suffix : List ℕ → Bool
has_suffix word = not (length word == 0) && is_suffix (slice_index word (length word - 1))

-- a word without it
abbrev pub without_suffix : List ℕ → List ℕ
without_suffix word = if has_suffix word then take (length word - 1) word else word

-- the digits of a word
abbrev pub digits_of : List ℕ → List ℕ
digits_of word = without_suffix (without_prefix word)

-- what a hexadecimal digit counts, of either case; any other character counts nothing
abbrev pub nibble : ℕ → ℕ
nibble c = if nat_lt (digit_value c) 16 then digit_value c else 0

-- the bytes of hexadecimal digits, two for each
abbrev pub hex_bytes : List ℕ → List ℕ
hex_bytes (a ∷ b ∷ digits) = (16 * nibble a + nibble b) ∷ hex_bytes digits
hex_bytes _ = []

-- ten decimal digits, as each self-ID packet has and each inverse of one
abbrev pub is_decimal : List ℕ → Bool
is_decimal word = (length word == 10) && are_digits 10 word

-- digits of whole bytes
abbrev pub is_hex : List ℕ → Bool
is_hex digits = not (length digits == 0) && (length digits % 2 == 0) && are_digits 16 digits

-- the bytes of a quadlet, the highest first
abbrev pub bytes_of_quad : Option ℕ → List ℕ
bytes_of_quad None = []
bytes_of_quad (Some q) = to_be_bytes w32 q

-- whether a word spells bytes: ten decimal digits a quadlet below 2^32, and others as hexadecimal digits
abbrev pub is_spelled : List ℕ → Bool
is_spelled word =
    if is_decimal word then is_some (of_digits 10 10 word) else is_hex (digits_of word)

-- the bytes that it spells
abbrev pub spelled : List ℕ → List ℕ
spelled word =
    if is_decimal word then bytes_of_quad (of_digits 10 10 word) else hex_bytes (digits_of word)

-- ---- words

-- whether each word spells bytes
abbrev pub all_spelled : List (List ℕ) → Bool
all_spelled words = list_all is_spelled words

-- the bytes of the words, in their order, before the first that spells none
abbrev pub spelled_front : List (List ℕ) → List ℕ
spelled_front [] = []
spelled_front (word ∷ words) =
    if is_spelled word then spelled word ++ spelled_front words else []
