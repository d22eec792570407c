-- What is taken for text, of which form it is, and what of it is read.
use Rattle.std.specs.Prelude.{ℕ, ◌+◌, ◌==◌, ◌||◌, ◌&&◌, nat_lt, nat_le, Bool, false, List, [], ◌∷◌, ◌++◌, length, take, drop, count_by, map, position, Option, Some, None, if◌then◌else◌, codes}
use Rattle.std.specs.List.{list_all, concat, slice_split}
use Rattle.capture_import.specs.Words.{begins}
use Rattle.capture_import.specs.declared.taken.Container.{Container}
use Rattle.capture_import.specs.declared.taken.Container.TheVariants.{Bytes, Text}
use Rattle.capture_import.specs.declared.taken.TextForm.{TextForm}
use Rattle.capture_import.specs.declared.taken.TextForm.TheVariants.{Words, Xxd, Hexdump, Octal, Offsets}

-- without the mark of three bytes that some editors put before text
abbrev pub unmarked : List ℕ → List ℕ
unmarked input =
    if nat_le 3 (length input) && begins (0xEF ∷ 0xBB ∷ 0xBF ∷ []) input then drop 3 input else input

-- text is of characters below 128 alone; the packets of a bus never are
abbrev pub is_text : List ℕ → Bool
is_text input = list_all (λ c. nat_lt c 128) input

-- a dump begins with the offset 0, whose digits and what is behind them tell by what it was made
abbrev pub form_of : List ℕ → TextForm
form_of text =
    if begins (codes "00000000:") text then Xxd
    else if begins (codes "00000000  ") text then Hexdump
    else if begins (codes "0000000 ") text || begins (codes "000000 ") text then Octal
    else if begins (codes "0000  ") text then Offsets
    else Words

abbrev pub container_of : List ℕ → Container
container_of input =
    if is_text (unmarked input) then Text (form_of (unmarked input)) else Bytes

-- ---- a line

-- where the data of a line end: at a remark, at the characters of a dump, or only with the line
abbrev pub ends_data : TextForm → List ℕ → Bool
ends_data Words rest = begins (codes "#") rest || begins (codes "//") rest
ends_data Xxd rest = begins (codes "  ") rest
ends_data Hexdump rest = begins (codes "|") rest
ends_data Offsets rest = begins (codes "  ") rest
ends_data Octal rest = false

abbrev pub data_of : TextForm → List ℕ → List ℕ
data_of form [] = []
data_of form (c ∷ line) = if ends_data form (c ∷ line) then [] else c ∷ data_of form line

abbrev pub is_blank : ℕ → Bool
is_blank c = (c == 32) || (c == 9)

-- from the first blank on, and from behind the blanks that stand first
abbrev pub from_blank : List ℕ → List ℕ
from_blank [] = []
from_blank (c ∷ line) = if is_blank c then c ∷ line else from_blank line

abbrev pub behind_blanks : List ℕ → List ℕ
behind_blanks [] = []
behind_blanks (c ∷ line) = if is_blank c then behind_blanks line else c ∷ line

-- the line of a dump behind its offset
abbrev pub behind_offset : TextForm → List ℕ → List ℕ
behind_offset Words line = line
behind_offset Xxd line = behind_blanks (from_blank line)
behind_offset Hexdump line = behind_blanks (from_blank line)
behind_offset Octal line = behind_blanks (from_blank line)
behind_offset Offsets line = behind_blanks (from_blank line)

-- the data of a line, and the end of the line
abbrev pub line_data : TextForm → List ℕ → List ℕ
line_data form line = data_of form (behind_offset form line) ++ 10 ∷ []

abbrev pub is_feed : ℕ → Bool
is_feed c = c == 10

-- the data of all lines
abbrev pub data_of_lines : TextForm → List (List ℕ) → List ℕ
data_of_lines form lines = concat (map (line_data form) lines)

abbrev pub data_of_text : TextForm → List ℕ → List ℕ
data_of_text form text = data_of_lines form (slice_split is_feed text)

-- ---- braces

abbrev pub is_open : ℕ → Bool
is_open c = c == 123

abbrev pub is_close : ℕ → Bool
is_close c = c == 125

-- what stands before the first closing brace
abbrev pub before_close : Option ℕ → List ℕ → List ℕ
before_close None text = text
before_close (Some place) text = take place text

abbrev pub behind_open : Option ℕ → List ℕ → List ℕ
behind_open None text = text
behind_open (Some place) text =
    before_close (position is_close (drop (place + 1) text)) (drop (place + 1) text)

-- what stands within the first braces, or all where there are none
abbrev pub within_braces : List ℕ → List ℕ
within_braces text = behind_open (position is_open text) text

-- there are no second ones
abbrev pub is_one_list : List ℕ → Bool
is_one_list text = nat_le (count_by is_open text) 1
