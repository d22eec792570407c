-- What was found and what was wanted in a line that is at fault by itself.
use Rattle.std.specs.Prelude.{ℕ, ◌+◌, ◌-◌, ◌==◌, ◌&&◌, not, nat_lt, false, List, [], ◌∷◌, ◌++◌, length, drop, position, slice_index, codes, Bool, Option, Some, None, if◌then◌else◌}
use Rattle.std.specs.Str.{bytes_eq}
use Rattle.topology_stack.specs.Hex.{hex}
use Rattle.port_state.specs.declared.ranges.TimeRanges.{TimeRanges}
use Rattle.script_lines.specs.Words.{words_of, is_permitted}
use Rattle.script_lines.specs.Form.{word_at}
use Rattle.script_words.specs.Column.{field, found}
use Rattle.script_words.specs.Usage.{usages, range_of}
use Rattle.script_words.specs.Fit.{right, furthest, first_of, all_of}
use Rattle.script_words.specs.Near.{nearest}
use Rattle.script_words.specs.Pairs.{paired, pair_wanted, valued, range_wanted, value_wanted, distinct}
use Rattle.script_words.specs.Before.{is_node_line}
use Rattle.script_words.specs.Clocks.{is_clock_line}

-- ---- `Word`

-- a byte that isn't permitted, and its column
unfoldable pub byte_sentence : ℕ → ℕ → List ℕ
byte_sentence byte place =
    codes "Found the byte " ++ (hex 2 byte
    ++ (field (codes " in column ") (place + 1)
    ++ codes ", wanted a tab or a character of ASCII from the space to the tilde.\n"))

-- a file that begins with the mark by which some editors tell UTF-8
abbrev pub is_marked : List ℕ → Bool
is_marked (a ∷ b ∷ c ∷ cs) = a == 239 && (b == 187 && c == 191)
is_marked line = false

abbrev pub mark_sentence : List ℕ
mark_sentence =
    codes "Found a byte order mark, the bytes ef bb bf in column 1, wanted none: save the script without it.\n"

abbrev pub verbs_wanted : List ℕ
verbs_wanted =
    codes "delay, times, node, clock, plug, pull, reset, turn, hold, settle, config, csr, look, allocate, release, manager, plan or maps"

-- the verb that a word comes near to, if there is one
abbrev pub near_wanted : List ℕ → List ℕ
near_wanted [] = codes ".\n"
near_wanted (c ∷ cs) = codes ". The nearest is " ++ ((c ∷ cs) ++ codes ".\n")

-- the usages for which so many words may stand
abbrev pub usages_wanted : ℕ → List (List ℕ) → List ℕ
usages_wanted n words =
    if n == 0 then verbs_wanted ++ near_wanted (nearest (word_at words 0))
    else all_of false n words usages ++ codes ".\n"

abbrev pub pairs_sentence : List ℕ → List (List ℕ) → List ℕ
pairs_sentence line words =
    found line words (3 + paired (drop 3 words)) ++ pair_wanted (drop 3 words)

abbrev pub usage_sentence : List ℕ → List (List ℕ) → ℕ → List ℕ
usage_sentence line words n = found line words n ++ usages_wanted n words

-- words that have none of the forms: of a `node` line those behind the ports are pairs
abbrev pub form_sentence : List ℕ → List (List ℕ) → List ℕ
form_sentence line words =
    if is_node_line words && nat_lt 3 (length words) then pairs_sentence line words
    else usage_sentence line words (furthest 0 words usages)

abbrev pub at_byte : List ℕ → Option ℕ → List ℕ
at_byte line None = form_sentence line (words_of line)
at_byte line (Some place) =
    if is_marked line then mark_sentence else byte_sentence (slice_index line place) place

abbrev pub word_sentence : List ℕ → List ℕ
word_sentence line = at_byte line (position (λ c. not (is_permitted c)) line)

-- ---- `Number`, `Name` and `Range`

abbrev pub shape_wanted : List ℕ → Option (ℕ × ℕ) → List ℕ
shape_wanted u None =
    codes "NAME: a letter a to z, and at most 15 further letters, digits and underlines.\n"
shape_wanted u (Some range) = u ++ (codes ": " ++ range_wanted range)

-- the first word at fault behind the ports of a `node` line
abbrev pub value_at : TimeRanges → List ℕ → List (List ℕ) → ℕ → List ℕ
value_at times line words at = found line words (3 + at) ++ value_wanted times (word_at words (2 + at))

abbrev pub pair_value : TimeRanges → List ℕ → List (List ℕ) → List ℕ
pair_value times line words = value_at times line words (valued times (drop 3 words))

-- the first word at fault of a line that has a usage, by the usage's words
abbrev pub value_sentence : TimeRanges → List ℕ → List (List ℕ) → List (List ℕ) → List ℕ
value_sentence times line us words = from (right us words)
  where
    from : ℕ → List ℕ
    from n =
        if nat_lt n (length us) then
        found line words n ++ shape_wanted (word_at us n) (range_of (word_at us n))
        else pair_value times line words

-- the words of the usage that a line's words have
abbrev pub usage_words : List (List ℕ) → List (List ℕ)
usage_words words = words_of (first_of (furthest 0 words usages) words usages)

-- ---- `Twice`

abbrev pub twice_wanted : List ℕ
twice_wanted = codes "each key once, and of coins and seed one.\n"

abbrev pub name_twice_wanted : List ℕ
name_twice_wanted = codes "a name that no line before declares.\n"

-- a key stands twice, or else the name is declared
abbrev pub twice_at : List ℕ → List (List ℕ) → ℕ → List ℕ
twice_at line words at =
    if nat_lt at (length words) then found line words at ++ twice_wanted
    else found line words 1 ++ name_twice_wanted

abbrev pub clock_twice_wanted : List ℕ
clock_twice_wanted = codes "a node whose clock no line before slows.\n"

-- of a `clock` line it is the name
abbrev pub twice_sentence : List ℕ → List (List ℕ) → List ℕ
twice_sentence line words =
    if is_clock_line words then found line words 1 ++ clock_twice_wanted
    else twice_at line words (3 + distinct [] (drop 3 words))
