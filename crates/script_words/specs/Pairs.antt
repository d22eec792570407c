-- Which word of the pairs of a `node` line is at fault.
use Rattle.std.specs.Prelude.{ℕ, ◌+◌, ◌||◌, not, is_some, Bool, true, false, List, [], ◌∷◌, ◌++◌, codes, Option, Some, None, if◌then◌else◌}
use Rattle.std.specs.Str.{bytes_eq}
use Rattle.port_state.specs.declared.ranges.TimeRanges.{TimeRanges}
use Rattle.port_state.specs.TimeRanges.{profile_ranges}
use Rattle.script_lines.specs.Shape.{wrong_number}
use Rattle.script_lines.specs.Coins.{are_coins}
use Rattle.script_words.specs.Column.{field}

-- ---- keys

-- the least and the greatest number behind a key, where the times of nodes are in these ranges; coins
-- and a kind are no numbers
abbrev pub limits_of : TimeRanges → List ℕ → Option (ℕ × ℕ)
limits_of times key =
    if bytes_eq key (codes "speed") then Some (0, 2)
    else if bytes_eq key (codes "link") then Some (0, 1)
    else if bytes_eq key (codes "contender") then Some (0, 1)
    else if bytes_eq key (codes "force") then Some (0, 1)
    else if bytes_eq key (codes "power") then Some (0, 7)
    else if bytes_eq key (codes "gap") then Some (0, 63)
    else if bytes_eq key (codes "gapreset") then Some (0, 1)
    else if bytes_eq key (codes "hold") then Some (times.least.hold, times.most.hold)
    else if bytes_eq key (codes "short") then Some (times.least.short, times.most.short)
    else if bytes_eq key (codes "long") then Some (times.least.long, times.most.long)
    else if bytes_eq key (codes "coins") then Some (0, 4294967295)
    else if bytes_eq key (codes "seed") then Some (0, 4294967295)
    else if bytes_eq key (codes "kind") then Some (0, 4294967295)
    else None

abbrev pub is_key : List ℕ → Bool
is_key word = is_some (limits_of (profile_ranges 1) word)

-- a key, and a word that may stand behind it
abbrev pub is_pair : List ℕ → List ℕ → Bool
is_pair key value =
    if bytes_eq key (codes "kind") then
    bytes_eq value (codes "field") || bytes_eq value (codes "packed")
    else is_key key

-- ---- no pair

-- how many words at the front are pairs, or a key with nothing right behind it
abbrev pub paired : List (List ℕ) → ℕ
paired [] = 0
paired (key ∷ []) = if is_key key then 1 else 0
paired (key ∷ value ∷ words) =
    if is_pair key value then 2 + paired words else if is_key key then 1 else 0

abbrev pub keys_wanted : List ℕ
keys_wanted =
    codes "speed, link, contender, force, power, gap, gapreset, hold, short, long, coins, seed or kind.\n"

-- what may stand behind a word that should be a key
abbrev pub behind_key : List ℕ → List ℕ
behind_key key =
    if bytes_eq key (codes "kind") then codes "field or packed.\n"
    else if is_key key then codes "a value behind the key.\n" else keys_wanted

-- what may stand behind those words
abbrev pub pair_wanted : List (List ℕ) → List ℕ
pair_wanted [] = keys_wanted
pair_wanted (key ∷ []) = behind_key key
pair_wanted (key ∷ value ∷ words) = if is_pair key value then pair_wanted words else behind_key key

-- ---- a value at fault

abbrev pub is_outside : Option (ℕ × ℕ) → List ℕ → Bool
is_outside None value = false
is_outside (Some range) value = is_some (wrong_number range.0 range.1 value)

abbrev pub is_fault : TimeRanges → List ℕ → List ℕ → Bool
is_fault times key value =
    if bytes_eq key (codes "kind") then false
    else if bytes_eq key (codes "coins") then not (are_coins value)
    else is_outside (limits_of times key) value

-- how many words stand before the first value at fault
abbrev pub valued : TimeRanges → List (List ℕ) → ℕ
valued times [] = 0
valued times (key ∷ []) = 0
valued times (key ∷ value ∷ words) = if is_fault times key value then 1 else 2 + valued times words

-- a range of numbers
abbrev pub range_wanted : ℕ × ℕ → List ℕ
range_wanted range =
    field (codes "a number from ") range.0 ++ (field (codes " to ") range.1 ++ codes ".\n")

-- what the number behind a key is
unfoldable pub meaning_of : List ℕ → List ℕ
meaning_of key =
    if bytes_eq key (codes "speed") then codes " (S100, S200, S400).\n"
    else if bytes_eq key (codes "link") then codes " (1: its link is active).\n"
    else if bytes_eq key (codes "contender") then
    codes " (1: it may become isochronous resource manager).\n"
    else if bytes_eq key (codes "force") then codes " (1: it waits to become root).\n"
    else if bytes_eq key (codes "power") then codes " (its power class).\n"
    else if bytes_eq key (codes "gap") then codes " (its gap count).\n"
    else if bytes_eq key (codes "gapreset") then
    codes " (1: it sets its gap count back to 63 at the second reset).\n"
    else if bytes_eq key (codes "hold") then codes " (turns that it holds a bus reset).\n"
    else if bytes_eq key (codes "short") then codes " (turns of a short wait in a contention).\n"
    else if bytes_eq key (codes "long") then codes " (turns of a long wait in a contention).\n"
    else codes " (its coins are drawn from it).\n"

-- the range of a key's numbers, and what they are
abbrev pub limits_wanted : List ℕ → Option (ℕ × ℕ) → List ℕ
limits_wanted key None = keys_wanted
limits_wanted key (Some range) =
    key ++ (field (codes ": a number from ") range.0
    ++ (field (codes " to ") range.1 ++ meaning_of key))

-- what may stand behind a key
unfoldable pub value_wanted : TimeRanges → List ℕ → List ℕ
value_wanted times key =
    if bytes_eq key (codes "coins") then codes "1 to 64 coins, each 0 or 1.\n"
    else limits_wanted key (limits_of times key)

-- ---- a key that stands twice

unfoldable pub rival_word : List ℕ → List ℕ
rival_word key =
    if bytes_eq key (codes "coins") then codes "seed"
    else if bytes_eq key (codes "seed") then codes "coins" else key

-- a key stands in pairs
abbrev pub has_key : List ℕ → List (List ℕ) → Bool
has_key key [] = false
has_key key (word ∷ []) = false
has_key key (word ∷ value ∷ words) = if bytes_eq word key then true else has_key key words

-- how many words stand before the first key that stands, or whose rival stands, in what is before it
abbrev pub distinct : List (List ℕ) → List (List ℕ) → ℕ
distinct before [] = 0
distinct before (key ∷ []) = 0
distinct before (key ∷ value ∷ words) =
    if has_key key before || has_key (rival_word key) before then 0
    else 2 + distinct (before ++ key ∷ value ∷ []) words
