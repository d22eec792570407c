-- The lines that declare nodes: `node NAME PORTS` and pairs of a key and a value.
use Rattle.std.specs.Prelude.{ℕ, ◌==◌, ◌||◌, ◌&&◌, ◌++◌, is_some, unwrap_or, length, take, drop, Bool, true, false, List, [], ◌∷◌, codes, Option, Some, None, if◌then◌else◌}
use Rattle.std.specs.Option.{option_or, option_and_then}
use Rattle.std.specs.Str.{bytes_eq}
use Rattle.port_state.specs.declared.ranges.TimeRanges.{TimeRanges}
use Rattle.script_lines.specs.declared.kind.Kind as faults
use Rattle.script_lines.specs.declared.kind.Kind.TheVariants.{Twice}
use Rattle.script_lines.specs.declared.command.Command.{Command}
use Rattle.script_lines.specs.declared.command.Command.TheVariants.{Node}
use Rattle.script_lines.specs.declared.key.Key.{Key}
use Rattle.script_lines.specs.declared.key.Key.TheVariants.{Speed, Link, Contender, Force, Power, Gap, GapReset, Hold, Short, Long, Coins, Seed, Kind}
use Rattle.script_lines.specs.Number.{number_of}
use Rattle.script_lines.specs.Shape.{Shape, the, a_name, a_number, fit, first_wrong}
use Rattle.script_lines.specs.Form.{word_at, number_at}
use Rattle.script_lines.specs.Coins.{coin_word}
use Rattle.script_lines.specs.Key.{word_of, key_of, rival, is_pair, wrong_value}

-- the words are pairs of a key and a word that may stand behind it
abbrev pub are_pairs : List (List ℕ) → Bool
are_pairs [] = true
are_pairs (key ∷ []) = false
are_pairs (key ∷ value ∷ words) = is_pair key value && are_pairs words

-- the words before the pairs
abbrev pub node_shapes : List Shape
node_shapes = the (codes "node") ∷ a_name ∷ a_number 1 16 ∷ []

abbrev pub has_node_form : List (List ℕ) → Bool
has_node_form words = fit node_shapes (take 3 words) && are_pairs (drop 3 words)

-- the word behind a key, where the key stands in pairs
abbrev pub given : Key → List (List ℕ) → Option (List ℕ)
given key [] = None
given key (word ∷ []) = None
given key (word ∷ value ∷ words) =
    if bytes_eq word (word_of key) then Some value else given key words

-- the key, or the one that may not stand beside it, stands in pairs
abbrev pub is_taken : Key → List (List ℕ) → Bool
is_taken key pairs = is_some (given key pairs) || is_some (given (rival key) pairs)

-- what is wrong with a key behind other pairs, or else with the word behind it
abbrev pub wrong_pair : TimeRanges → List (List ℕ) → Option Key → List ℕ → Option faults.Kind
wrong_pair times before None value = None
wrong_pair times before (Some key) value =
    if is_taken key before then Some Twice else wrong_value times key value

-- what is wrong with the first word at fault of pairs that stand behind others
abbrev pub first_wrong_pair : TimeRanges → List (List ℕ) → List (List ℕ) → Option faults.Kind
first_wrong_pair times before [] = None
first_wrong_pair times before (key ∷ []) = None
first_wrong_pair times before (key ∷ value ∷ words) =
    option_or (wrong_pair times before (key_of key) value)
    (first_wrong_pair times (before ++ key ∷ value ∷ []) words)

-- the same of a line that has the form
abbrev pub wrong_node : TimeRanges → List (List ℕ) → Option faults.Kind
wrong_node times words =
    option_or (first_wrong node_shapes (take 3 words)) (first_wrong_pair times [] (drop 3 words))

-- the number behind a key
abbrev pub number_given : Key → List (List ℕ) → Option ℕ
number_given key pairs = option_and_then number_of (given key pairs)

-- the coins that are given, or none
abbrev pub coins_given : List (List ℕ) → List ℕ
coins_given pairs = unwrap_or (given Coins pairs) []

-- the node that a name, a number of ports and pairs declare: the speed is 2 where none is given,
-- the link 1, the gap 63, the kind `field`, and each other key 0 or nothing
abbrev pub node_of : List ℕ → ℕ → List (List ℕ) → Command
node_of name ports pairs =
    Node name ports
    (unwrap_or (number_given Speed pairs) 2)
    (unwrap_or (number_given Link pairs) 1 == 1)
    (unwrap_or (number_given Contender pairs) 0 == 1)
    (unwrap_or (number_given Force pairs) 0 == 1)
    (unwrap_or (number_given Power pairs) 0)
    (unwrap_or (number_given Gap pairs) 63)
    (unwrap_or (number_given GapReset pairs) 0 == 1)
    (number_given Hold pairs)
    (number_given Short pairs)
    (number_given Long pairs)
    (coin_word (coins_given pairs))
    (length (coins_given pairs))
    (number_given Seed pairs)
    (bytes_eq (unwrap_or (given Kind pairs) (codes "field")) (codes "packed"))

-- the command of a line that has the form
abbrev pub node_command : List (List ℕ) → Command
node_command words = node_of (word_at words 1) (number_at words 2) (drop 3 words)
