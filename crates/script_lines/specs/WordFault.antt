-- What is wrong with a line of a script, word by word, one line a fault.
use Rattle.std.specs.Prelude.{◌≡◌, ◌↔◌, ◌<◌, ◌⊎◌, ℕ, not, IsTrue, List, [], ◌∷◌, ◌++◌, take, drop, Option, Some, None, Err}
use Rattle.std.specs.Str.Lines.{strip_carriage_return}
use Rattle.topology_stack.specs.Name.{IsName}
use Rattle.port_state.specs.declared.ranges.TimeRanges.{TimeRanges}
use Rattle.script_lines.specs.declared.kind.Kind as faults
use Rattle.script_lines.specs.declared.kind.Kind.TheVariants.{Word, Number, Name, Range, Twice}
use Rattle.script_lines.specs.declared.key.Key.{Key}
use Rattle.script_lines.specs.declared.key.Key.TheVariants.{Coins, Kind}
use Rattle.script_lines.specs.Number.{number_of}
use Rattle.script_lines.specs.Coins.{are_coins}
use Rattle.script_lines.specs.Shape.{Shape, the, a_name, a_number, a_given}
use Rattle.script_lines.specs.Form.{shapes}
use Rattle.script_lines.specs.Key.{word_of, key_of, rival, limits}
use Rattle.script_lines.specs.Node.{node_shapes}
use Rattle.script_lines.specs.Words.{words_of}
use Rattle.script_lines.specs.Line.{LineForm, node, other, has_form, is_skipped, is_permitted_line, IsNoLine, ReadsLine}

-- ---- a word

-- a word that spells no number is `Number`, and one whose number isn't in its range is `Range`
abbrev pub NumberHas : ℕ → ℕ → Option ℕ → faults.Kind → Type 0
NumberHas least most None kind = kind ≡ Number
NumberHas least most (Some n) kind = (kind ≡ Range) × ((n < least) ⊎ (most < n))

-- where a name is wanted, a word that is none is `Name`; a word of a form has no fault
abbrev pub WordHas : Shape → List ℕ → faults.Kind → Type 0
WordHas (the text) word kind = ⊥
WordHas a_name word kind = (kind ≡ Name) × ¬ IsName word
WordHas (a_number least most) word kind = NumberHas least most (number_of word) kind
WordHas (a_given least most) word kind = NumberHas least most (number_of word) kind

-- ---- a key and the word behind it

-- a key stands in pairs
abbrev pub StandsIn : Key → List (List ℕ) → Type 0
StandsIn key [] = ⊥
StandsIn key (word ∷ []) = ⊥
StandsIn key (word ∷ value ∷ words) = (word ≡ word_of key) ⊎ StandsIn key words

-- so does it, or the key that may not stand beside it
abbrev pub IsGiven : Key → List (List ℕ) → Type 0
IsGiven key pairs = StandsIn key pairs ⊎ StandsIn (rival key) pairs

-- what are no coins is `Number`; a kind has no fault, and what stands behind each other key is a
-- number
abbrev pub ValueHas : TimeRanges → Key → List ℕ → faults.Kind → Type 0
ValueHas times Kind value kind = ⊥
ValueHas times Coins value kind = (kind ≡ Number) × IsTrue (not (are_coins value))
ValueHas times key value kind =
    NumberHas (limits times key).0 (limits times key).1 (number_of value) kind

-- a key that is given before is `Twice`, and else the word behind it may have a fault
abbrev pub PairHas : TimeRanges → List (List ℕ) → Option Key → List ℕ → faults.Kind → Type 0
PairHas times before None value kind = ⊥
PairHas times before (Some key) value kind =
    ((kind ≡ Twice) × IsGiven key before) ⊎ (¬ IsGiven key before × ValueHas times key value kind)

-- ---- the first of several

-- what is first has the fault, or it has none and what follows has the fault
abbrev pub FirstOf : (faults.Kind → Type 0) → (faults.Kind → Type 0) → faults.Kind → Type 0
FirstOf P Q kind = P kind ⊎ (((any : faults.Kind) → P any → ⊥) × Q kind)

abbrev pub WordsHave : List Shape → List (List ℕ) → faults.Kind → Type 0
WordsHave [] words = λ kind. ⊥
WordsHave (shape ∷ shapes) [] = λ kind. ⊥
WordsHave (shape ∷ shapes) (word ∷ words) = FirstOf (WordHas shape word) (WordsHave shapes words)

-- pairs behind others
abbrev pub PairsHave : TimeRanges → List (List ℕ) → List (List ℕ) → faults.Kind → Type 0
PairsHave times before [] = λ kind. ⊥
PairsHave times before (key ∷ []) = λ kind. ⊥
PairsHave times before (key ∷ value ∷ words) =
    FirstOf (PairHas times before (key_of key) value)
    (PairsHave times (before ++ key ∷ value ∷ []) words)

-- the words of a form
abbrev pub FormHas : TimeRanges → LineForm → List (List ℕ) → faults.Kind → Type 0
FormHas times node words =
    FirstOf (WordsHave node_shapes (take 3 words)) (PairsHave times [] (drop 3 words))
FormHas times (other form) words = WordsHave (shapes form) words

-- ---- a line

-- the words have a form, and the first of them that is at fault has this fault
pub record FirstWordHas (times : TimeRanges) (words : List (List ℕ)) (kind : faults.Kind) : Type 0 where
  pub form : LineForm
  pub has : IsTrue (has_form form words)
  pub fault : FormHas times form words kind

-- A line that isn't skipped is `Word` where it has a byte that isn't permitted or its words have no
-- form, and else has the fault of the first word at fault.
abbrev pub ShownHas : TimeRanges → List ℕ → faults.Kind → Type 0
ShownHas times line kind =
    IsTrue (not (is_skipped line))
    × (((kind ≡ Word) × IsNoLine line)
    ⊎ (IsTrue (is_permitted_line line) × FirstWordHas times (words_of line) kind))

-- a carriage return at its end doesn't count
abbrev pub LineHas : TimeRanges → List ℕ → faults.Kind → Type 0
LineHas times line kind = ShownHas times (strip_carriage_return line) kind

-- a line has a fault exactly where it is read as that fault
abbrev pub LinesAreRefusedSo : Type 0
LinesAreRefusedSo =
    (times : TimeRanges) (line : List ℕ) (kind : faults.Kind) →
    LineHas times line kind ↔ ReadsLine times line (Err kind)
