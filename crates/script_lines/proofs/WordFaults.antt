-- The faults of words, one by one, are those that the order of the tests finds.
use Rattle.std.proofs.Common.{◌≡◌, ◌<◌, ◌⊎◌, inl, inr, ℕ, Bool, true, false, List, [], ◌∷◌, ◌++◌, take, drop, Option, Some, None, refl, sym, ap, arith}
use Rattle.std.specs.Prelude.{cond, not, nat_le, is_some, IsTrue, ◌||◌, ◌&&◌}
use Rattle.std.specs.Option.{option_or}
use Rattle.std.specs.Str.{bytes_eq}
use Rattle.std.specs.Str.Lines.{strip_carriage_return}
use Rattle.std.proofs.lemmas.Bool.Decides.{nat_tests}
use Rattle.std.proofs.lemmas.Slice.Eq.{bytes_eq-Decides}
use Rattle.std.proofs.lemmas.Bool.{false_from_ne_true}
use Rattle.topology_stack.specs.Name.{IsName}
use Rattle.port_state.specs.declared.ranges.TimeRanges.{TimeRanges}
use Rattle.script_lines.specs.declared.kind.Kind as faults
use Rattle.script_lines.specs.declared.kind.Kind.TheVariants.{Number, Name, Range, Twice}
use Rattle.script_lines.specs.declared.key.Key.{Key}
use Rattle.script_lines.specs.declared.key.Key.TheVariants.{Speed, Link, Contender, Force, Power, Gap, GapReset, Hold, Short, Long, Coins, Seed, Kind}
use Rattle.script_lines.specs.Name.{is_name}
use Rattle.script_lines.specs.Number.{number_of}
use Rattle.script_lines.specs.Coins.{are_coins}
use Rattle.script_lines.specs.Shape.{Shape, the, a_name, a_number, a_given, out_of, wrong, first_wrong}
use Rattle.script_lines.specs.Form.{shapes}
use Rattle.script_lines.specs.Key.{word_of, key_of, rival, limits, wrong_value}
use Rattle.script_lines.specs.Node.{given, is_taken, wrong_pair, first_wrong_pair, node_shapes}
use Rattle.script_lines.specs.Words.{words_of}
use Rattle.script_lines.specs.Line.{LineForm, node, other, wrong_word, IsWrong}
use Rattle.script_lines.specs.WordFault.{NumberHas, WordHas, StandsIn, IsGiven, ValueHas, PairHas, FirstOf, WordsHave, PairsHave, FormHas, FirstWordHas, LinesAreRefusedSo}
use Rattle.script_lines.proofs.LineRead.{not_false, false_of_not}
use Rattle.script_lines.proofs.Names.{name_of_test, test_of_name}

-- what is found is what this says
abbrev Finds : Option faults.Kind → (faults.Kind → Type 0) → Type 0
Finds found P = (kind : faults.Kind) → (found ≡ Some kind → P kind) × (P kind → found ≡ Some kind)

same_kind : (j k : faults.Kind) → Some j ≡ Some k → j ≡ k
same_kind j k e = cc

nothing : (k : faults.Kind) → None ≡ Some k → ⊥
nothing k e = cc

none_found : Finds None (λ kind. ⊥)
none_found kind = (λ e. nothing kind e, λ h. absurd h)

first_found : (o p : Option faults.Kind) (P Q : faults.Kind → Type 0) → Finds o P → Finds p Q →
    Finds (option_or o p) (FirstOf P Q)
first_found None p P Q a b kind = (
  λ e. inr ((λ any h. nothing any ((a any).1 h)), (b kind).0 e),
  λ h. elim h [
    | inl x ↦ absurd (nothing kind ((a kind).1 x))
    | inr x ↦ (b kind).1 x.1
  ],
)
first_found (Some j) p P Q a b kind = (
  λ e. inl ((a kind).0 e),
  λ h. elim h [
    | inl x ↦ (a kind).1 x
    | inr x ↦ absurd (x.0 j ((a j).0 refl))
  ],
)

-- one fault, where a test fails
by_test : (b : Bool) (fault : faults.Kind) (P : Type 0) → (b ≡ false → P) → (P → b ≡ false) →
    Finds (cond b None (Some fault)) (λ kind. (kind ≡ fault) × P)
by_test true fault P f g kind = (λ e. absurd (nothing kind e), λ h. let no : true ≡ false = g h.1 in absurd cc)
by_test false fault P f g kind = (λ e. (sym (same_kind fault kind e), f refl), λ h. ap (λ (k : faults.Kind). Some k) (sym h.0))

-- ---- a word

outside : (least most n : ℕ) → (nat_le least n && nat_le n most) ≡ false →
    (n < least) ⊎ (most < n)
outside least most n h = go (nat_le least n) (nat_le n most) refl refl h
  where
    go : (a b : Bool) → nat_le least n ≡ a → nat_le n most ≡ b → (a && b) ≡ false →
        (n < least) ⊎ (most < n)
    go true true e f h = absurd cc
    go true false e f h = inr (grind (arith, nat_tests, f))
    go false b e f h = inl (grind (arith, nat_tests, e))

outside_back : (least most n : ℕ) → (n < least) ⊎ (most < n) →
    (nat_le least n && nat_le n most) ≡ false
outside_back least most n h = elim h [
  | inl less ↦ let e : nat_le least n ≡ false = grind (arith, nat_tests, less) in ap (λ b. b && nat_le n most) e
  | inr more ↦ last (nat_le least n) (nat_le n most) (grind (arith, nat_tests, more))
]
  where
    last : (a b : Bool) → b ≡ false → (a && b) ≡ false
    last true b e = e
    last false b e = refl

number_found : (least most : ℕ) (n : Option ℕ) → Finds (out_of least most n) (NumberHas least most n)
number_found least most None kind =
    (λ e. sym (same_kind Number kind e), λ h. ap (λ (k : faults.Kind). Some k) (sym h))
number_found least most (Some n) kind =
    by_test (nat_le least n && nat_le n most) Range ((n < least) ⊎ (most < n)) (outside least most n) (outside_back least most n) kind

no_name : (word : List ℕ) → is_name word ≡ false → IsName word → ⊥
no_name word e h = let t = test_of_name word h in absurd cc

word_found : (shape : Shape) (word : List ℕ) → Finds (wrong shape word) (WordHas shape word)
word_found (the text) word kind = none_found kind
word_found a_name word kind =
    by_test (is_name word) Name (¬ IsName word) (no_name word) (λ none. false_from_ne_true (is_name word) (λ e. none (name_of_test word e))) kind
word_found (a_number least most) word kind = number_found least most (number_of word) kind
word_found (a_given least most) word kind = number_found least most (number_of word) kind

words_found : (shapes : List Shape) (words : List (List ℕ)) →
    Finds (first_wrong shapes words) (WordsHave shapes words)
words_found [] words = none_found
words_found (shape ∷ shapes) [] = none_found
words_found (shape ∷ shapes) (word ∷ words) =
    first_found (wrong shape word) (first_wrong shapes words) (WordHas shape word) (WordsHave shapes words) (word_found shape word) (words_found shapes words)

-- ---- pairs

given_stands : (key : Key) (pairs : List (List ℕ)) → is_some (given key pairs) ≡ true →
    StandsIn key pairs
given_stands key [] h = absurd cc
given_stands key (word ∷ []) h = absurd cc
given_stands key (word ∷ value ∷ words) h =
    go (bytes_eq word (word_of key)) refl (given_stands key words) h
  where
    go : (b : Bool) → bytes_eq word (word_of key) ≡ b →
        (is_some (given key words) ≡ true → StandsIn key words) →
        is_some (cond b (Some value) (given key words)) ≡ true →
        (word ≡ word_of key) ⊎ StandsIn key words
    go true e behind h = inl ((bytes_eq-Decides word (word_of key)).0 e)
    go false e behind h = inr (behind h)

stands_given : (key : Key) (pairs : List (List ℕ)) → StandsIn key pairs →
    is_some (given key pairs) ≡ true
stands_given key [] h = absurd h
stands_given key (word ∷ []) h = absurd h
stands_given key (word ∷ value ∷ words) h =
    go (bytes_eq word (word_of key)) refl (stands_given key words) h
  where
    go : (b : Bool) → bytes_eq word (word_of key) ≡ b →
        (StandsIn key words → is_some (given key words) ≡ true) →
        (word ≡ word_of key) ⊎ StandsIn key words →
        is_some (cond b (Some value) (given key words)) ≡ true
    go true e behind h = refl
    go false e behind (inl same) = let t = (bytes_eq-Decides word (word_of key)).1 same in absurd cc
    go false e behind (inr h) = behind h

taken_given : (key : Key) (pairs : List (List ℕ)) → is_taken key pairs ≡ true → IsGiven key pairs
taken_given key pairs h =
    go (is_some (given key pairs)) (is_some (given (rival key) pairs)) refl refl h
  where
    go : (a b : Bool) → is_some (given key pairs) ≡ a → is_some (given (rival key) pairs) ≡ b →
        (a || b) ≡ true → IsGiven key pairs
    go true b e f h = inl (given_stands key pairs e)
    go false true e f h = inr (given_stands (rival key) pairs f)
    go false false e f h = absurd cc

given_taken : (key : Key) (pairs : List (List ℕ)) → IsGiven key pairs → is_taken key pairs ≡ true
given_taken key pairs h = elim h [
  | inl x ↦ ap (λ b. b || is_some (given (rival key) pairs)) (stands_given key pairs x)
  | inr x ↦ last (is_some (given key pairs)) (is_some (given (rival key) pairs)) (stands_given (rival key) pairs x)
]
  where
    last : (a b : Bool) → b ≡ true → (a || b) ≡ true
    last true b e = refl
    last false b e = e

value_found : (times : TimeRanges) (key : Key) (value : List ℕ) →
    Finds (wrong_value times key value) (ValueHas times key value)
value_found times Kind value kind = none_found kind
value_found times Coins value kind =
    by_test (are_coins value) Number (IsTrue (not (are_coins value))) (not_false (are_coins value)) (false_of_not (are_coins value)) kind
value_found times Speed value kind = number_found (limits times Speed).0 (limits times Speed).1 (number_of value) kind
value_found times Link value kind = number_found (limits times Link).0 (limits times Link).1 (number_of value) kind
value_found times Contender value kind = number_found (limits times Contender).0 (limits times Contender).1 (number_of value) kind
value_found times Force value kind = number_found (limits times Force).0 (limits times Force).1 (number_of value) kind
value_found times Power value kind = number_found (limits times Power).0 (limits times Power).1 (number_of value) kind
value_found times Gap value kind = number_found (limits times Gap).0 (limits times Gap).1 (number_of value) kind
value_found times GapReset value kind = number_found (limits times GapReset).0 (limits times GapReset).1 (number_of value) kind
value_found times Hold value kind = number_found (limits times Hold).0 (limits times Hold).1 (number_of value) kind
value_found times Short value kind = number_found (limits times Short).0 (limits times Short).1 (number_of value) kind
value_found times Long value kind = number_found (limits times Long).0 (limits times Long).1 (number_of value) kind
value_found times Seed value kind = number_found (limits times Seed).0 (limits times Seed).1 (number_of value) kind

pair_found : (times : TimeRanges) (before : List (List ℕ)) (key : Option Key) (value : List ℕ) →
    Finds (wrong_pair times before key value) (PairHas times before key value)
pair_found times before None value kind = none_found kind
pair_found times before (Some key) value kind = go (is_taken key before) refl
  where
    go : (b : Bool) → is_taken key before ≡ b →
        (cond b (Some Twice) (wrong_value times key value) ≡ Some kind → PairHas times before (Some key) value kind)
        × (PairHas times before (Some key) value kind → cond b (Some Twice) (wrong_value times key value) ≡ Some kind)
    go true e = (
      λ f. inl (sym (same_kind Twice kind f), taken_given key before e),
      λ h. elim h [
        | inl x ↦ ap (λ (k : faults.Kind). Some k) (sym x.0)
        | inr x ↦ absurd (x.0 (taken_given key before e))
      ],
    )
    go false e = (
      λ f. inr ((λ is. let t = given_taken key before is in absurd cc), (value_found times key value kind).0 f),
      λ h. elim h [
        | inl x ↦ let t = given_taken key before x.1 in absurd cc
        | inr x ↦ (value_found times key value kind).1 x.1
      ],
    )

pairs_found : (times : TimeRanges) (before pairs : List (List ℕ)) →
    Finds (first_wrong_pair times before pairs) (PairsHave times before pairs)
pairs_found times before [] = none_found
pairs_found times before (key ∷ []) = none_found
pairs_found times before (key ∷ value ∷ words) =
    first_found (wrong_pair times before (key_of key) value) (first_wrong_pair times (before ++ key ∷ value ∷ []) words)
    (PairHas times before (key_of key) value) (PairsHave times (before ++ key ∷ value ∷ []) words)
    (pair_found times before (key_of key) value) (pairs_found times (before ++ key ∷ value ∷ []) words)

-- ---- lines

form_found : (times : TimeRanges) (form : LineForm) (words : List (List ℕ)) →
    Finds (wrong_word times form words) (FormHas times form words)
form_found times node words =
    first_found (first_wrong node_shapes (take 3 words)) (first_wrong_pair times [] (drop 3 words))
    (WordsHave node_shapes (take 3 words)) (PairsHave times [] (drop 3 words))
    (words_found node_shapes (take 3 words)) (pairs_found times [] (drop 3 words))
form_found times (other form) words = words_found (shapes form) words

pub refused_so : LinesAreRefusedSo
refused_so times line kind =
    let words = words_of (strip_carriage_return line) in
    let there : FirstWordHas times words kind → IsWrong times words kind = λ h.
    record { form = h.form; has = h.has; wrong = (form_found times h.form words kind).1 h.fault } in
    let back : IsWrong times words kind → FirstWordHas times words kind = λ h.
    record { form = h.form; has = h.has; fault = (form_found times h.form words kind).0 h.wrong } in (
      λ h. (
        h.0,
        elim h.1 [
          | inl x ↦ inl x
          | inr x ↦ inr (x.0, there x.1)
        ],
      ),
      λ h. (
        h.0,
        elim h.1 [
          | inl x ↦ inl x
          | inr x ↦ inr (x.0, back x.1)
        ],
      ),
    )
