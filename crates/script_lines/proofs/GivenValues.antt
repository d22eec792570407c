-- What stands behind a key of pairs with no fault.
use Rattle.std.proofs.Common.{◌≡◌, ℕ, ◌+◌, ◌^◌, ◌<◌, ◌≤◌, List, [], ◌∷◌, ◌++◌, Option, Some, None, true, false, Bool, ◌&&◌, length, take, drop, get_or, codes, refl, subst, sym, ap, ◌∙◌, arith}
use Rattle.std.proofs.lemmas.Bool.Decides.{nat_tests}
use Rattle.std.proofs.lemmas.Slice.Eq.{bytes_eq-Decides}
use Rattle.std.specs.Prelude.{cond, nat_le, IfSome}
use Rattle.std.specs.Option.{option_or}
use Rattle.std.specs.Str.{bytes_eq}
use Rattle.std.proofs.Common.{append_assoc, length-drop, take_all, ◌-◌}
use Rattle.std.proofs.lemmas.List.{drop_more, take_more}
use Rattle.port_state.specs.declared.ranges.TimeRanges.{TimeRanges}
use Rattle.script_lines.specs.declared.kind.Kind as faults
use Rattle.script_lines.specs.declared.kind.Kind.TheVariants.{Number, Twice, Range}
use Rattle.script_lines.specs.declared.key.Key.{Key}
use Rattle.script_lines.specs.declared.key.Key.TheVariants.{Speed, Link, Contender, Force, Power, Gap, GapReset, Hold, Short, Long, Coins, Seed, Kind}
use Rattle.line_words.specs.Digits.{of_digits}
use Rattle.line_words.proofs.Lemmas.{small_digits}
use Rattle.script_lines.specs.Number.{number_of}
use Rattle.std.specs.List.{list_all}
use Rattle.script_lines.specs.Coins.{is_coin, are_coins}
use Rattle.script_lines.specs.Shape.{out_of}
use Rattle.script_lines.specs.Key.{word_of, key_of, limits, wrong_value}
use Rattle.script_lines.specs.Range.{IsBetween}
use Rattle.script_lines.specs.Node.{given, is_taken, wrong_pair, first_wrong_pair}

-- a key's word is that key's alone
key_of-word_of : (key : Key) → key_of (word_of key) ≡ Some key
key_of-word_of Speed = refl
key_of-word_of Link = refl
key_of-word_of Contender = refl
key_of-word_of Force = refl
key_of-word_of Power = refl
key_of-word_of Gap = refl
key_of-word_of GapReset = refl
key_of-word_of Hold = refl
key_of-word_of Short = refl
key_of-word_of Long = refl
key_of-word_of Coins = refl
key_of-word_of Seed = refl
key_of-word_of Kind = refl

pub neither : {A : Type 0} (a b : Option A) → option_or a b ≡ None → (a ≡ None) × (b ≡ None)
neither None b h = (refl, h)
neither (Some x) b h = absurd (cc)

untaken : (taken : Bool) (wrong : Option faults.Kind)
    → cond taken (Some Twice) wrong ≡ None → wrong ≡ None
untaken true wrong h = absurd (cc)
untaken false wrong h = h

-- the first word behind a key has no fault
right_value : (times : TimeRanges) (key : Key) (value : List ℕ) (before words : List (List ℕ))
    → first_wrong_pair times before words ≡ None → given key words ≡ Some value
    → wrong_value times key value ≡ None
right_value times key value before [] h g = absurd (cc)
right_value times key value before (word ∷ []) h g = absurd (cc)
right_value times key value before (word ∷ other ∷ words) h g =
    let parts : (wrong_pair times before (key_of word) other ≡ None)
    × (first_wrong_pair times (before ++ word ∷ other ∷ []) words ≡ None) =
    neither (wrong_pair times before (key_of word) other)
    (first_wrong_pair times (before ++ word ∷ other ∷ []) words) h in
    go (bytes_eq word (word_of key)) refl parts.0 g
    (λ g. right_value times key value (before ++ word ∷ other ∷ []) words parts.1 g)
  where
    go : (same : Bool) → bytes_eq word (word_of key) ≡ same
        → wrong_pair times before (key_of word) other ≡ None
        → cond same (Some other) (given key words) ≡ Some value
        → (given key words ≡ Some value → wrong_value times key value ≡ None)
        → wrong_value times key value ≡ None
    go true e right g rest =
        let word_is : word ≡ word_of key = (bytes_eq-Decides word (word_of key)).0 e in
        let key_is : key_of word ≡ Some key = ap key_of word_is ∙ key_of-word_of key in
        let other_is : other ≡ value = cc in
        let P : Option Key → Type 0 = λ k. wrong_pair times before k other ≡ None in
        let here : wrong_value times key other ≡ None =
        untaken (is_taken key before) (wrong_value times key other) (subst P key_is right) in
        let Q : List ℕ → Type 0 = λ v. wrong_value times key v ≡ None in
        subst Q other_is here
    go false e right g rest = rest g

-- a number that is right lies in its range
within : (least most n : ℕ) → out_of least most (Some n) ≡ None → (least ≤ n) × (n ≤ most)
within least most n h = go (nat_le least n) (nat_le n most) refl refl h
  where
    go : (above below : Bool) → nat_le least n ≡ above → nat_le n most ≡ below
        → cond (above && below) None (Some Range) ≡ None → (least ≤ n) × (n ≤ most)
    go true true f e h = (grind (arith, nat_tests), grind (arith, nat_tests))
    go true false f e h = absurd (cc)
    go false below f e h = absurd (cc)

small_number : (word : List ℕ) (n : ℕ) → number_of word ≡ Some n → n < 2 ^ 32
unfolding number_of
small_number word n h = go (bytes_eq (take 2 word) (codes "0x")) h
  where
    go : (hex : Bool) → cond hex (of_digits 16 8 (drop 2 word)) (of_digits 10 10 word) ≡ Some n
        → n < 2 ^ 32
    go true h = small_digits 16 8 n (drop 2 word) h
    go false h = small_digits 10 10 n word h

-- each number behind a key lies in the key's range
ranged : (times : TimeRanges) (key : Key) (value : List ℕ) (n : ℕ) → wrong_value times key value ≡ None
    → number_of value ≡ Some n → IsBetween (limits times key).0 (limits times key).1 n
ranged times Coins value n h e = (omega arith, omega (arith, small_number value n e))
ranged times Kind value n h e = (omega arith, omega (arith, small_number value n e))
ranged times key value n h e =
    within (limits times key).0 (limits times key).1 n
    (ap (out_of (limits times key).0 (limits times key).1) (sym e) ∙ h)

pub right_number : (times : TimeRanges) (key : Key) (pairs : List (List ℕ)) (value : List ℕ)
    → first_wrong_pair times [] pairs ≡ None → given key pairs ≡ Some value
    → IfSome (number_of value) (IsBetween (limits times key).0 (limits times key).1)
right_number times key pairs value h g = go (number_of value) refl
  where
    go : (r : Option ℕ) → number_of value ≡ r
        → IfSome r (IsBetween (limits times key).0 (limits times key).1)
    go None e = tt
    go (Some n) e = ranged times key value n (right_value times key value [] pairs h g) e

-- what stands from a place on, as a slice to the end
pub to_the_end : (words : List (List ℕ)) (place : ℕ)
    → take (length words - place) (drop place words) ≡ drop place words
to_the_end words place =
    let all : length (drop place words) ≡ length words - place = length-drop place words in
    rw (← all) (take_all (length (drop place words)) (drop place words) (omega arith))

-- two words stand there
pub two_behind : (words : List (List ℕ)) (place : ℕ) → place ≤ length words
    → 2 ≤ length (take (length words - place) (drop place words)) → place + 2 ≤ length words
two_behind words place inside h =
    let two : 2 ≤ length (drop place words) = rw (to_the_end words place) at h in
    omega (arith, length-drop place words, two)

-- the next pair, where this one is right
pub next_pair : (times : TimeRanges) (done : ℕ) (words : List (List ℕ)) (key value : List ℕ)
    → done + 2 ≤ length words → get_or (drop done words) 0 key ≡ key
    → get_or (drop done words) 1 value ≡ value
    → wrong_pair times (take done words) (key_of key) value ≡ None
    → first_wrong_pair times (take (done + 2) words) (drop (done + 2) words)
    ≡ first_wrong_pair times (take done words) (drop done words)
next_pair times done words key value inside first second right =
    let done_less : done < length words = omega arith in
    let next_less : done + 1 < length words = omega arith in
    let twice : done + 1 + 1 ≡ done + 2 = omega arith in
    let next : drop (done + 1) words ≡ get_or words (done + 1) value ∷ drop (done + 1 + 1) words =
    drop_more words (done + 1) value next_less in
    let behind : drop (done + 1) words ≡ get_or words (done + 1) value ∷ drop (done + 2) words =
    rw twice at next in
    let two : drop done words ≡ get_or words done key ∷ get_or words (done + 1) value ∷ drop (done + 2) words =
    drop_more words done key done_less ∙ ap (λ rest. get_or words done key ∷ rest) behind in
    let one : take (done + 1) words ≡ take done words ++ get_or words done key ∷ [] =
    take_more words done key done_less in
    let more : take (done + 1 + 1) words ≡ take (done + 1) words ++ get_or words (done + 1) value ∷ [] =
    take_more words (done + 1) value next_less in
    let front : take (done + 2) words ≡ (take done words ++ get_or words done key ∷ []) ++ get_or words (done + 1) value ∷ [] =
    rw (twice, one) at more in
    let key_is : get_or words done key ≡ key = rw two at first in
    let value_is : get_or words (done + 1) value ≡ value = rw two at second in
    let joined : take (done + 2) words ≡ take done words ++ key ∷ value ∷ [] =
    rw (key_is, value_is, append_assoc) at front in
    let pair : drop done words ≡ key ∷ value ∷ drop (done + 2) words = rw (key_is, value_is) at two in
    let wrong : Option faults.Kind → Option faults.Kind =
    λ first. option_or first (first_wrong_pair times (take done words ++ key ∷ value ∷ []) (drop (done + 2) words)) in
    ap (λ before. first_wrong_pair times before (drop (done + 2) words)) joined
    ∙ (sym (ap wrong right) ∙ sym (ap (first_wrong_pair times (take done words)) pair))

untrue : (coins : Bool) → cond coins None (Some Number) ≡ None → coins ≡ true
untrue true h = refl
untrue false h = absurd (cc)

-- coins that are right are few
pub right_coins : (times : TimeRanges) (pairs : List (List ℕ)) (text : List ℕ)
    → first_wrong_pair times [] pairs ≡ None → given Coins pairs ≡ Some text
    → (length text ≤ 64) × (list_all is_coin text ≡ true)
right_coins times pairs text h g =
    let coins : are_coins text ≡ true = untrue (are_coins text) (right_value times Coins text [] pairs h g) in
    grind (arith, nat_tests)
