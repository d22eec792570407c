-- Cutting a line at the first character that stands in no word.
use Rattle.std.proofs.Common.{◌≡◌, ◌∙◌, ℕ, ◌+◌, ◌<◌, ◌≤◌, List, [], ◌∷◌, ◌++◌, Some, None, Option, true, false, Bool, ◌&&◌, zero, suc, length, take, drop, get_or, refl, sym, ap, add-one, codes, arith}
use Rattle.std.specs.Prelude.{filter, position, not, cond, nat_lt, IsTrue}
use Rattle.std.specs.List.{list_all, position_or_len}
use Rattle.std.specs.Char.{digit_value}
use Rattle.std.specs.Str.{bytes_eq}
use Rattle.std.proofs.lemmas.Bool.Decides.{nat_tests}
use Rattle.std.proofs.lemmas.Bool.{and_parts}
use Rattle.std.proofs.lemmas.Slice.Eq.{bytes_eq-Decides}
use Rattle.std.proofs.lemmas.List.Sums.{position_or_len_is, list_all-from_AllPass, AllPass-from_list_all}
use Rattle.std.proofs.lemmas.List.Quantifiers.{position-Some}
use Rattle.line_words.specs.Words.{is_some_text}
use Rattle.line_words.specs.Digits.{of_digits, are_digits}
use Rattle.line_words.proofs.Lemmas.{words_cut, words_whole}
use Rattle.script_lines.specs.Words.{is_blank, is_permitted, words_of}
use Rattle.script_lines.specs.Number.{number_of}
use Rattle.script_lines.specs.codings.Shown.{is_shown}

abbrev is_unshown : ℕ → Bool
is_unshown c = not (is_shown c)

-- ---- a character

shown_blank : (c : ℕ) → is_unshown c ≡ false → is_blank c ≡ false
shown_blank c h = grind (arith, nat_tests)

shown_permitted : (c : ℕ) → is_unshown c ≡ false → is_permitted c ≡ true
shown_permitted c h = grind (arith, nat_tests)

blank_permitted : (c : ℕ) → is_blank c ≡ true → is_permitted c ≡ true
blank_permitted c h = grind (arith, nat_tests)

-- ---- a line that is cut

first_blank_at : (line : List ℕ) (end : ℕ) → position is_unshown line ≡ Some end →
    is_blank (get_or line end 0) ≡ true → position is_blank line ≡ Some end
first_blank_at line end h blank =
    let at : (end < length line) × (is_unshown (get_or line end 0) ≡ true)
    × ((k : ℕ) → k < end → is_unshown (get_or line k 0) ≡ false) = position-Some is_unshown line end 0 h in
    let inside : end < length line = at.0 in
    let same : position_or_len is_blank line ≡ end =
    position_or_len_is is_blank line end 0 (omega arith) (λ k less. shown_blank (get_or line k 0) (at.2 k less)) (λ _. blank) in
    grind (arith, nat_tests, same, inside)

permitted_behind : (line : List ℕ) (end : ℕ) → end < length line →
    ((k : ℕ) → k ≤ end → is_permitted (get_or line k 0) ≡ true) →
    list_all is_permitted line ≡ list_all is_permitted (drop (suc end) line)
permitted_behind [] end h each = absurd (omega arith)
permitted_behind (c ∷ cs) zero h each =
    ap (λ b. b && list_all is_permitted cs) (each 0 (omega arith))
permitted_behind (c ∷ cs) (suc n) h each =
    ap (λ b. b && list_all is_permitted cs) (each 0 (omega arith))
    ∙ permitted_behind cs n (omega arith) (λ k less. each (suc k) (omega arith))

each_permitted : (line : List ℕ) (end : ℕ) →
    ((k : ℕ) → k < end → is_unshown (get_or line k 0) ≡ false) → is_blank (get_or line end 0) ≡ true →
    (k : ℕ) → k ≤ end → is_permitted (get_or line k 0) ≡ true
each_permitted line end shown blank k h = go (nat_lt k end) refl
  where
    go : (b : Bool) → nat_lt k end ≡ b → is_permitted (get_or line k 0) ≡ true
    go true e = let less : k < end = grind (arith, nat_tests, e) in shown_permitted (get_or line k 0) (shown k less)
    go false e =
        let same : end ≡ k = grind (arith, nat_tests, e) in
        ap (λ i. is_permitted (get_or line i 0)) (sym same) ∙ blank_permitted (get_or line end 0) blank

-- a line with a blank behind characters of words
pub record CutSo (line : List ℕ) (end : ℕ) : Type 0 where
  pub words : words_of line ≡ filter is_some_text (take end line ∷ []) ++ words_of (drop (end + 1) line)
  pub permitted : list_all is_permitted line ≡ list_all is_permitted (drop (end + 1) line)

pub cut_so : (line : List ℕ) (end : ℕ) → position is_unshown line ≡ Some end →
    is_blank (get_or line end 0) ≡ true → CutSo line end
cut_so line end h blank =
    let at : (end < length line) × (is_unshown (get_or line end 0) ≡ true)
    × ((k : ℕ) → k < end → is_unshown (get_or line k 0) ≡ false) = position-Some is_unshown line end 0 h in
    record {
      words = words_cut is_blank line end (first_blank_at line end h blank);
      permitted = rw add-one (permitted_behind line end at.0 (each_permitted line end at.2 blank));
    }

-- ---- a line without blanks

all_shown : (line : List ℕ) → position is_unshown line ≡ None → list_all is_shown line ≡ true
all_shown line h = all line (long line h)
  where
    long : (line : List ℕ) → position is_unshown line ≡ None → length line ≤ position_or_len is_unshown line
    long line h = grind (arith, nat_tests)

    step : (shown : Bool) (rest n : ℕ) → suc n ≤ cond (not (not shown)) (1 + rest) 0 →
        (shown ≡ true) × (n ≤ rest)
    step true rest n h = (refl, omega arith)
    step false rest n h = absurd (omega arith)

    all : (line : List ℕ) → length line ≤ position_or_len is_unshown line → list_all is_shown line ≡ true
    all [] h = refl
    all (c ∷ cs) h =
        let parts : (is_shown c ≡ true) × (length cs ≤ position_or_len is_unshown cs) =
        step (is_shown c) (position_or_len is_unshown cs) (length cs) h in
        ap (λ b. b && list_all is_shown cs) parts.0 ∙ all cs parts.1

-- a line of characters of words
pub record UncutSo (line : List ℕ) : Type 0 where
  pub words : words_of line ≡ filter is_some_text (line ∷ [])
  pub whole : position is_blank line ≡ None
  pub permitted : list_all is_permitted line ≡ true

not_shown_false : (c : ℕ) → is_shown c ≡ true → is_unshown c ≡ false
not_shown_false c h = ap not h

pub uncut_all : (line : List ℕ) → list_all is_shown line ≡ true → UncutSo line
uncut_all line h =
    let each = AllPass-from_list_all is_shown line h in
    let long : position_or_len is_blank line ≡ length line =
    position_or_len_is is_blank line (length line) 0 (omega arith)
    (λ k less. shown_blank (get_or line k 0) (not_shown_false (get_or line k 0) (each k 0 less))) (λ less. absurd (omega arith)) in
    let none : position is_blank line ≡ None = grind (arith, nat_tests, long) in
    record {
      words = words_whole is_blank line none;
      whole = none;
      permitted = list_all-from_AllPass is_permitted line
          (λ k d less. shown_permitted (get_or line k d) (not_shown_false (get_or line k d) (each k d less)));
    }

pub uncut_so : (line : List ℕ) → position is_unshown line ≡ None → UncutSo line
uncut_so line h = uncut_all line (all_shown line h)

-- ---- a number

digit_shown : (base c : ℕ) → base ≤ 16 → nat_lt (digit_value c) base ≡ true → is_shown c ≡ true
digit_shown base c few h =
    let less : digit_value c < 16 = grind (arith, nat_tests) in
    grind (arith, nat_tests, less)

digits_shown : (base : ℕ) (digits : List ℕ) → base ≤ 16 → are_digits base digits ≡ true →
    list_all is_shown digits ≡ true
digits_shown base digits few h =
    let each = AllPass-from_list_all (λ c. nat_lt (digit_value c) base) digits h in
    list_all-from_AllPass is_shown digits (λ k d less. digit_shown base (get_or digits k d) few (each k d less))

-- digits of a number
read_shown : (base most n : ℕ) (digits : List ℕ) → base ≤ 16 → of_digits base most digits ≡ Some n →
    (0 < length digits) × (list_all is_shown digits ≡ true)
unfolding of_digits
read_shown base most n digits few h =
    let parts : (0 < length digits) × (are_digits base digits ≡ true) = grind (arith, nat_tests, h) in
    (parts.0, digits_shown base digits few parts.1)

-- a word that spells a number has a character, and each is shown
pub number_shown : (word : List ℕ) (n : ℕ) → number_of word ≡ Some n →
    (0 < length word) × (list_all is_shown word ≡ true)
unfolding number_of
number_shown word n h = go (bytes_eq (take 2 word) (codes "0x")) refl h
  where
    hex : (word : List ℕ) → take 2 word ≡ codes "0x" → list_all is_shown (drop 2 word) ≡ true →
        (0 < length word) × (list_all is_shown word ≡ true)
    hex [] e all = absurd cc
    hex (c ∷ []) e all = absurd cc
    hex (c ∷ d ∷ cs) e all =
        let first : c ≡ 48 = cc in
        let second : d ≡ 120 = cc in
        (omega arith, rw (first, second) all)

    go : (b : Bool) → bytes_eq (take 2 word) (codes "0x") ≡ b →
        cond b (of_digits 16 8 (drop 2 word)) (of_digits 10 10 word) ≡ Some n →
        (0 < length word) × (list_all is_shown word ≡ true)
    go true e h = hex word ((bytes_eq-Decides (take 2 word) (codes "0x")).0 e) (read_shown 16 8 n (drop 2 word) (omega arith) h).1
    go false e h = read_shown 10 10 n word (omega arith) h
