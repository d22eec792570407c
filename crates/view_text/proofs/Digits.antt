-- The digits of a number, of which words, numerals and quoted strings can be made.
use Rattle.std.proofs.Common.{◌≡◌, ℕ, zero, suc, ◌/◌, ◌%◌, ◌≤◌, Bool, true, false, not, cond, ◌&&◌, ◌||◌, List, [], ◌∷◌, ◌++◌, decimal, refl, arith}
use Rattle.std.specs.Prelude.{◌==◌}
use Rattle.std.specs.Fmt.{digits, digits_onto, digit_glyph}
use Rattle.std.specs.Char.{is_ascii_digit, to_ascii_lowercase}
use Rattle.std.specs.Str.{all_ascii_digits}
use Rattle.std.proofs.lemmas.Bool.Decides.{nat_tests}
use Rattle.view_text.specs.Dot.{is_word, is_letter, are_word_characters, is_keyword, is_rest, is_numeral, is_quotable}

digit_true : (n : ℕ) → is_ascii_digit (digit_glyph false (n % 10)) ≡ true
digit_true n = grind (arith, nat_tests)

onto : (k n : ℕ) (acc : List ℕ) → all_ascii_digits acc ≡ true → all_ascii_digits (digits_onto k 10 false n acc) ≡ true
onto zero n acc h = h
onto (suc k) n acc h =
    let here : all_ascii_digits (digit_glyph false (n % 10) ∷ acc) ≡ true = rw (digit_true n) h in
    by (digit_glyph false (n % 10) ∷ acc) (digits_onto k 10 false (n / 10) (digit_glyph false (n % 10) ∷ acc)) (n / 10 == 0) here (onto k (n / 10) (digit_glyph false (n % 10) ∷ acc) here)
  where
    by : (xs ys : List ℕ) (b : Bool) → all_ascii_digits xs ≡ true → all_ascii_digits ys ≡ true → all_ascii_digits (cond b xs ys) ≡ true
    by xs ys true p q = p
    by xs ys false p q = q

-- whatever the number
pub all_digits : (n : ℕ) → all_ascii_digits (decimal n) ≡ true
unfolding digits
all_digits n = onto 64 n [] refl

-- ---- what digits are

pub both : (a b : Bool) → a && b ≡ true → (a ≡ true) × (b ≡ true)
both true b h = (refl, h)
both false b h = cc

pub two : (a b : Bool) → a ≡ true → b ≡ true → a && b ≡ true
two true b p q = q
two false b p q = cc

record IsDigit (c : ℕ) : Type 0 where
  at_least : 48 ≤ c
  at_most : c ≤ 57

is_digit : (c : ℕ) → is_ascii_digit c ≡ true → IsDigit c
is_digit c h = record { at_least = grind (arith, nat_tests); at_most = grind (arith, nat_tests) }

word_character : (c : ℕ) → is_ascii_digit c ≡ true → is_letter c || is_ascii_digit c ≡ true
word_character c h = grind (arith, nat_tests)

no_point : (c : ℕ) → is_ascii_digit c ≡ true → (c == 46) ≡ false
no_point c h = grind (arith, nat_tests, is_digit c h)

no_minus : (c : ℕ) → is_ascii_digit c ≡ true → (c == 45) ≡ false
no_minus c h = grind (arith, nat_tests, is_digit c h)

no_quote : (c : ℕ) → is_ascii_digit c ≡ true → (c == 34) ≡ false
no_quote c h = grind (arith, nat_tests, is_digit c h)

no_backslash : (c : ℕ) → is_ascii_digit c ≡ true → (c == 92) ≡ false
no_backslash c h = grind (arith, nat_tests, is_digit c h)

pub digits_in_words : (cs : List ℕ) → all_ascii_digits cs ≡ true → are_word_characters cs ≡ true
digits_in_words [] h = refl
digits_in_words (c ∷ cs) h =
    let p = both (is_ascii_digit c) (all_ascii_digits cs) h in
    two (is_letter c || is_ascii_digit c) (are_word_characters cs) (word_character c p.0) (digits_in_words cs p.1)

digits_behind : (cs : List ℕ) → all_ascii_digits cs ≡ true → is_rest cs ≡ true
digits_behind [] h = refl
digits_behind (c ∷ cs) h =
    let p = both (is_ascii_digit c) (all_ascii_digits cs) h in
    rw (no_point c p.0) (two (is_ascii_digit c) (is_rest cs) p.0 (digits_behind cs p.1))

pub digits_quotable : (cs : List ℕ) → all_ascii_digits cs ≡ true → is_quotable false cs ≡ true
digits_quotable [] h = refl
digits_quotable (c ∷ cs) h =
    let p = both (is_ascii_digit c) (all_ascii_digits cs) h in
    rw (no_quote c p.0, no_backslash c p.0) (digits_quotable cs p.1)

-- ---- more of quoted strings

pub quotable_more : (behind : Bool) (xs ys : List ℕ) → is_quotable behind xs ≡ true → is_quotable false ys ≡ true →
    is_quotable behind (xs ++ ys) ≡ true
quotable_more true [] ys p q = cc
quotable_more false [] ys p q = q
quotable_more true (c ∷ xs) ys p q = quotable_more false xs ys p q
quotable_more false (c ∷ xs) ys p q =
    let h = both (not (c == 34)) (is_quotable (c == 92) xs) p in
    two (not (c == 34)) (is_quotable (c == 92) (xs ++ ys)) h.0 (quotable_more (c == 92) xs ys h.1 q)

-- ---- numerals

record BeginsSo (n : ℕ) (ds : List ℕ) : Type 0 where
  first : ℕ
  behind : List ℕ
  are : ds ≡ first ∷ behind

something : (k n c : ℕ) (acc : List ℕ) → BeginsSo n (digits_onto k 10 false n (c ∷ acc))
something zero n c acc = record { first = c; behind = acc; are = refl }
something (suc k) n c acc =
    by (n / 10 == 0) (c ∷ acc) (digits_onto k 10 false (n / 10) (digit_glyph false (n % 10) ∷ c ∷ acc)) (something k (n / 10) (digit_glyph false (n % 10)) (c ∷ acc))
  where
    by : (b : Bool) (xs ys : List ℕ) → BeginsSo (n / 10) ys → BeginsSo n (cond b (digit_glyph false (n % 10) ∷ xs) ys)
    by true xs ys h = record { first = digit_glyph false (n % 10); behind = xs; are = refl }
    by false xs ys h = record { first = h.first; behind = h.behind; are = h.are }

some_digits : (n : ℕ) → BeginsSo n (decimal n)
unfolding digits
some_digits n =
    by (n / 10 == 0) (digits_onto 63 10 false (n / 10) (digit_glyph false (n % 10) ∷ [])) (something 63 (n / 10) (digit_glyph false (n % 10)) [])
  where
    by : (b : Bool) (ys : List ℕ) → BeginsSo (n / 10) ys → BeginsSo n (cond b (digit_glyph false (n % 10) ∷ []) ys)
    by true ys h = record { first = digit_glyph false (n % 10); behind = []; are = refl }
    by false ys h = record { first = h.first; behind = h.behind; are = h.are }

numeral_of : (c : ℕ) (cs : List ℕ) → all_ascii_digits (c ∷ cs) ≡ true → is_numeral (c ∷ cs) ≡ true
numeral_of c cs h =
    let p = both (is_ascii_digit c) (all_ascii_digits cs) h in
    rw (no_minus c p.0) (two (is_ascii_digit c) (is_rest cs) p.0 (digits_behind cs p.1))

numeral_begun : (n : ℕ) (ds : List ℕ) → BeginsSo n ds → all_ascii_digits ds ≡ true → is_numeral ds ≡ true
numeral_begun n [] s h = let e = s.are in cc
numeral_begun n (c ∷ cs) s h = numeral_of c cs h

pub decimal_numeral : (n : ℕ) → is_numeral (decimal n) ≡ true
decimal_numeral n = numeral_begun n (decimal n) (some_digits n) (all_digits n)

-- ---- the names of nodes

no_letter : (c : ℕ) → is_ascii_digit c ≡ true → (to_ascii_lowercase c == 111) ≡ false
no_letter c h = grind (arith, nat_tests, is_digit c h)

no_keyword : (cs : List ℕ) → all_ascii_digits cs ≡ true → is_keyword (110 ∷ cs) ≡ false
no_keyword [] h = refl
no_keyword (c ∷ cs) h = rw (no_letter c (both (is_ascii_digit c) (all_ascii_digits cs) h).0) refl

-- `n` and digits
pub node_word : (n : ℕ) → is_word (110 ∷ decimal n) ≡ true
node_word n = rw (no_keyword (decimal n) (all_digits n), digits_in_words (decimal n) (all_digits n)) refl
