-- A number in decimal is one digit or more, and each of its characters is one.
use Rattle.std.proofs.Common.{◌≡◌, ℕ, zero, suc, ◌/◌, ◌%◌, ◌≤◌, Bool, true, false, cond, List, [], ◌∷◌, length, decimal, refl, arith}
use Rattle.std.specs.Prelude.{◌==◌}
use Rattle.std.specs.Fmt.{digits, digits_onto, digit_glyph}
use Rattle.std.specs.Char.{is_ascii_digit}
use Rattle.std.specs.Str.{all_ascii_digits}
use Rattle.std.proofs.lemmas.Bool.{and_from}
use Rattle.std.proofs.lemmas.Bool.Decides.{nat_tests}

abbrev pub AreDigits : ℕ → List ℕ → Type 0
AreDigits least ds = (all_ascii_digits ds ≡ true) × (least ≤ length ds)

a_digit : (n : ℕ) → is_ascii_digit (digit_glyph false (n % 10)) ≡ true
a_digit n = grind (arith, nat_tests)

one_of : (b : Bool) (least : ℕ) (xs ys : List ℕ) → AreDigits least xs → AreDigits least ys → AreDigits least (cond b xs ys)
one_of true least xs ys p q = p
one_of false least xs ys p q = q

digits_before : (k n : ℕ) (behind : List ℕ) → all_ascii_digits behind ≡ true →
    AreDigits (length behind) (digits_onto k 10 false n behind)
digits_before zero n behind h = (h, omega arith)
digits_before (suc k) n behind h =
    let here : all_ascii_digits (digit_glyph false (n % 10) ∷ behind) ≡ true = and_from _ _ (a_digit n) h in
    let more = digits_before k (n / 10) (digit_glyph false (n % 10) ∷ behind) here in
    one_of (n / 10 == 0) (length behind) _ _ (here, omega arith) (more.0, omega (arith, more.1))

pub decimal_digits : (n : ℕ) → AreDigits 1 (decimal n)
unfolding digits
decimal_digits n =
    let here : all_ascii_digits (digit_glyph false (n % 10) ∷ []) ≡ true = and_from _ _ (a_digit n) refl in
    one_of (n / 10 == 0) 1 _ _ (here, omega arith) (digits_before 63 (n / 10) (digit_glyph false (n % 10) ∷ []) here)
