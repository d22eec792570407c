-- Going over digits gives their number.
use Rattle.std.proofs.Common.{◌≡◌, ℕ, ◌+◌, ◌*◌, ◌^◌, ◌<◌, ◌≤◌, List, [], ◌∷◌, Option, Some, None, true, false, Bool, ◌&&◌, length, lit<, refl, arith}
use Rattle.std.specs.Prelude.{fold, nat_lt, nat_le, if◌then◌else◌}
use Rattle.std.specs.Char.{digit_value}
use Rattle.std.proofs.lemmas.Bool.Decides.{nat_tests}
use Rattle.std.proofs.Math.Nat.{mul-le-mul_left}
use Rattle.line_words.specs.Digits.{are_digits, value, of_digits}
use Rattle.line_words.specs.codings.Going.{digits_from}

-- what further digits make of a number
abbrev go_on : ℕ → ℕ → List ℕ → ℕ
go_on base n digits = fold (λ n c. n * base + digit_value c) n digits

-- further digits make a number no less
grows : (base n : ℕ) → 1 ≤ base → (cs : List ℕ) → n ≤ go_on base n cs
grows base n h [] = omega arith
grows base n h (c ∷ cs) =
    let more : n * base + digit_value c ≤ go_on base (n * base + digit_value c) cs =
    grows base (n * base + digit_value c) h cs in
    let times : n * 1 ≤ n * base = mul-le-mul_left n h in
    omega arith

abbrev read : Bool → ℕ → Option ℕ
read digits n = if digits && nat_lt n (2 ^ 32) then Some n else None

too_large : (b : Bool) (n : ℕ) → 2 ^ 32 ≤ n → None ≡ read b n
too_large true n h = grind (arith, nat_tests)
too_large false n h = refl

here : (n : ℕ) → n < 2 ^ 32 → Some n ≡ read true n
here n h = grind (arith, nat_tests)

digits_from-value : (base n : ℕ) → 1 ≤ base → n < 2 ^ 32 → (cs : List ℕ)
    → digits_from base n cs ≡ read (are_digits base cs) (go_on base n cs)
digits_from-value base n h fits [] = here n fits
digits_from-value base n h fits (c ∷ cs) =
    go (nat_lt (digit_value c) base) (nat_lt (n * base + digit_value c) (2 ^ 32)) refl
    (λ less. digits_from-value base (n * base + digit_value c) h less cs)
  where
    go : (digit room : Bool) → nat_lt (n * base + digit_value c) (2 ^ 32) ≡ room
        → (n * base + digit_value c < 2 ^ 32 → digits_from base (n * base + digit_value c) cs
        ≡ read (are_digits base cs) (go_on base (n * base + digit_value c) cs))
        → (if digit then (if room then digits_from base (n * base + digit_value c) cs else None) else None)
        ≡ read (digit && are_digits base cs) (go_on base (n * base + digit_value c) cs)
    go false room e rest = refl
    go true true e rest =
        let less : n * base + digit_value c < 2 ^ 32 = grind (arith, nat_tests) in
        rest less
    go true false e rest =
        let more : 2 ^ 32 ≤ n * base + digit_value c = grind (arith, nat_tests) in
        let most : 2 ^ 32 ≤ go_on base (n * base + digit_value c) cs =
        omega (arith, grows base (n * base + digit_value c) h cs) in
        too_large (are_digits base cs) (go_on base (n * base + digit_value c) cs) most

-- what the reader of digits answers
pub read_digits : (base most : ℕ) (digits : List ℕ) → 2 ≤ base → 0 < length digits
    → length digits ≤ most → digits_from base 0 digits ≡ of_digits base most digits
unfolding of_digits
read_digits base most digits h some few =
    let e : digits_from base 0 digits ≡ read (are_digits base digits) (value base digits) =
    digits_from-value base 0 (omega arith) (lit< tt) digits in
    let s : nat_lt 0 (length digits) ≡ true = grind (arith, nat_tests) in
    let f : nat_le (length digits) most ≡ true = grind (arith, nat_tests) in
    rw (s, f) e

pub too_many : (base most : ℕ) (digits : List ℕ) → most < length digits
    → None ≡ of_digits base most digits
unfolding of_digits
too_many base most digits h = grind (arith, nat_tests)

pub no_digits : (base most : ℕ) (digits : List ℕ) → length digits ≡ 0
    → None ≡ of_digits base most digits
unfolding of_digits
no_digits base most digits h = grind (arith, nat_tests)

pub small_digits : (base most n : ℕ) (digits : List ℕ) → of_digits base most digits ≡ Some n →
    n < 2 ^ 32
unfolding of_digits
small_digits base most n digits h = grind (arith, nat_tests)
