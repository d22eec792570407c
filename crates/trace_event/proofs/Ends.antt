-- Where numbers and names end.
use Rattle.std.proofs.Common.{◌≡◌, ℕ, ◌<◌, ◌≤◌, inl, inr, Bool, true, List, [], ◌∷◌, ◌++◌, length, drop, get_or, refl, append_assoc, arith}
use Rattle.std.specs.Prelude.{All, decimal, not}
use Rattle.std.specs.Str.{bytes_eq}
use Rattle.std.specs.List.{prefix_len}
use Rattle.std.specs.Char.{is_ascii_digit}
use Rattle.std.specs.Str.Parse.{AllDigits}
use Rattle.std.proofs.lemmas.Bool.Decides.{nat_tests}
use Rattle.std.proofs.lemmas.Fmt.{decimal_is_IsNumeral}
use Rattle.std.proofs.lemmas.Slice.Eq.{bytes_eq-Decides}
use Rattle.std.proofs.lemmas.Str.Parse.{digit_at, digit_from_value}
use Rattle.std.proofs.lemmas.List.{get_or_append_left}
use Rattle.std.proofs.lemmas.List.Elements.{All-head, All-tail}
use Rattle.topology_stack.specs.Name.{IsNameChar}
use Rattle.trace_event.specs.Stands.{Stands}
use Rattle.trace_event.specs.codings.Follows.{EndsNumber, is_inner, EndsName}

-- ---- numbers

digit_is : (c : ℕ) → 48 ≤ c → c ≤ 57 → is_ascii_digit c ≡ true
digit_is c low high = grind (arith, nat_tests)

digits_end : (ds w rest : List ℕ) → AllDigits 10 ds → EndsNumber w →
    prefix_len is_ascii_digit (ds ++ (w ++ rest)) ≡ length ds
digits_end [] [] rest all stop = absurd stop
digits_end [] (c ∷ cs) rest all stop = rw stop refl
digits_end (d ∷ ds) w rest all stop =
    let range = digit_from_value d all.0 in
    rw (digit_is d range.0 range.1, digits_end ds w rest all.1 stop) (omega arith)

-- the digits at a place end behind the number that stands there
pub number_ends : {text : List ℕ} {at next : ℕ} (n : ℕ) (w : List ℕ) → Stands text at (decimal n ++ w) next →
    n < 4294967296 → EndsNumber w → prefix_len is_ascii_digit (drop at text) ≡ length (decimal n)
number_ends {text} {at} {next} n w whole fits stop =
    let all = decimal_is_IsNumeral n (omega arith) in
    rw (whole.is, append_assoc (decimal n) w (drop next text)) (digits_end (decimal n) w (drop next text) all.0.1 stop)

-- ---- names

inner_is : (c : ℕ) → IsNameChar c → is_inner c ≡ true
inner_is c (inl letter) = grind (arith, nat_tests)
inner_is c (inr (inl digit)) = grind (arith, nat_tests)
inner_is c (inr (inr line)) = grind (arith, nat_tests)

chars_end : (bs w rest : List ℕ) → All IsNameChar bs → EndsName w →
    prefix_len is_inner (bs ++ (w ++ rest)) ≡ length bs
chars_end [] [] rest all stop = absurd stop
chars_end [] (c ∷ cs) rest all stop = rw stop refl
chars_end (b ∷ bs) w rest all stop =
    rw (inner_is b (All-head IsNameChar b bs all), chars_end bs w rest (All-tail IsNameChar b bs all) stop) (omega arith)

pub name_ends : {text : List ℕ} {at next : ℕ} (bs w : List ℕ) → Stands text at (bs ++ w) next →
    All IsNameChar bs → EndsName w → prefix_len is_inner (drop at text) ≡ length bs
name_ends {text} {at} {next} bs w whole all stop =
    rw (whole.is, append_assoc bs w (drop next text)) (chars_end bs w (drop next text) all stop)

-- ---- bytes

-- what is the same isn't told apart
pub apart : (xs ys : List ℕ) (differs : Bool) → differs ≡ not (bytes_eq xs ys) → differs ≡ true → xs ≡ ys → ⊥
apart xs ys differs e is same = grind (arith, bytes_eq-Decides xs ys)

-- the first of the digits of a number
pub first_digit : (n : ℕ) (rest : List ℕ) → n < 4294967296 → is_ascii_digit (get_or (decimal n ++ rest) 0 0) ≡ true
first_digit n rest fits =
    let all = decimal_is_IsNumeral n (omega arith) in
    let some = all.0.0 in
    let range = digit_at (decimal n) 0 all.0.1 some in
    rw (get_or_append_left (decimal n) rest 0 0 some) (digit_is (get_or (decimal n) 0 0) range.0 range.1)
