-- Texts that names leave as they are, whatever stands behind them.
use Rattle.std.proofs.Common.{◌≡◌, ◌∙◌, ℕ, ◌==◌, Bool, true, false, cond, List, [], ◌∷◌, ◌++◌, decimal, append_assoc, refl, sym, ap, arith}
use Rattle.std.specs.Prelude.{codes}
use Rattle.std.specs.Char.{is_ascii_digit}
use Rattle.std.specs.Str.{all_ascii_digits}
use Rattle.std.proofs.lemmas.Bool.{and_parts}
use Rattle.std.proofs.lemmas.Bool.Decides.{nat_tests}
use Rattle.view_text.specs.Packet.{field}
use Rattle.named_form.specs.Mentions.{with_names}
use Rattle.named_form.proofs.Numbers.{AreDigits, decimal_digits}

abbrev pub Passes : List (List ℕ) → List ℕ → Type 0
Passes lines text = (rest : List ℕ) → with_names lines (text ++ rest) ≡ text ++ with_names lines rest

pub both_pass : (lines : List (List ℕ)) (a b : List ℕ) → Passes lines a → Passes lines b → Passes lines (a ++ b)
both_pass lines a b p q rest =
    ap (with_names lines) (append_assoc a b rest) ∙ p (b ++ rest) ∙ ap (λ (x : List ℕ). a ++ x) (q rest)
    ∙ sym (append_assoc a b (with_names lines rest))

pub none_passes : (lines : List (List ℕ)) → Passes lines []
none_passes lines rest = refl

pub either_passes : (lines : List (List ℕ)) (b : Bool) (text : List ℕ) → Passes lines text → Passes lines (cond b text [])
either_passes lines true text p = p
either_passes lines false text p = none_passes lines

-- ---- numbers

-- no mention begins with a digit
digit_passes : (lines : List (List ℕ)) (c : ℕ) (rest : List ℕ) → is_ascii_digit c ≡ true →
    with_names lines (c ∷ rest) ≡ c ∷ with_names lines rest
digit_passes lines c rest h =
    let other : (110 == c) ≡ false = grind (arith, nat_tests) in rw other refl

digits_pass : (lines : List (List ℕ)) (ds : List ℕ) → all_ascii_digits ds ≡ true → Passes lines ds
digits_pass lines [] h rest = refl
digits_pass lines (c ∷ ds) h rest =
    let p = and_parts (is_ascii_digit c) (all_ascii_digits ds) h in
    digit_passes lines c (ds ++ rest) p.0 ∙ ap (λ (x : List ℕ). c ∷ x) (digits_pass lines ds p.1 rest)

pub number_passes : (lines : List (List ℕ)) (n : ℕ) → Passes lines (decimal n)
number_passes lines n = digits_pass lines (decimal n) (decimal_digits n).0

pub field_passes : (lines : List (List ℕ)) (word : List ℕ) (n : ℕ) → Passes lines word → Passes lines (field word n)
unfolding field
field_passes lines word n p = both_pass lines word (decimal n) p (number_passes lines n)

-- nor with an n before digits
named_digits : (lines : List (List ℕ)) (ds rest : List ℕ) → AreDigits 1 ds →
    with_names lines (110 ∷ (ds ++ rest)) ≡ 110 ∷ with_names lines (ds ++ rest)
named_digits lines [] rest h = absurd (omega (arith, h.1))
named_digits lines (c ∷ ds) rest h =
    let digit = (and_parts (is_ascii_digit c) (all_ascii_digits ds) h.0).0 in
    let other : (111 == c) ≡ false = grind (arith, nat_tests) in rw other refl

node_number_passes : (lines : List (List ℕ)) (n : ℕ) → Passes lines (110 ∷ decimal n)
node_number_passes lines n rest =
    named_digits lines (decimal n) rest (decimal_digits n)
    ∙ ap (λ (x : List ℕ). 110 ∷ x) (number_passes lines n rest)

-- the names of nodes where they stand in a graph
pub node_passes : (lines : List (List ℕ)) (n : ℕ) → Passes lines (field (codes "  n") n)
unfolding field
node_passes lines n = both_pass lines (codes "  ") (110 ∷ decimal n) (λ rest. refl) (node_number_passes lines n)

pub other_passes : (lines : List (List ℕ)) (n : ℕ) → Passes lines (field (codes " -- n") n)
unfolding field
other_passes lines n = both_pass lines (codes " -- ") (110 ∷ decimal n) (λ rest. refl) (node_number_passes lines n)
