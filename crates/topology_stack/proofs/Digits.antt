-- The decimal digits of a small number.
use Rattle.std.proofs.Common.{◌≡◌, ℕ, ◌<◌, ◌≤◌, ◌+◌, ◌/◌, ◌%◌, Bool, true, false, List, [], ◌∷◌, ◌++◌, decimal, append_assoc, refl, arith}
use Rattle.std.specs.Prelude.{slice_set, codes}
use Rattle.std.proofs.lemmas.Fmt.{decimal_digit, decimal_step}
use Rattle.self_id.specs.declared.node.Attrs.{Attrs}
use Rattle.topology_stack.specs.Text.{field, truth, rest_of_attrs}

-- a text with a number of one digit behind it
pub append_one : (out one : List ℕ) (n : ℕ) → n < 10 → one ≡ out ++ (48 + n) ∷ [] →
    one ≡ out ++ decimal n
append_one out one n h e = rw (e, decimal_digit n h)

-- a text with a number of two digits behind it
pub append_two : (out one two : List ℕ) (n : ℕ) → 10 ≤ n → n < 100 →
    one ≡ out ++ (48 + n / 10) ∷ [] →
    two ≡ one ++ (48 + n % 10) ∷ [] → two ≡ out ++ decimal n
append_two out one two n h small e f = rw (f, e, decimal_step n h (omega arith), decimal_digit (n / 10) (omega arith), append_assoc)

-- the words on whether the link is active have one digit
pub link_words : (b : Bool) (out words : List ℕ) → words ≡ codes " link " ++ (48 + truth b) ∷ codes " gap " →
    out ++ words ≡ out ++ (field (codes " link ") (truth b) ++ codes " gap ")
unfolding field
link_words true out words e = rw (e, decimal_digit 1 (omega arith)) refl
link_words false out words e = rw (e, decimal_digit 0 (omega arith)) refl

truth_small : (b : Bool) → truth b < 10
truth_small true = omega arith
truth_small false = omega arith

-- four digits written into the words behind the gap count
pub rest_is : (a : Attrs) → a.speed < 10 → a.power < 10 →
    slice_set (slice_set (slice_set (slice_set (codes " speed 0 contender 0 power 0 initiated 0 ports") 7 (48 + a.speed)) 19 (48 + truth a.contender)) 27 (48 + a.power)) 39 (48 + truth a.initiated) ≡ rest_of_attrs a
unfolding rest_of_attrs field
rest_is a s p = rw (decimal_digit a.speed s, decimal_digit (truth a.contender) (truth_small a.contender), decimal_digit a.power p, decimal_digit (truth a.initiated) (truth_small a.initiated)) refl
