-- What a line tells of the variable with a code.
use Rattle.std.proofs.Common.{◌≡◌, ◌≢◌, ℕ, zero, suc, ◌+◌, ◌/◌, ◌%◌, ◌^◌, ◌==◌, ◌&&◌, Bool, true, false, List, [], ◌∷◌, ◌++◌, Some, None, cond, codes, refl, ◌∙◌, ap, subst, arith, append_assoc}
use Rattle.std.specs.Str.{bytes_eq}
use Rattle.std.proofs.Math.Bool.{and-false}
use Rattle.std.proofs.lemmas.Bool.{cond-false, cond-true}
use Rattle.std.proofs.lemmas.Bool.Decides.{nat_tests}
use Rattle.wave_laws.specs.Reading.{time_in, up_to_blank, behind_blank, value_if, value_for}
use Rattle.script_trace.specs.waves.Value.{node_code, port_code, node_line, port_line, binary, number, role_value}
use Rattle.wave_laws.proofs.Reading.{Teller, is_flat, flat-both, Tells, tells-line}

-- ---- codes

pub same-itself : (c : List ℕ) → bytes_eq c c ≡ true
same-itself [] = refl
same-itself (x ∷ c) =
    let here : (x == x) ≡ true = grind (arith, nat_tests) in
    rw (here, same-itself c) refl

-- codes with other tails are others
pub other-tail : (x y : ℕ) (a b : List ℕ) → bytes_eq a b ≡ false → bytes_eq (x ∷ a) (y ∷ b) ≡ false
other-tail x y a b h = rw h (and-false (x == y))

-- and so are codes of other nodes or ports
pub other-head : (i k : ℕ) (a b : List ℕ) → i ≢ k → bytes_eq ((33 + i) ∷ a) ((33 + k) ∷ b) ≡ false
other-head i k a b h =
    let here : (33 + i == 33 + k) ≡ false = grind (arith, nat_tests) in
    rw here refl

-- ---- values

-- a value, behind which any code is read
pub record IsValue (value : List ℕ) : Type 0 where
  pub reads : (c code : List ℕ) → value_for c (value ++ code) ≡ value_if c code value
  pub untimed : (code : List ℕ) → time_in (value ++ code) ≡ None
  pub flat : is_flat value ≡ true

digit-no-blank : (d : ℕ) → (48 + d == 32) ≡ false
digit-no-blank d = grind (arith, nat_tests)

digit-no-feed : (d : ℕ) → (48 + d == 10) ≡ false
digit-no-feed d = grind (arith, nat_tests)

behind-digits : (d n : ℕ) (code : List ℕ) → behind_blank ((binary d n ++ codes " ") ++ code) ≡ code
behind-digits zero n code = refl
behind-digits (suc d) n code = rw (digit-no-blank (n / 2 ^ d % 2)) (behind-digits d n code)

up-to-digits : (d n : ℕ) (code : List ℕ) → up_to_blank ((binary d n ++ codes " ") ++ code) ≡ binary d n ++ codes " "
up-to-digits zero n code = refl
up-to-digits (suc d) n code = rw (digit-no-blank (n / 2 ^ d % 2)) (ap (λ l. (48 + n / 2 ^ d % 2) ∷ l) (up-to-digits d n code))

digits-flat : (d n : ℕ) → is_flat (binary d n ++ codes " ") ≡ true
digits-flat zero n = refl
digits-flat (suc d) n = rw (digit-no-feed (n / 2 ^ d % 2)) (digits-flat d n)

pub a-number : (d n : ℕ) → IsValue (number d n)
a-number d n = record {
  reads = λ c code.
      ap (λ l. value_if c l (98 ∷ up_to_blank ((binary d n ++ codes " ") ++ code))) (behind-digits d n code)
      ∙ ap (λ l. value_if c code (98 ∷ l)) (up-to-digits d n code);
  untimed = λ code. refl;
  flat = digits-flat d n;
}

pub unknown : IsValue (codes "bx ")
unknown = record { reads = λ c code. refl; untimed = λ code. refl; flat = refl }

pub digit-one : IsValue (codes "1")
digit-one = record { reads = λ c code. refl; untimed = λ code. refl; flat = refl }

pub a-role : (role : ℕ) → IsValue (role_value role)
a-role role = go (role == 2) (role == 1)
  where
    go : (a b : Bool) → IsValue (cond a (codes "sparent ") (cond b (codes "schild ") (codes "s- ")))
    go true b = record { reads = λ c code. refl; untimed = λ code. refl; flat = refl }
    go false true = record { reads = λ c code. refl; untimed = λ code. refl; flat = refl }
    go false false = record { reads = λ c code. refl; untimed = λ code. refl; flat = refl }

-- ---- lines

-- a line tells what it gives, its line feed aside
code-line : (c : Teller) (value code : List ℕ) → IsValue value → is_flat code ≡ true →
    Tells c (value ++ (code ++ codes "\n")) (c (value ++ code))
code-line c value code is flat =
    subst (λ t. Tells c t (c (value ++ code))) (append_assoc value code (codes "\n"))
    (tells-line c (value ++ code) (flat-both value code is.flat flat))

-- nothing is told by a line with this code, whatever its value is
abbrev pub Misses : Teller → List ℕ → Type 0
Misses c code = (value : List ℕ) → IsValue value → c (value ++ code) ≡ None

-- of another variable nothing is
pub misses : (c code : List ℕ) → bytes_eq code c ≡ false → Misses (value_for c) code
misses c code other value is = is.reads c code ∙ cond-false (bytes_eq code c) (Some value) None other

-- nor is a time
pub no-time : (code : List ℕ) → Misses time_in code
no-time code value is = is.untimed code

own-line : (value code : List ℕ) → IsValue value → is_flat code ≡ true → Tells (value_for code) (value ++ (code ++ codes "\n")) (Some value)
own-line value code is flat =
    subst (Tells (value_for code) (value ++ (code ++ codes "\n")))
    (is.reads code code ∙ cond-true (bytes_eq code code) (Some value) None (same-itself code))
    (code-line (value_for code) value code is flat)

other-line : (c : Teller) (value code : List ℕ) → IsValue value → is_flat code ≡ true → Misses c code →
    Tells c (value ++ (code ++ codes "\n")) None
other-line c value code is flat h = subst (Tells c (value ++ (code ++ codes "\n"))) (h value is) (code-line c value code is flat)

high-flat : (k : ℕ) (code : List ℕ) → is_flat code ≡ true → is_flat ((33 + k) ∷ code) ≡ true
high-flat k code h =
    let here : (33 + k == 10) ≡ false = grind (arith, nat_tests) in
    rw here h

pub node-own : (k : ℕ) (letter value : List ℕ) → is_flat letter ≡ true → IsValue value →
    Tells (value_for (node_code k letter)) (node_line k letter value) (Some value)
node-own k letter value flat is = own-line value (node_code k letter) is (high-flat k letter flat)

pub node-other : (c : Teller) (k : ℕ) (letter value : List ℕ) → is_flat letter ≡ true → IsValue value →
    Misses c (node_code k letter) → Tells c (node_line k letter value) None
node-other c k letter value flat is h = other-line c value (node_code k letter) is (high-flat k letter flat) h

pub port-own : (k j : ℕ) (letter value : List ℕ) → is_flat letter ≡ true → IsValue value →
    Tells (value_for (port_code k j letter)) (port_line k j letter value) (Some value)
port-own k j letter value flat is =
    own-line value (port_code k j letter) is (high-flat k ((33 + j) ∷ letter) (high-flat j letter flat))

pub port-other : (c : Teller) (k j : ℕ) (letter value : List ℕ) → is_flat letter ≡ true → IsValue value →
    Misses c (port_code k j letter) → Tells c (port_line k j letter value) None
port-other c k j letter value flat is h =
    other-line c value (port_code k j letter) is (high-flat k ((33 + j) ∷ letter) (high-flat j letter flat)) h
