-- One hexadecimal digit more.
use Rattle.std.proofs.Common.{◌≡◌, ◌∙◌, ℕ, zero, suc, ◌+◌, ◌-◌, ◌*◌, ◌/◌, ◌%◌, ◌^◌, ◌<◌, ◌≤◌, List, [], ◌∷◌, ◌++◌, refl, sym, ap, add-one, arith}
use Rattle.std.proofs.Math.Nat.{div-div-eq-div-mul}
use Rattle.std.proofs.Math.Pow.{pow_mono}
use Rattle.std.proofs.lemmas.Nat.{pow-add}
use Rattle.topology_stack.specs.Hex.{hex, hex_digit}
use Rattle.trace_event.specs.Stands.{Stands}
use Rattle.trace_event.proofs.Chain.{behind, both}

-- a step of four bits
four_more : (k : ℕ) → 2 ^ (4 * suc k) ≡ 16 * 2 ^ (4 * k)
four_more k =
    let e : 4 * suc k ≡ 4 + 4 * k = omega arith in
    ap (λ (n : ℕ). 2 ^ n) e ∙ pow-add 2 4 (4 * k)

digit_same : (k v d : ℕ) → d < 16 → (16 * v + d) / 2 ^ (4 * suc k) ≡ v / 2 ^ (4 * k)
digit_same k v d few =
    let front : (16 * v + d) / 16 ≡ v = omega arith in
    ap (λ (n : ℕ). (16 * v + d) / n) (four_more k)
    ∙ (sym (div-div-eq-div-mul (16 * v + d) 16 (2 ^ (4 * k))) ∙ ap (λ (n : ℕ). n / 2 ^ (4 * k)) front)

-- digits and one more
pub hex_more : (k v d : ℕ) → d < 16 → hex (suc k) (16 * v + d) ≡ hex k v ++ hex_digit d ∷ []
hex_more zero v d few =
    let e : (16 * v + d) / 1 % 16 ≡ d = omega arith in
    ap (λ (n : ℕ). hex_digit n ∷ []) e
hex_more (suc k) v d few =
    let e = digit_same k v d few in
    let rest = hex_more k v d few in
    rw (e, rest) refl

-- there is room for it
pub room : (k v d : ℕ) → k < 8 → v < 2 ^ (4 * k) → d < 16 → (16 * v + d < 4294967296) × (16 * v + d < 2 ^ (4 * (k + 1)))
room k v d lt few digit =
    let more : 2 ^ (4 * (k + 1)) ≡ 16 * 2 ^ (4 * k) =
    ap (λ (n : ℕ). 2 ^ n) (omega arith) ∙ four_more k in
    let most : 2 ^ (4 * (k + 1)) ≤ 2 ^ 32 = let few : 4 * (k + 1) ≤ 32 = omega arith in pow_mono few in
    (omega arith, omega arith)

-- the first of the digits that are left
pub first_digit : {text : List ℕ} {at next : ℕ} (k q : ℕ) (w : List ℕ) → 0 < k → Stands text at (hex k q ++ w) next →
    Stands text at (hex_digit (q / 2 ^ (4 * (k - 1)) % 16) ∷ (hex (k - 1) q ++ w)) next
first_digit zero q w some whole = absurd (omega arith)
first_digit (suc k) q w some whole =
    let back : suc k - 1 ≡ k = omega arith in
    rw back whole

-- and those behind it
pub more_digits : {text : List ℕ} {at next : ℕ} (k q : ℕ) (w : List ℕ) → 0 < k → Stands text at (hex k q ++ w) next →
    Stands text (at + 1) (hex (k - 1) q ++ w) next
more_digits zero q w some whole = absurd (omega arith)
more_digits (suc k) q w some whole =
    let back : suc k - 1 ≡ k = omega arith in
    rw back (behind (hex_digit (q / 2 ^ (4 * k) % 16) ∷ []) (hex k q ++ w) whole)

-- what stands once one more is read
pub one_more : {text : List ℕ} {at mid next : ℕ} (k v d : ℕ) → Stands text at (hex k v) mid →
    Stands text mid (hex_digit d ∷ []) next → d < 16 → Stands text at (hex (k + 1) (16 * v + d)) next
one_more {text} {at} {mid} {next} k v d first second few = rw (add-one, hex_more k v d few) (both first second)
