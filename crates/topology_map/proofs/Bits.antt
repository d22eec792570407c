-- The bits of numbers, summed and shifted.
use Rattle.std.proofs.Common.{◌≡◌, ℕ, zero, suc, ◌+◌, ◌*◌, ◌/◌, ◌%◌, ◌^◌, ◌<◌, ◌≤◌, Bool, false, eqb, List, ◌∷◌, length, replicate, refl, sym, ap, ◌∙◌, ⊎_elim, arith, bit_xor}
use Rattle.std.specs.Int.{bit_at}
use Rattle.std.proofs.lemmas.Nat.Bits.{bit_at_xor, bit_at-lt, bit_at_cat_low, same_from_bits_below}
use Rattle.std.proofs.lemmas.Nat.{div-add-mod'}
use Rattle.std.proofs.lemmas.Bool.{cases_lt}
use Rattle.topology_map.specs.Crc.{xor, plus, bits_of}

pub length-bits_of : (k x : ℕ) → length (bits_of k x) ≡ k
unfolding bits_of
length-bits_of zero x = refl
length-bits_of (suc k) x = omega (arith, length-bits_of k x)

parity : (a b : ℕ) → a < 2 → b < 2 → eqb ((a + b) % 2) 1 ≡ xor (eqb a 1) (eqb b 1)
parity zero zero la lb = refl
parity zero (suc zero) la lb = refl
parity (suc zero) zero la lb = refl
parity (suc zero) (suc zero) la lb = refl
parity (suc (suc a)) b la lb = absurd (omega (arith, la))
parity zero (suc (suc b)) la lb = absurd (omega (arith, lb))
parity (suc zero) (suc (suc b)) la lb = absurd (omega (arith, lb))

-- the bits of an exclusive or are a sum without carry
pub bits_of-xor : (k a b : ℕ) → bits_of k (bit_xor a b) ≡ plus (bits_of k a) (bits_of k b)
unfolding bits_of
bits_of-xor zero a b = refl
bits_of-xor (suc k) a b =
    let one : eqb (bit_at (bit_xor a b) k) 1 ≡ xor (eqb (bit_at a k) 1) (eqb (bit_at b k) 1)
    = ap (λ (n : ℕ). eqb n 1) (bit_at_xor a b k) ∙ parity (bit_at a k) (bit_at b k) (bit_at-lt a k) (bit_at-lt b k) in
    rw (one, bits_of-xor k a b) refl

-- a number cut off above
pub bits_of-mod : (k n x : ℕ) → k ≤ n → bits_of k (x % 2 ^ n) ≡ bits_of k x
unfolding bits_of
bits_of-mod zero n x le = refl
bits_of-mod (suc k) n x le =
    let whole : x / 2 ^ n * 2 ^ n + x % 2 ^ n ≡ x = div-add-mod' x (2 ^ n) in
    let lt : k < n = omega (arith, le) in
    let one : bit_at (x % 2 ^ n) k ≡ bit_at x k = sym (bit_at_cat_low (x / 2 ^ n) n (x % 2 ^ n) k lt) ∙ ap (λ (m : ℕ). bit_at m k) whole in
    let rest : k ≤ n = omega (arith, le) in
    rw (one, bits_of-mod k n x rest) refl

-- ---- numbers with the same bits

cons_parts : (a b : Bool) (xs ys : List Bool) → a ∷ xs ≡ b ∷ ys → (a ≡ b) × (xs ≡ ys)
cons_parts a b xs ys e = (cc, cc)

same_bit : (a b : ℕ) → a < 2 → b < 2 → eqb a 1 ≡ eqb b 1 → a ≡ b
same_bit zero zero la lb e = refl
same_bit zero (suc zero) la lb e = absurd cc
same_bit (suc zero) zero la lb e = absurd cc
same_bit (suc zero) (suc zero) la lb e = refl
same_bit (suc (suc a)) b la lb e = absurd (omega (arith, la))
same_bit zero (suc (suc b)) la lb e = absurd (omega (arith, lb))
same_bit (suc zero) (suc (suc b)) la lb e = absurd (omega (arith, lb))

same_bits : (k x y : ℕ) → bits_of k x ≡ bits_of k y → (i : ℕ) → i < k →
    eqb (bit_at x i) 1 ≡ eqb (bit_at y i) 1
unfolding bits_of
same_bits zero x y e i lt = absurd (omega (arith, lt))
same_bits (suc k) x y e i lt =
    let parts = cons_parts (eqb (bit_at x k) 1) (eqb (bit_at y k) 1) (bits_of k x) (bits_of k y) e in
    ⊎_elim
    (λ (below : i < k). same_bits k x y parts.1 i below)
    (λ (above : k ≤ i). let last : i ≡ k = omega (arith, lt, above) in rw last parts.0)
    (cases_lt i k)

pub same_number : (k x y : ℕ) → x < 2 ^ k → y < 2 ^ k → bits_of k x ≡ bits_of k y → x ≡ y
same_number k x y fits_x fits_y e =
    same_from_bits_below k x y fits_x fits_y (λ (i : ℕ) (lt : i < k). same_bit (bit_at x i) (bit_at y i) (bit_at-lt x i) (bit_at-lt y i) (same_bits k x y e i lt))

pub zero_bits : bits_of 16 0 ≡ replicate 16 false
unfolding bits_of
zero_bits = refl
