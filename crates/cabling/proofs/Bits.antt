-- One node put into a set or taken out of it, the first nodes, two sets, and sets of small numbers.
use Rattle.std.proofs.Common.{◌≡◌, ◌≢◌, ℕ, zero, suc, ◌+◌, ◌-◌, ◌*◌, ◌%◌, ◌^◌, ◌<◌, ◌≤◌, ◌⊎◌, inl, inr, ◌↔◌, arith, sym, ◌∙◌, refl, bit_and, bit_or}
use Rattle.std.specs.Int.{bit_at, bit_not, w64, trailing_zeros}
use Rattle.std.proofs.lemmas.Bool.{cases_lt}
use Rattle.std.proofs.lemmas.Nat.{pow_pos, one_shl, or_disjoint, or_lt, and_comm, and-not, and_le_l, and_le_r}
use Rattle.std.proofs.Math.Pow.{pow-lt}
use Rattle.std.proofs.lemmas.Nat.Bits.{bit_at_set_same, bit_at_set_other, bit_at_clear_same, bit_at_clear_other, bit_at-lt, bit_at_above, bit_at_ones_above, bit_at-zero, bit_at_or, bit_at_and, bit_at_not, bit_at_ones, and_pow, bit_at-trailing_zeros, same_from_bits}
use Rattle.cabling.specs.NodeSet.{Holds}

-- a bit is 0 or 1
pub clear_bit : (n k : ℕ) → (Holds n k → ⊥) → bit_at n k ≡ 0
clear_bit n k h = go (bit_at n k) (bit_at-lt n k) h
  where
    go : (b : ℕ) → b < 2 → (b ≡ 1 → ⊥) → b ≡ 0
    go zero h no_one = refl
    go (suc b) h no_one = absurd (no_one (omega arith))

-- only nodes below 63 are in a set
pub below : (n k : ℕ) → n < 2 ^ 63 → Holds n k → k < 63
below n k small h = elim (cases_lt k 63) [
  | inl less ↦ less
  | inr more ↦ let zero_bit : bit_at n k ≡ 0 = bit_at_above n 63 k small more in absurd (omega arith)
]

pub none_of_zero : (k : ℕ) → Holds 0 k → ⊥
none_of_zero k h = let z : bit_at 0 k ≡ 0 = bit_at-zero k in omega arith

-- the lowest node of a set that isn't empty
pub some_node : (n : ℕ) → 0 < n → n < 2 ^ 63 → Holds n (trailing_zeros w64 n)
some_node n pos small = (bit_at-trailing_zeros w64 n pos (omega arith)).1

pub lowest : (n : ℕ) → 0 < n → n < 2 ^ 63 → (k : ℕ) → Holds n k → trailing_zeros w64 n ≤ k
lowest n pos small k h = elim (cases_lt k (trailing_zeros w64 n)) [
  | inl less ↦ let z : bit_at n k ≡ 0 = (bit_at-trailing_zeros w64 n pos (omega arith)).2 k less in absurd (omega arith)
  | inr more ↦ more
]

-- ---- a node put in

pub inserted : (n k : ℕ) → k < 64 → (Holds n k → ⊥) → bit_or n (1 * 2 ^ k % 2 ^ 64) ≡ n + 2 ^ k
inserted n k h free =
    let clear : bit_at n k ≡ 0 = clear_bit n k free in
    let disjoint : bit_and n (2 ^ k) ≡ 0 = rw (and_pow n k, clear) (omega arith) in
    rw (one_shl k 64 h) (or_disjoint n (2 ^ k) disjoint)

pub inserted-holds : (n k : ℕ) → k < 64 → Holds (bit_or n (1 * 2 ^ k % 2 ^ 64)) k
inserted-holds n k h = bit_at_set_same w64 n k h

pub inserted-others : (n k : ℕ) → k < 64 → (other : ℕ) → other ≢ k →
    (Holds (bit_or n (1 * 2 ^ k % 2 ^ 64)) other) ↔ Holds n other
inserted-others n k h other ne =
    let e : bit_at (bit_or n (1 * 2 ^ k % 2 ^ 64)) other ≡ bit_at n other = bit_at_set_other w64 n k h other ne in
    (λ a. sym e ∙ a, λ a. e ∙ a)

-- a number with no bit from 63 on
pub inserted-small : (n k : ℕ) → n < 2 ^ 63 → k < 63 → bit_or n (1 * 2 ^ k % 2 ^ 64) < 2 ^ 63
inserted-small n k small h =
    let below_64 : k < 64 = omega arith in
    let power : 2 ^ k < 2 ^ 63 = pow-lt {i = k} {j = 63} h in
    rw (one_shl k 64 below_64) (or_lt 63 n (2 ^ k) small power)

-- ---- a node taken out

pub removed-gone : (n k : ℕ) → k < 64 → Holds (bit_and n (bit_not w64 (1 * 2 ^ k % 2 ^ 64))) k → ⊥
removed-gone n k h a = let z = bit_at_clear_same w64 n k h in omega arith

pub removed-others : (n k : ℕ) → n < 2 ^ 64 → k < 64 → (other : ℕ) → other ≢ k →
    (Holds (bit_and n (bit_not w64 (1 * 2 ^ k % 2 ^ 64))) other) ↔ Holds n other
removed-others n k small h other ne = elim (cases_lt other 64) [
  | inl less ↦
      let e : bit_at (bit_and n (bit_not w64 (1 * 2 ^ k % 2 ^ 64))) other ≡ bit_at n other = bit_at_clear_other w64 n k h other less ne in
      (λ a. sym e ∙ a, λ a. e ∙ a)
  | inr more ↦
      let z : bit_at n other ≡ 0 = bit_at_above n 64 other small more in
      let y : bit_at (bit_and n (bit_not w64 (1 * 2 ^ k % 2 ^ 64))) other ≡ 0 = bit_at_above (bit_and n (bit_not w64 (1 * 2 ^ k % 2 ^ 64))) 64 other (omega (arith, and_le_l n (bit_not w64 (1 * 2 ^ k % 2 ^ 64)))) more in
      (λ a. absurd (omega arith), λ a. absurd (omega arith))
]

pub removed-small : (n m : ℕ) → n < 2 ^ 63 → bit_and n m < 2 ^ 63
removed-small n m small = omega (arith, and_le_l n m)

pub removed : (n k : ℕ) → n < 2 ^ 64 → k < 64 → Holds n k →
    bit_and n (bit_not w64 (1 * 2 ^ k % 2 ^ 64)) + 2 ^ k ≡ n
removed n k small h has =
    let power : 2 ^ k < 2 ^ 64 = pow-lt {i = k} {j = 64} h in
    let parted : bit_and (2 ^ 64 - 1 - 2 ^ k) n + bit_and (2 ^ k) n ≡ n = and-not 64 (2 ^ k) n power small in
    let one : bit_and n (2 ^ k) ≡ 2 ^ k = rw (and_pow n k, has) (omega arith) in
    rw (one_shl k 64 h) (omega (arith, parted, one, and_comm n (2 ^ k), and_comm n (2 ^ 64 - 1 - 2 ^ k)))

-- a set without one of its nodes is less
pub removed-less : (n k : ℕ) → n < 2 ^ 64 → k < 64 → Holds n k →
    bit_and n (bit_not w64 (1 * 2 ^ k % 2 ^ 64)) < n
removed-less n k small h has = omega (arith, removed n k small h has, pow_pos k)

-- ---- the first nodes

pub first-nodes : (n k : ℕ) → n < 64 → Holds (1 * 2 ^ n % 2 ^ 64 - 1) k ↔ k < n
first-nodes n k small = rw (one_shl n 64 small) (
  λ h. elim (cases_lt k n) [
    | inl less ↦ less
    | inr more ↦ let z = bit_at_ones_above n k more in absurd (omega (arith, z, h))
  ],
  λ less. bit_at_ones n k less,
)

-- ---- two sets

-- a bit that isn't 0 is 1
one_bit : (n k : ℕ) → 0 < bit_at n k → Holds n k
one_bit n k h = omega (arith, bit_at-lt n k)

pub in_union : (a b k : ℕ) → Holds (bit_or a b) k ↔ (Holds a k ⊎ Holds b k)
in_union a b k = (
  λ h. elim (cases_lt 0 (bit_at a k)) [
    | inl some ↦ inl (one_bit a k some)
    | inr none ↦ inr (one_bit b k (omega (arith, bit_at_or a b k)))
  ],
  λ h. elim h [
    | inl x ↦ one_bit (bit_or a b) k (omega (arith, bit_at_or a b k))
    | inr x ↦ one_bit (bit_or a b) k (omega (arith, bit_at_or a b k))
  ],
)

pub union-small : (a b : ℕ) → a < 2 ^ 63 → b < 2 ^ 63 → bit_or a b < 2 ^ 63
union-small a b p q = or_lt 63 a b p q

pub in_both : (a b k : ℕ) → Holds (bit_and a b) k ↔ (Holds a k × Holds b k)
in_both a b k = (
  λ h. (one_bit a k (omega (arith, bit_at_and a b k)), one_bit b k (omega (arith, bit_at_and a b k))),
  λ (x, y). one_bit (bit_and a b) k (omega (arith, bit_at_and a b k)),
)

pub in_first : (a b k : ℕ) → a < 2 ^ 63 → b < 2 ^ 63 →
    Holds (bit_and a (bit_not w64 b)) k ↔ (Holds a k × (Holds b k → ⊥))
in_first a b k p q = (
  λ h.
      let x : Holds a k = one_bit a k (omega (arith, bit_at_and a (bit_not w64 b) k)) in
      let not_b : bit_at (bit_not w64 b) k ≡ 1 - bit_at b k = bit_at_not w64 b k (omega arith) (omega (arith, below a k p x)) in
      (x, λ y. omega (arith, bit_at_and a (bit_not w64 b) k, not_b)),
  λ (x, y).
      let not_b : bit_at (bit_not w64 b) k ≡ 1 - bit_at b k = bit_at_not w64 b k (omega arith) (omega (arith, below a k p x)) in
      one_bit (bit_and a (bit_not w64 b)) k (omega (arith, bit_at_and a (bit_not w64 b) k, not_b, clear_bit b k y)),
)

-- ---- a set that grows or shrinks does so as a number

pub more_than : (old new k : ℕ) → new < 2 ^ 63 → new ≡ old + 2 ^ k → 2 ^ 63 - new < 2 ^ 63 - old
more_than old new k small e = let one : 0 < 2 ^ k = pow_pos k in omega arith

pub fewer : (old new k : ℕ) → new + 2 ^ k ≡ old → new < old
fewer old new k e = let one : 0 < 2 ^ k = pow_pos k in omega arith

-- ---- sets of small numbers

-- a number all of whose bits are below k is below 2 ^ k
pub small-set : (set k : ℕ) → ((i : ℕ) → Holds set i → i < k) → set < 2 ^ k
small-set set k within =
    let same : set ≡ bit_and set (2 ^ k - 1) = same_from_bits set (bit_and set (2 ^ k - 1)) (λ i. bits i) in
    omega (arith, same, and_le_r set (2 ^ k - 1), pow_pos k)
  where
    bits : (i : ℕ) → bit_at set i ≡ bit_at (bit_and set (2 ^ k - 1)) i
    bits i = elim (cases_lt i k) [
      | inl less ↦ sym (bit_at_and set (2 ^ k - 1) i ∙ rw (bit_at_ones k i less) (omega (arith, bit_at-lt set i)))
      | inr more ↦
          let none : bit_at set i ≡ 0 = clear_bit set i (λ h. omega (arith, within i h, more)) in
          none ∙ sym (bit_at_and set (2 ^ k - 1) i ∙ rw (none) (omega arith))
    ]
