-- Sets of ports, bit by bit.
use Rattle.std.proofs.Common.{◌≡◌, ℕ, zero, suc, ◌+◌, ◌-◌, ◌*◌, ◌/◌, ◌%◌, ◌^◌, ◌≤◌, ◌<◌, inl, inr, Bool, true, false, not, ◌&&◌, ◌||◌, ◌==◌, ◌↔◌, nat_lt, IsTrue, refl, sym, ◌∙◌, ap, arith, eq-eqb, bit_and, bit_or}
use Rattle.std.specs.Int.{bit_at, bit_not, trailing_zeros, w16}
use Rattle.std.proofs.lemmas.Bool.{ne_eqb, eqb-true, lt-ltb, le-ltb, and_left, and_right, cases_lt, cases_eq}
use Rattle.std.proofs.lemmas.Nat.{one_shl, or_lt, shr_split, mod_below, pow_pos, shr_le}
use Rattle.std.proofs.lemmas.Nat.Bits.{bit_at-zero, bit_at-lt, bit_at-pow_same, bit_at-pow_other, same_from_bits_below, bit_at_cat_high, bit_at-trailing_zeros, bit_at_above}
use Rattle.std.proofs.Math.Bool.{and-true}
use Rattle.std.proofs.Math.Pow.{pow-lt}
use Rattle.port_state.specs.PortSet.{has_port}
use Rattle.port_state.specs.codings.PortWords.{has_bit}
use Rattle.port_state.proofs.WordBits.{has_bit-and, has_bit-or, has_bit-not}

has : (set k : ℕ) → k < 16 → bit_at set k ≡ 1 → has_port set k ≡ true
has set k less e = rw (lt-ltb k 16 less, e) refl

has-not : (set k : ℕ) → bit_at set k ≡ 0 → has_port set k ≡ false
has-not set k e = ap (λ x. nat_lt k 16 && x == 1) e ∙ and_right (nat_lt k 16) false refl

pub has-above : (set k : ℕ) → 16 ≤ k → has_port set k ≡ false
has-above set k more = and_left (nat_lt k 16) (bit_at set k == 1) (le-ltb k 16 more)

-- ---- two sets

each-or : (t x y : Bool) → (t && (x || y)) ≡ ((t && x) || (t && y))
each-or true x y = refl
each-or false x y = refl

each-and : (t x y : Bool) → (t && (x && y)) ≡ ((t && x) && (t && y))
each-and true x y = refl
each-and false x y = refl

pub in-union : (a b k : ℕ) → has_port (bit_or a b) k ≡ (has_port a k || has_port b k)
in-union a b k = ap (λ x. nat_lt k 16 && x) (has_bit-or a b k) ∙ each-or (nat_lt k 16) (has_bit a k) (has_bit b k)

pub in-both : (a b k : ℕ) → has_port (bit_and a b) k ≡ (has_port a k && has_port b k)
in-both a b k = ap (λ x. nat_lt k 16 && x) (has_bit-and a b k) ∙ each-and (nat_lt k 16) (has_bit a k) (has_bit b k)

in-rest :
    (b k : ℕ) → b < 2 ^ 16 → k < 16 → has_port (bit_not w16 b) k ≡ not (has_port b k)
in-rest b k small less = rw (lt-ltb k 16 less) (has_bit-not b k small less)

pub in-minus :
    (a b k : ℕ) → b < 2 ^ 16 →
    has_port (bit_and a (bit_not w16 b)) k ≡ (has_port a k && not (has_port b k))
in-minus a b k small = in-both a (bit_not w16 b) k ∙ elim (cases_lt k 16) [
  | inl less ↦ ap (λ x. has_port a k && x) (in-rest b k small less)
  | inr more ↦ rw (has-above a k more) refl
]

-- ---- one port

pub in-one : (port k : ℕ) → port < 16 → has_port (1 * 2 ^ port % 2 ^ 16) k ≡ (k == port)
in-one port k less = ap (λ n. has_port n k) (one_shl port 16 less) ∙ elim (cases_eq k port) [
  | inl e ↦ ap (λ j. has_port (2 ^ port) j) e ∙ has (2 ^ port) port less (bit_at-pow_same port) ∙ sym (eq-eqb k port e)
  | inr ne ↦ has-not (2 ^ port) k (bit_at-pow_other port k ne) ∙ sym (ne_eqb k port ne)
]

pub in-inserted :
    (n port k : ℕ) → port < 16 →
    has_port (bit_or n (1 * 2 ^ port % 2 ^ 16)) k ≡ (has_port n k || k == port && nat_lt port 16)
in-inserted n port k less =
    in-union n (1 * 2 ^ port % 2 ^ 16) k
    ∙ ap (λ x. has_port n k || x) (in-one port k less ∙ sym (ap (λ x. k == port && x) (lt-ltb port 16 less) ∙ and-true (k == port)))

one-small : (port : ℕ) → port < 16 → 1 * 2 ^ port % 2 ^ 16 < 2 ^ 16
one-small port less = rw (one_shl port 16 less) (pow-lt {i = port} {j = 16} less)

pub inserted-small :
    (n port : ℕ) → n < 2 ^ 16 → port < 16 → bit_or n (1 * 2 ^ port % 2 ^ 16) < 2 ^ 16
inserted-small n port small less = or_lt 16 n (1 * 2 ^ port % 2 ^ 16) small (one-small port less)

pub in-removed :
    (n port k : ℕ) → port < 16 →
    has_port (bit_and n (bit_not w16 (1 * 2 ^ port % 2 ^ 16))) k ≡ (has_port n k && not (k == port))
in-removed n port k less =
    in-minus n (1 * 2 ^ port % 2 ^ 16) k (one-small port less)
    ∙ ap (λ x. has_port n k && not x) (in-one port k less)

-- ---- no port

no-port : (n k : ℕ) → IsTrue (n == 0) → has_port n k ≡ false
no-port n k is = has-not n k (ap (λ m. bit_at m k) (eqb-true n 0 is) ∙ bit_at-zero k)

no-bit : (x : ℕ) → x < 2 → (x == 1) ≡ false → x ≡ 0
no-bit zero p e = refl
no-bit (suc zero) p e = cc
no-bit (suc (suc x)) p e = absurd (omega arith)

no-bits : (n : ℕ) → n < 2 ^ 16 → ((k : ℕ) → has_port n k ≡ false) → n ≡ 0
no-bits n small none = same_from_bits_below 16 n 0 small (omega arith) (λ k less.
    let free : (bit_at n k == 1) ≡ false = sym (ap (λ x. x && bit_at n k == 1) (lt-ltb k 16 less)) ∙ none k in
    no-bit (bit_at n k) (bit_at-lt n k) free ∙ sym (bit_at-zero k))

pub no-ports : (n : ℕ) → n < 2 ^ 16 → IsTrue (n == 0) ↔ ((k : ℕ) → has_port n k ≡ false)
no-ports n small = (λ is k. no-port n k is, λ none. eq-eqb n 0 (no-bits n small none))

-- ---- the ports from a number on

shifted : (n p i : ℕ) → bit_at (n / 2 ^ p) i ≡ bit_at n (p + i)
shifted n p i =
    let back : p + i - p ≡ i = omega arith in
    sym (ap (λ m. bit_at m (p + i)) (sym (shr_split n p)) ∙ bit_at_cat_high (n / 2 ^ p) p (n % 2 ^ p) (p + i) (mod_below n (2 ^ p) (pow_pos p)) (omega arith) ∙ ap (bit_at (n / 2 ^ p)) back)

-- a bit of the number without its lowest p bits
later-port : (n p k : ℕ) → p ≤ k → bit_at (n / 2 ^ p) (k - p) ≡ 0 → has_port n k ≡ false
later-port n p k up e =
    let there : p + (k - p) ≡ k = omega (arith, up) in
    has-not n k (ap (bit_at n) (sym there) ∙ sym (shifted n p (k - p)) ∙ e)

pub none-from : (n p k : ℕ) → n / 2 ^ p ≡ 0 → p ≤ k → has_port n k ≡ false
none-from n p k none up = later-port n p k up (ap (λ m. bit_at m (k - p)) none ∙ bit_at-zero (k - p))

pub first-from :
    (n p : ℕ) → n < 2 ^ 16 → 0 < n / 2 ^ p →
    (has_port n (p + trailing_zeros w16 (n / 2 ^ p)) ≡ true)
    × ((k : ℕ) → p ≤ k → k < p + trailing_zeros w16 (n / 2 ^ p) → has_port n k ≡ false)
first-from n p small some =
    let left = n / 2 ^ p in
    let first = bit_at-trailing_zeros w16 left some (omega (arith, shr_le n p, small)) in
    let bit : bit_at n (p + trailing_zeros w16 left) ≡ 1 = sym (shifted n p (trailing_zeros w16 left)) ∙ first.1 in (
      elim (cases_lt (p + trailing_zeros w16 left) 16) [
        | inl less ↦ has n (p + trailing_zeros w16 left) less bit
        | inr more ↦ let z : bit_at n (p + trailing_zeros w16 left) ≡ 0 = bit_at_above n 16 _ small more in absurd (omega (arith, z, bit))
      ],
      λ k up below. later-port n p k up (first.2 (k - p) (omega (arith, up, below))),
    )
