-- Bits of a quadlet that are turned, set, or replaced.
use Rattle.std.proofs.Common.{◌≡◌, ◌≢◌, ℕ, zero, suc, Bool, true, false, ◌+◌, ◌-◌, ◌*◌, ◌/◌, ◌%◌, ◌^◌, ◌<◌, refl, sym, ◌∙◌, ap, arith}
use Rattle.std.specs.Prelude.{◌==◌, if◌then◌else◌}
use Rattle.std.proofs.lemmas.Bool.{eqb-true}
use Rattle.std.specs.Int.RustNames.{bit_and, bit_or, bit_xor}
use Rattle.std.specs.Int.{bit_at}
use Rattle.std.specs.Int.Bits.{or_zero_r, xor_zero_r}
use Rattle.std.proofs.Math.Nat.{mod-eq_of_lt}
use Rattle.std.proofs.lemmas.Nat.{and_shr, and_mod, and_mask, or_shr, or_mod, or_comm, or_shifted, or_lt, le_or_r, xor_shr, xor_mod, shr_split}
use Rattle.std.proofs.lemmas.Nat.Bits.{bit_at_xor, bit_at-zero, bit_at-lt, same_from_bits}
use Rattle.self_id.specs.declared.standard.Standard.{Standard}
use Rattle.flawed_capture.specs.Other.{with_slots, with_up, with_bits, has_five, without_cables}

-- ---- turned

-- some bits turned make another number
pub xor_moves : (a x : ℕ) → bit_xor a x ≡ a → x ≡ 0
xor_moves a x e = same_from_bits x 0 each
  where
    each : (i : ℕ) → bit_at x i ≡ bit_at 0 i
    each i =
        let moved = bit_at_xor a x i in
        let here : bit_at (bit_xor a x) i ≡ bit_at a i = ap (λ (n : ℕ). bit_at n i) e in
        small (bit_at a i) (bit_at x i) (bit_at-lt a i) (bit_at-lt x i) (sym moved ∙ here) ∙ sym (bit_at-zero i)
      where
        small : (p q : ℕ) → p < 2 → q < 2 → (p + q) % 2 ≡ p → q ≡ 0
        small p q low few f = omega (arith, low, few, f)

-- bits from one on are turned, so the number that they and those above are is another
pub turned_from : (k q x : ℕ) → 0 < x / 2 ^ k → bit_xor q x / 2 ^ k ≢ q / 2 ^ k
turned_from k q x some e =
    let none = xor_moves (q / 2 ^ k) (x / 2 ^ k) (sym (xor_shr q x k) ∙ e) in
    omega (arith, none, some)

-- bits below one are turned, so those above are the same
pub turned_below : (k q x : ℕ) → x / 2 ^ k ≡ 0 → bit_xor q x / 2 ^ k ≡ q / 2 ^ k
turned_below k q x none = xor_shr q x k ∙ ap (λ (y : ℕ). bit_xor (q / 2 ^ k) y) none ∙ xor_zero_r (q / 2 ^ k)

-- bits from one on are turned, so those below are the same
pub turned_above : (k q x : ℕ) → x % 2 ^ k ≡ 0 → bit_xor q x % 2 ^ k ≡ q % 2 ^ k
turned_above k q x none = xor_mod q x k ∙ ap (λ (y : ℕ). bit_xor (q % 2 ^ k) y) none ∙ xor_zero_r (q % 2 ^ k)

-- ---- set

-- so many bits are set
or_ones : (k a : ℕ) → a < 2 ^ k → 0 < 2 ^ k → bit_or a (2 ^ k - 1) ≡ 2 ^ k - 1
or_ones k a few some =
    let most = or_lt k a (2 ^ k - 1) few (omega (arith, some)) in
    let least = le_or_r a (2 ^ k - 1) in
    omega (arith, most, least)

pub last_set : (q : ℕ) → bit_or q 1 ≡ q / 2 * 2 + 1
last_set q =
    let x : ℕ = bit_or q 1 in
    let high : x / 2 ^ 1 ≡ q / 2 ^ 1 = or_shr q 1 1 ∙ or_zero_r (q / 2 ^ 1) in
    let low : x % 2 ^ 1 ≡ 1 = or_mod q 1 1 ∙ or_ones 1 (q % 2 ^ 1) (omega arith) (omega arith) in
    omega (arith, high, low, shr_split x 1)

-- the six bits above the last two
six_set : (q : ℕ) → bit_or q 252 ≡ q / 2 ^ 8 * 2 ^ 8 + (63 * 2 ^ 2 + q % 2 ^ 2)
six_set q =
    let x : ℕ = bit_or q 252 in
    let above : x / 2 ^ 8 ≡ q / 2 ^ 8 = or_shr q 252 8 ∙ or_zero_r (q / 2 ^ 8) in
    let below : x % 2 ^ 2 ≡ q % 2 ^ 2 = or_mod q 252 2 ∙ or_zero_r (q % 2 ^ 2) in
    let y : ℕ = x % 2 ^ 8 in
    let same : y ≡ bit_or (q % 2 ^ 8) 252 = or_mod q 252 8 in
    let within : y / 2 ^ 2 ≡ 63 = ap (λ (n : ℕ). n / 2 ^ 2) same ∙ or_shr (q % 2 ^ 8) 252 2 ∙ or_ones 6 (q % 2 ^ 8 / 2 ^ 2) (omega arith) (omega arith) in
    omega (arith, above, below, within)

-- ---- replaced

-- the bits from `low` up to `k` are replaced
replaced : (k low h q mask value v : ℕ) → mask / 2 ^ k ≡ 2 ^ h - 1 → mask % 2 ^ k ≡ 2 ^ low - 1 →
    value / 2 ^ k ≡ 0 → value % 2 ^ k ≡ v * 2 ^ low → q / 2 ^ k < 2 ^ h →
    q % 2 ^ k % 2 ^ low ≡ q % 2 ^ low → q % 2 ^ low < 2 ^ low →
    bit_or (bit_and q mask) value ≡ q / 2 ^ k * 2 ^ k + (v * 2 ^ low + q % 2 ^ low)
replaced k low h q mask value v mask_high mask_low value_high value_low few same small =
    let x : ℕ = bit_or (bit_and q mask) value in
    let kept_high : bit_and q mask / 2 ^ k ≡ q / 2 ^ k =
    and_shr q mask k ∙ ap (λ (n : ℕ). bit_and (q / 2 ^ k) n) mask_high ∙ and_mask (q / 2 ^ k) h ∙ mod-eq_of_lt few in
    let kept_low : bit_and q mask % 2 ^ k ≡ q % 2 ^ low =
    and_mod q mask k ∙ ap (λ (n : ℕ). bit_and (q % 2 ^ k) n) mask_low ∙ and_mask (q % 2 ^ k) low ∙ same in
    let high : x / 2 ^ k ≡ q / 2 ^ k =
    or_shr (bit_and q mask) value k ∙ ap (λ (n : ℕ). bit_or (bit_and q mask / 2 ^ k) n) value_high ∙ or_zero_r (bit_and q mask / 2 ^ k) ∙ kept_high in
    let all_low : x % 2 ^ k ≡ v * 2 ^ low + q % 2 ^ low =
    or_mod (bit_and q mask) value k ∙ ap (λ (n : ℕ). bit_or (bit_and q mask % 2 ^ k) n) value_low ∙ ap (λ (n : ℕ). bit_or n (v * 2 ^ low)) kept_low
    ∙ or_comm (q % 2 ^ low) (v * 2 ^ low) ∙ or_shifted v low (q % 2 ^ low) small in
    sym (shr_split x k) ∙ ap (λ (n : ℕ). n * 2 ^ k + x % 2 ^ k) high ∙ ap (λ (n : ℕ). q / 2 ^ k * 2 ^ k + n) all_low

-- each port field of packet zero as 10
pub parents_set : (q fields : ℕ) → q < 2 ^ 32 → fields ≡ 252 →
    bit_or (bit_and q (4294967295 - fields)) (bit_and 2863311530 fields) ≡ with_slots 42 q
parents_set q fields few is =
    ap (λ (f : ℕ). bit_or (bit_and q (4294967295 - f)) (bit_and 2863311530 f)) is
    ∙ replaced 8 2 24 q 4294967043 168 42 refl refl refl refl (omega arith) (omega arith) (omega arith)

-- or as 11
pub children_set : (q fields : ℕ) → fields ≡ 252 → bit_or q fields ≡ with_slots 63 q
children_set q fields is = ap (bit_or q) is ∙ six_set q

-- the last port field as 10
pub parent_at_two : (q : ℕ) → q < 2 ^ 32 → bit_or (bit_and q 4294967283) 8 ≡ with_up 2 q
parent_at_two q few = replaced 4 2 28 q 4294967283 8 2 refl refl refl refl (omega arith) (omega arith) (omega arith)

pub parent_at_eight : (q : ℕ) → q < 2 ^ 32 → bit_or (bit_and q 4294966527) 512 ≡ with_up 8 q
parent_at_eight q few = replaced 10 8 22 q 4294966527 512 2 refl refl refl refl (omega arith) (omega arith) (omega arith)

-- each port field as 01: of packet zero, of a packet of five, or of eight
bare_zero : (q fields : ℕ) → q < 2 ^ 32 → fields ≡ 252 →
    bit_or (bit_and q (4294967295 - fields)) (bit_and 1431655765 fields) ≡ with_bits 2 8 21 q
bare_zero q fields few is =
    ap (λ (f : ℕ). bit_or (bit_and q (4294967295 - f)) (bit_and 1431655765 f)) is
    ∙ replaced 8 2 24 q 4294967043 84 21 refl refl refl refl (omega arith) (omega arith) (omega arith)

bare_five : (q fields : ℕ) → q < 2 ^ 32 → fields ≡ 261888 →
    bit_or (bit_and q (4294967295 - fields)) (bit_and 1431655765 fields) ≡ with_bits 8 18 341 q
bare_five q fields few is =
    ap (λ (f : ℕ). bit_or (bit_and q (4294967295 - f)) (bit_and 1431655765 f)) is
    ∙ replaced 18 8 14 q 4294705407 87296 341 refl refl refl refl (omega arith) (omega arith) (omega arith)

bare_eight : (q fields : ℕ) → q < 2 ^ 32 → fields ≡ 262140 →
    bit_or (bit_and q (4294967295 - fields)) (bit_and 1431655765 fields) ≡ with_bits 2 18 21845 q
bare_eight q fields few is =
    ap (λ (f : ℕ). bit_or (bit_and q (4294967295 - f)) (bit_and 1431655765 f)) is
    ∙ replaced 18 2 14 q 4294705155 87380 21845 refl refl refl refl (omega arith) (omega arith) (omega arith)

bare_by : (q fields : ℕ) (zero five : Bool) → q < 2 ^ 32 → (zero ≡ true → fields ≡ 252) →
    (zero ≡ false → fields ≡ (if five then 261888 else 262140)) →
    bit_or (bit_and q (4294967295 - fields)) (bit_and 1431655765 fields)
    ≡ (if zero then with_bits 2 8 21 q else (if five then with_bits 8 18 341 q else with_bits 2 18 21845 q))
bare_by q fields true five few is next = bare_zero q fields few (is refl)
bare_by q fields false true few is next = bare_five q fields few (next refl)
bare_by q fields false false few is next = bare_eight q fields few (next refl)

one_bit : (n : ℕ) → n < 2 → (n == 0) ≡ false → n ≡ 1
one_bit zero few e = absurd cc
one_bit (suc zero) few e = refl
one_bit (suc (suc n)) few e = absurd (omega (arith, few))

pub bare : (standard : Standard) (q fields : ℕ) → q < 2 ^ 32 → (q / 2 ^ 23 % 2 ≡ 0 → fields ≡ 252) →
    (q / 2 ^ 23 % 2 ≡ 1 → fields ≡ (if has_five standard q then 261888 else 262140)) →
    bit_or (bit_and q (4294967295 - fields)) (bit_and 1431655765 fields) ≡ without_cables standard q
bare standard q fields few is next =
    bare_by q fields (q / 2 ^ 23 % 2 == 0) (has_five standard q) few (λ e. is (eqb-true (q / 2 ^ 23 % 2) 0 e))
    (λ e. next (one_bit (q / 2 ^ 23 % 2) (omega arith) e))
