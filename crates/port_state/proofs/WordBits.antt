-- The bits of a word of 16.
use Rattle.std.proofs.Common.{◌≡◌, ℕ, ◌-◌, ◌*◌, ◌%◌, ◌^◌, ◌<◌, ◌≤◌, Bool, true, false, not, ◌&&◌, ◌||◌, ◌==◌, refl, sym, ◌∙◌, ap, arith, bit_and, bit_or, inl, inr, if◌then◌else◌}
use Rattle.std.specs.Prelude.{◌⊎◌, bit_xor}
use Rattle.std.specs.Int.{bit_at, w16}
use Rattle.std.proofs.lemmas.Bool.{eqb-true, eqb-false, cases_lt}
use Rattle.std.proofs.lemmas.Nat.{or_lt, xor_lt, and_le_l, one_shl}
use Rattle.std.proofs.lemmas.Nat.Bits.{bit_at-lt, bit_at_and, bit_at_or, bit_at_xor, bit_at_not, bit_at_above, bit_at_set_same, bit_at_set_other, bit_at_clear_same, bit_at_clear_other}
use Rattle.std.proofs.Math.Bool.{or-true, or-false}
use Rattle.std.proofs.Math.Pow.{pow-lt}
use Rattle.port_state.specs.Ports.{is_idle, is_parent, asks, is_remaining, is_unnamed}
use Rattle.port_state.specs.Resetting.{is_calm}
use Rattle.port_state.specs.TreeIdentify.{adopt}
use Rattle.port_state.specs.declared.ports.PortView.{PortView}
use Rattle.port_state.specs.declared.port_words.Words.{Words}
use Rattle.port_state.specs.codings.PortWords.{has_bit, level_of_bits, port_at, is_restless, has_waiting_child}

-- ---- one bit set or cleared

pub has_bit-set :
    (word at k : ℕ) → at < 16 →
    has_bit (bit_or word (1 * 2 ^ at % 65536)) k ≡ (if k == at then true else has_bit word k)
has_bit-set word at k h = go (k == at) refl
  where
    go :
        (b : Bool) → (k == at) ≡ b →
        has_bit (bit_or word (1 * 2 ^ at % 65536)) k ≡ (if b then true else has_bit word k)
    go true e = rw (eqb-true k at e, bit_at_set_same w16 word at h) refl
    go false e = ap (λ n. n == 1) (bit_at_set_other w16 word at h k (eqb-false k at e))

has_bit-past : (word k : ℕ) → word < 65536 → 16 ≤ k → has_bit word k ≡ false
has_bit-past word k small far = rw (bit_at_above word 16 k small far) refl

pub has_bit-clear :
    (word at k : ℕ) → at < 16 → word < 65536 →
    has_bit (bit_and word (65535 - 1 * 2 ^ at % 65536)) k
    ≡ (if k == at then false else has_bit word k)
has_bit-clear word at k h small = go (k == at) refl (cases_lt k 16)
  where
    go :
        (b : Bool) → (k == at) ≡ b → (k < 16) ⊎ (16 ≤ k) →
        has_bit (bit_and word (65535 - 1 * 2 ^ at % 65536)) k
        ≡ (if b then false else has_bit word k)
    go true e near = rw (eqb-true k at e, bit_at_clear_same w16 word at h) refl
    go false e (inl near) = ap (λ n. n == 1) (bit_at_clear_other w16 word at h k near (eqb-false k at e))
    go false e (inr far) =
        let less = and_le_l word (65535 - 1 * 2 ^ at % 65536) in
        has_bit-past (bit_and word (65535 - 1 * 2 ^ at % 65536)) k (omega (arith, less)) far ∙ sym (has_bit-past word k small far)

pub set-fits :
    (word at count : ℕ) → at < 16 → at < count → word < 2 ^ count →
    bit_or word (1 * 2 ^ at % 65536) < 2 ^ count
set-fits word at count h l fits = rw (one_shl at 16 h) (or_lt count word (2 ^ at) fits (pow-lt l))

-- ---- words joined

bit-cases : (n : ℕ) → n < 2 → (n ≡ 0) ⊎ (n ≡ 1)
bit-cases n h = go (n == 0) refl
  where
    go : (b : Bool) → (n == 0) ≡ b → (n ≡ 0) ⊎ (n ≡ 1)
    go true e = inl (eqb-true n 0 e)
    go false e = inr (let ne = eqb-false n 0 e in omega arith)

pub has_bit-and : (a b k : ℕ) → has_bit (bit_and a b) k ≡ (has_bit a k && has_bit b k)
has_bit-and a b k = go (bit-cases (bit_at a k) (bit_at-lt a k)) (bit-cases (bit_at b k) (bit_at-lt b k))
  where
    go :
        (bit_at a k ≡ 0) ⊎ (bit_at a k ≡ 1) → (bit_at b k ≡ 0) ⊎ (bit_at b k ≡ 1) →
        has_bit (bit_and a b) k ≡ (has_bit a k && has_bit b k)
    go (inl e) (inl f) = rw (bit_at_and a b k, e, f) refl
    go (inl e) (inr f) = rw (bit_at_and a b k, e, f) refl
    go (inr e) (inl f) = rw (bit_at_and a b k, e, f) refl
    go (inr e) (inr f) = rw (bit_at_and a b k, e, f) refl

pub has_bit-or : (a b k : ℕ) → has_bit (bit_or a b) k ≡ (has_bit a k || has_bit b k)
has_bit-or a b k = go (bit-cases (bit_at a k) (bit_at-lt a k)) (bit-cases (bit_at b k) (bit_at-lt b k))
  where
    go :
        (bit_at a k ≡ 0) ⊎ (bit_at a k ≡ 1) → (bit_at b k ≡ 0) ⊎ (bit_at b k ≡ 1) →
        has_bit (bit_or a b) k ≡ (has_bit a k || has_bit b k)
    go (inl e) (inl f) = rw (bit_at_or a b k, e, f) refl
    go (inl e) (inr f) = rw (bit_at_or a b k, e, f) refl
    go (inr e) (inl f) = rw (bit_at_or a b k, e, f) refl
    go (inr e) (inr f) = rw (bit_at_or a b k, e, f) refl

pub has_bit-not : (a k : ℕ) → a < 65536 → k < 16 → has_bit (65535 - a) k ≡ not (has_bit a k)
has_bit-not a k h l = go (bit-cases (bit_at a k) (bit_at-lt a k))
  where
    go : (bit_at a k ≡ 0) ⊎ (bit_at a k ≡ 1) → has_bit (65535 - a) k ≡ not (has_bit a k)
    go (inl e) = rw (bit_at_not w16 a k h l, e) refl
    go (inr e) = rw (bit_at_not w16 a k h l, e) refl

-- a word without the bits of another
pub has_bit-without :
    (a b k : ℕ) → a < 65536 → b < 65536 →
    has_bit (bit_and a (65535 - b)) k ≡ (has_bit a k && not (has_bit b k))
has_bit-without a b k h l = has_bit-and a (65535 - b) k ∙ go (cases_lt k 16)
  where
    go :
        (k < 16) ⊎ (16 ≤ k) →
        (has_bit a k && has_bit (65535 - b) k) ≡ (has_bit a k && not (has_bit b k))
    go (inl near) = ap (λ c. has_bit a k && c) (has_bit-not b k l near)
    go (inr far) = rw (has_bit-past a k h far) refl

pub has_bit-xor :
    (a b k : ℕ) → has_bit (bit_xor a b) k ≡ (if has_bit a k then not (has_bit b k) else has_bit b k)
has_bit-xor a b k = go (bit-cases (bit_at a k) (bit_at-lt a k)) (bit-cases (bit_at b k) (bit_at-lt b k))
  where
    go :
        (bit_at a k ≡ 0) ⊎ (bit_at a k ≡ 1) → (bit_at b k ≡ 0) ⊎ (bit_at b k ≡ 1) →
        has_bit (bit_xor a b) k ≡ (if has_bit a k then not (has_bit b k) else has_bit b k)
    go (inl e) (inl f) = rw (bit_at_xor a b k, e, f) refl
    go (inl e) (inr f) = rw (bit_at_xor a b k, e, f) refl
    go (inr e) (inl f) = rw (bit_at_xor a b k, e, f) refl
    go (inr e) (inr f) = rw (bit_at_xor a b k, e, f) refl

-- ---- the words of tests of ports

restless_ports-bits :
    (c h l : Bool) → (c && not (if h then not l else l)) ≡ (c && not (is_calm (level_of_bits h l)))
restless_ports-bits c true true = refl
restless_ports-bits c true false = refl
restless_ports-bits c false true = refl
restless_ports-bits c false false = refl

pub has_bit-restless_ports :
    (w : Words) (k : ℕ) → w.connected < 65536 → w.high < 65536 → w.low < 65536 →
    has_bit (bit_and w.connected (65535 - bit_xor w.high w.low)) k ≡ is_restless (port_at w k)
has_bit-restless_ports w k c h l =
    has_bit-without w.connected (bit_xor w.high w.low) k c (xor_lt 16 w.high w.low h l)
    ∙ ap (λ b. has_bit w.connected k && not b) (has_bit-xor w.high w.low k)
    ∙ restless_ports-bits (has_bit w.connected k) (has_bit w.high k) (has_bit w.low k)

asking-bits : (c h l : Bool) → ((c && h) && not l) ≡ (c && is_parent (level_of_bits h l))
asking-bits true true true = refl
asking-bits true true false = refl
asking-bits true false true = refl
asking-bits true false false = refl
asking-bits false h l = refl

pub has_bit-asking : (w : Words) (k : ℕ) → w.connected < 65536 → w.low < 65536
    → has_bit (bit_and (bit_and w.connected w.high) (65535 - w.low)) k ≡ asks (port_at w k)
has_bit-asking w k c l =
    has_bit-without (bit_and w.connected w.high) w.low k (let less = and_le_l w.connected w.high in omega arith) l
    ∙ ap (λ b. b && not (has_bit w.low k)) (has_bit-and w.connected w.high k)
    ∙ asking-bits (has_bit w.connected k) (has_bit w.high k) (has_bit w.low k)

remaining-bits : (c h l : Bool) → (c && not (h && not l)) ≡ (c && not (is_parent (level_of_bits h l)))
remaining-bits true true true = refl
remaining-bits true true false = refl
remaining-bits true false true = refl
remaining-bits true false false = refl
remaining-bits false h l = refl

pub has_bit-remaining :
    (w : Words) (k : ℕ) → w.connected < 65536 → w.high < 65536 → w.low < 65536 →
    has_bit (bit_and w.connected (65535 - bit_and w.high (65535 - w.low))) k
    ≡ is_remaining (port_at w k)
has_bit-remaining w k c h l =
    has_bit-without w.connected (bit_and w.high (65535 - w.low)) k c (let less = and_le_l w.high (65535 - w.low) in omega arith)
    ∙ ap (λ b. has_bit w.connected k && not b) (has_bit-without w.high w.low k h l)
    ∙ remaining-bits (has_bit w.connected k) (has_bit w.high k) (has_bit w.low k)

waiting-bits :
    (c d h l : Bool) →
    ((c && d) && not (l && not h)) ≡ (c && (d && not (is_idle (level_of_bits h l))))
waiting-bits true d true true = refl
waiting-bits true d true false = refl
waiting-bits true d false true = refl
waiting-bits true d false false = refl
waiting-bits false d h l = refl

pub has_bit-waiting :
    (w : Words) (k : ℕ) → w.connected < 65536 → w.high < 65536 → w.low < 65536 →
    has_bit (bit_and (bit_and w.connected w.child) (65535 - bit_and w.low (65535 - w.high))) k
    ≡ has_waiting_child (port_at w k)
has_bit-waiting w k c h l =
    has_bit-without (bit_and w.connected w.child) (bit_and w.low (65535 - w.high)) k
    (let less = and_le_l w.connected w.child in omega arith) (let less = and_le_l w.low (65535 - w.high) in omega arith)
    ∙ ap (λ b. b && not (has_bit (bit_and w.low (65535 - w.high)) k)) (has_bit-and w.connected w.child k)
    ∙ ap (λ b. (has_bit w.connected k && has_bit w.child k) && not b) (has_bit-without w.low w.high k l h)
    ∙ waiting-bits (has_bit w.connected k) (has_bit w.child k) (has_bit w.high k) (has_bit w.low k)

unnamed-bits : (c d n : Bool) → ((c && d) && not n) ≡ (c && (d && not n))
unnamed-bits true d n = refl
unnamed-bits false d n = refl

pub has_bit-unnamed : (w : Words) (k : ℕ) → w.connected < 65536 → w.named < 65536
    → has_bit (bit_and (bit_and w.connected w.child) (65535 - w.named)) k ≡ is_unnamed (port_at w k)
has_bit-unnamed w k c n =
    has_bit-without (bit_and w.connected w.child) w.named k (let less = and_le_l w.connected w.child in omega arith) n
    ∙ ap (λ b. b && not (has_bit w.named k)) (has_bit-and w.connected w.child k)
    ∙ unnamed-bits (has_bit w.connected k) (has_bit w.child k) (has_bit w.named k)

-- ---- ports adopted

pub adopted-port :
    (w : Words) (asking k : ℕ) → has_bit asking k ≡ asks (port_at w k) →
    port_at (record w { child = bit_or w.child asking }) k ≡ adopt (port_at w k)
adopted-port w asking k e =
    ap (λ b. record (port_at w k) { child = b }) (has_bit-or w.child asking k ∙ ap (λ b. has_bit w.child k || b) e)
    ∙ go (asks (port_at w k))
  where
    go :
        (b : Bool) →
        (let p : PortView = record (port_at w k) { child = has_bit w.child k || b } in p)
        ≡ (if b then record (port_at w k) { child = true } else port_at w k)
    go true = ap (λ b. record (port_at w k) { child = b }) (or-true (has_bit w.child k))
    go false = ap (λ b. record (port_at w k) { child = b }) (or-false (has_bit w.child k))
