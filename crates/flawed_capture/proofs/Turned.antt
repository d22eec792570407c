-- A capture with another byte has a bad pair.
use Rattle.std.proofs.Common.{◌≡◌, ◌≢◌, ℕ, zero, suc, ◌+◌, ◌*◌, ◌^◌, ◌<◌, Bool, true, false, cond, Some, List, [], ◌∷◌, ◌++◌, length, get_or, set, refl, sym, ◌∙◌, ap, subst, arith, w32, eqb-true}
use Rattle.std.specs.Prelude.{◌==◌, not, All}
use Rattle.std.specs.Int.{to_be_bytes, byte_at}
use Rattle.std.specs.List.{AllByRecursion, position_from}
use Rattle.std.proofs.lemmas.Iterator.Adapters.{position_from-zero}
use Rattle.std.proofs.lemmas.List.{length-set}
use Rattle.std.proofs.lemmas.List.Elements.{recursion_from_All}
use Rattle.quad_lanes.specs.Capture.{capture, CapturesAreWhole}
use Rattle.quad_lanes.specs.Pairs.{big_endian, first_bad_pair, inverse, is_bad, pairs, quads_of}
use Rattle.quad_lanes.proofs.Lemmas.{big_endian-bytes}
use Rattle.self_id.specs.declared.standard.Standard.{Standard}
use Rattle.capture_reading.specs.declared.fault.CaptureFault.TheVariants.{BadInverse as BadPair}
use Rattle.flawed_capture.specs.declared.flaw.Flaw.TheVariants.{BadInverse}
use Rattle.flawed_capture.specs.Flaw.{HasFlaw}

-- ---- a pair

-- from the pair with this number on there is a bad one
abbrev IsBroken : ℕ → List ℕ → Type 0
IsBroken k bytes = (pair : ℕ) × (position_from is_bad k (pairs (quads_of bytes)) ≡ Some pair)

first_other : (q a b c d : ℕ) → q < 2 ^ 32 → a < 256 → b < 256 → c < 256 → d < 256 → big_endian a b c d ≢ q →
    is_bad (big_endian a b c d, inverse q) ≡ true
first_other q a b c d fits la lb lc ld other = go (inverse q == inverse (big_endian a b c d)) refl
  where
    go : (x : Bool) → (inverse q == inverse (big_endian a b c d)) ≡ x → not x ≡ true
    go true e =
        let same = eqb-true (inverse q) (inverse (big_endian a b c d)) e in
        absurd (other (omega (arith, same, fits, la, lb, lc, ld)))
    go false e = refl

second_other : (q a b c d : ℕ) → big_endian a b c d ≢ inverse q → is_bad (q, big_endian a b c d) ≡ true
second_other q a b c d other = go (big_endian a b c d == inverse q) refl
  where
    go : (x : Bool) → (big_endian a b c d == inverse q) ≡ x → not x ≡ true
    go true e = absurd (other (eqb-true (big_endian a b c d) (inverse q) e))
    go false e = refl

front : (k q a b c d : ℕ) (l : List ℕ) → q < 2 ^ 32 → a < 256 → b < 256 → c < 256 → d < 256 →
    big_endian a b c d ≢ q → IsBroken k (a ∷ b ∷ c ∷ d ∷ (to_be_bytes w32 (inverse q) ++ capture l))
front k q a b c d l fits la lb lc ld other =
    let second = big_endian-bytes (inverse q) (omega arith) in
    let bad = ap (λ (y : ℕ). is_bad (big_endian a b c d, y)) second ∙ first_other q a b c d fits la lb lc ld other in
    (k, ap (λ (x : Bool). cond x (Some k) (position_from is_bad (k + 1) (pairs (quads_of (capture l))))) bad)

back : (k q a b c d : ℕ) (l : List ℕ) → q < 2 ^ 32 → big_endian a b c d ≢ inverse q →
    IsBroken k (to_be_bytes w32 q ++ (a ∷ b ∷ c ∷ d ∷ capture l))
back k q a b c d l fits other =
    let first = big_endian-bytes q fits in
    let bad = ap (λ (y : ℕ). is_bad (y, big_endian a b c d)) first ∙ second_other q a b c d other in
    (k, ap (λ (x : Bool). cond x (Some k) (position_from is_bad (k + 1) (pairs (quads_of (capture l))))) bad)

-- one byte of a quadlet is another where three are the same
byte_3 : (q x a b c d : ℕ) → big_endian a b c d ≡ q → big_endian x b c d ≡ q → x ≡ a
byte_3 q x a b c d e f = omega (arith, e, f)

byte_2 : (q x a b c d : ℕ) → big_endian a b c d ≡ q → big_endian a x c d ≡ q → x ≡ b
byte_2 q x a b c d e f = omega (arith, e, f)

byte_1 : (q x a b c d : ℕ) → big_endian a b c d ≡ q → big_endian a b x d ≡ q → x ≡ c
byte_1 q x a b c d e f = omega (arith, e, f)

byte_0 : (q x a b c d : ℕ) → big_endian a b c d ≡ q → big_endian a b c x ≡ q → x ≡ d
byte_0 q x a b c d e f = omega (arith, e, f)

module _ (k q : ℕ) (l : List ℕ) (x d : ℕ) (fits : q < 2 ^ 32) (low : x < 256) where
  b3 : byte_at 3 q < 256
  b3 = omega arith

  b2 : byte_at 2 q < 256
  b2 = omega arith

  b1 : byte_at 1 q < 256
  b1 = omega arith

  b0 : byte_at 0 q < 256
  b0 = omega arith

  one : big_endian (byte_at 3 q) (byte_at 2 q) (byte_at 1 q) (byte_at 0 q) ≡ q
  one = big_endian-bytes q fits

  two : big_endian (byte_at 3 (inverse q)) (byte_at 2 (inverse q)) (byte_at 1 (inverse q)) (byte_at 0 (inverse q)) ≡ inverse q
  two = big_endian-bytes (inverse q) (omega arith)

  first_broken : (i : ℕ) → i < 8 → x ≢ get_or (capture (q ∷ l)) i d → IsBroken k (set (capture (q ∷ l)) i x)
  first_broken zero few other =
      front k q x (byte_at 2 q) (byte_at 1 q) (byte_at 0 q) l fits low b2 b1 b0 (λ e. other (byte_3 q x _ _ _ _ one e))
  first_broken (suc zero) few other =
      front k q (byte_at 3 q) x (byte_at 1 q) (byte_at 0 q) l fits b3 low b1 b0 (λ e. other (byte_2 q x _ _ _ _ one e))
  first_broken (suc (suc zero)) few other =
      front k q (byte_at 3 q) (byte_at 2 q) x (byte_at 0 q) l fits b3 b2 low b0 (λ e. other (byte_1 q x _ _ _ _ one e))
  first_broken (suc (suc (suc zero))) few other =
      front k q (byte_at 3 q) (byte_at 2 q) (byte_at 1 q) x l fits b3 b2 b1 low (λ e. other (byte_0 q x _ _ _ _ one e))
  first_broken (suc (suc (suc (suc zero)))) few other =
      back k q x (byte_at 2 (inverse q)) (byte_at 1 (inverse q)) (byte_at 0 (inverse q)) l fits
      (λ e. other (byte_3 (inverse q) x _ _ _ _ two e))
  first_broken (suc (suc (suc (suc (suc zero))))) few other =
      back k q (byte_at 3 (inverse q)) x (byte_at 1 (inverse q)) (byte_at 0 (inverse q)) l fits
      (λ e. other (byte_2 (inverse q) x _ _ _ _ two e))
  first_broken (suc (suc (suc (suc (suc (suc zero)))))) few other =
      back k q (byte_at 3 (inverse q)) (byte_at 2 (inverse q)) x (byte_at 0 (inverse q)) l fits
      (λ e. other (byte_1 (inverse q) x _ _ _ _ two e))
  first_broken (suc (suc (suc (suc (suc (suc (suc zero))))))) few other =
      back k q (byte_at 3 (inverse q)) (byte_at 2 (inverse q)) (byte_at 1 (inverse q)) x l fits
      (λ e. other (byte_0 (inverse q) x _ _ _ _ two e))
  first_broken (suc (suc (suc (suc (suc (suc (suc (suc i)))))))) few other = absurd (omega (arith, few))

-- ---- a capture

one_more : (k a b c d e f g h : ℕ) (bytes : List ℕ) → IsBroken (k + 1) bytes →
    IsBroken k (a ∷ b ∷ c ∷ d ∷ e ∷ f ∷ g ∷ h ∷ bytes)
one_more k a b c d e f g h bytes rest = go (is_bad (big_endian a b c d, big_endian e f g h)) refl
  where
    step : (x : Bool) → is_bad (big_endian a b c d, big_endian e f g h) ≡ x →
        position_from is_bad k (pairs (quads_of (a ∷ b ∷ c ∷ d ∷ e ∷ f ∷ g ∷ h ∷ bytes)))
        ≡ cond x (Some k) (position_from is_bad (k + 1) (pairs (quads_of bytes)))
    step x is = ap (λ (y : Bool). cond y (Some k) (position_from is_bad (k + 1) (pairs (quads_of bytes)))) is

    go : (x : Bool) → is_bad (big_endian a b c d, big_endian e f g h) ≡ x →
        IsBroken k (a ∷ b ∷ c ∷ d ∷ e ∷ f ∷ g ∷ h ∷ bytes)
    go true is = (k, step true is)
    go false is = (rest.0, step false is ∙ rest.1)

broken : (k : ℕ) (l : List ℕ) (at i x d : ℕ) → AllByRecursion (λ q. q < 2 ^ 32) l → at < length l → i < 8 → x < 256 →
    x ≢ get_or (capture l) (8 * at + i) d → IsBroken k (set (capture l) (8 * at + i) x)
broken k [] at i x d fit inside few low other = absurd (omega (arith, inside))
broken k (q ∷ l) zero i x d fit inside few low other =
    let place : 8 * 0 + i ≡ i = omega arith in
    subst (λ (j : ℕ). IsBroken k (set (capture (q ∷ l)) j x)) (sym place)
    (first_broken k q l x d fit.0 low i few (subst (λ (j : ℕ). x ≢ get_or (capture (q ∷ l)) j d) place other))
broken k (q ∷ l) (suc at) i x d fit inside few low other =
    let place : 8 * suc at + i ≡ suc (suc (suc (suc (suc (suc (suc (suc (8 * at + i)))))))) = omega arith in
    subst (λ (j : ℕ). IsBroken k (set (capture (q ∷ l)) j x)) (sym place)
    (one_more k (byte_at 3 q) (byte_at 2 q) (byte_at 1 q) (byte_at 0 q) (byte_at 3 (inverse q)) (byte_at 2 (inverse q)) (byte_at 1 (inverse q)) (byte_at 0 (inverse q)) (set (capture l) (8 * at + i) x)
    (broken (k + 1) l at i x d fit.1 (omega (arith, inside)) few low
    (subst (λ (j : ℕ). x ≢ get_or (capture (q ∷ l)) j d) place other)))

pub turned : (standard : Standard) (list : List ℕ) (at i x d : ℕ) (bytes : List ℕ) → CapturesAreWhole →
    All (λ q. q < 2 ^ 32) list → at < length list → i < 8 → x < 256 →
    x ≢ get_or (capture list) (8 * at + i) d → bytes ≡ set (capture list) (8 * at + i) x →
    HasFlaw standard bytes BadInverse
turned standard list at i x d bytes whole fit inside few low other is =
    let found = broken 0 list at i x d (recursion_from_All _ _ fit) inside few low other in
    let long : length bytes ≡ 8 * length list = ap length is ∙ length-set (capture list) (8 * at + i) x ∙ whole list in
    let first : first_bad_pair (quads_of bytes) ≡ Some found.0 =
    ap (λ (l : List ℕ). first_bad_pair (quads_of l)) is
    ∙ position_from-zero is_bad (pairs (quads_of (set (capture list) (8 * at + i) x))) ∙ found.1 in
    record { fault = BadPair found.0; refused = (omega (arith, long), first); kind = refl }
