-- What a grant and a release do, in the terms of channels.
use Rattle.std.proofs.Common.{◌≡◌, ◌≢◌, ℕ, ◌<◌, ◌≤◌, ◌+◌, ◌-◌, Bool, true, false, arith, refl, sym, ◌∙◌, nat_lt, eqb, None}
use Rattle.std.specs.Int.{bit_at}
use Rattle.std.proofs.lemmas.Bool.{ltb-true, ltb-false, eqb-true, eqb-false}
use Rattle.std.proofs.lemmas.Nat.Bits.{bit_at-lt}
use Rattle.resource_manager.specs.declared.grant.Seen.{Seen}
use Rattle.resource_manager.specs.Register.{Values}
use Rattle.resource_manager.specs.Channel.{place_of, seen_of, word_of, bit_of, without_bit, with_bit}
use Rattle.resource_manager.specs.Grant.{change_fault, allocate_fault, release_fault, with_bandwidth_and_word, after_allocation, after_release, Takes}
use Rattle.resource_manager.proofs.Bits.{without_bit-same, without_bit-other, with_bit-same, with_bit-other}

-- two channels of one register have two places
place-other : (c o : ℕ) → c < 64 → o < 64 → nat_lt c 32 ≡ nat_lt o 32 → o ≢ c →
    place_of o ≢ place_of c
place-other c o hc ho same other e = go (nat_lt c 32) refl
  where
    go : (b : Bool) → nat_lt c 32 ≡ b → ⊥
    go true t =
        let c_low : c < 32 = ltb-true c 32 t in
        let o_low : o < 32 = ltb-true o 32 (sym same ∙ t) in
        other (omega arith)
    go false t =
        let c_high : 32 ≤ c = ltb-false c 32 t in
        let o_high : 32 ≤ o = ltb-false o 32 (sym same ∙ t) in
        other (omega arith)

place-below : (c : ℕ) → place_of c < 32
place-below c = omega arith

-- the channel's bit is that of the new word
with_bandwidth_and_word-bit : (v : Values) (c x y : ℕ) →
    bit_of (seen_of (with_bandwidth_and_word v c x y)) c ≡ bit_at y (place_of c)
with_bandwidth_and_word-bit v c x y = go (nat_lt c 32) refl
  where
    go : (b : Bool) → nat_lt c 32 ≡ b → bit_of (seen_of (with_bandwidth_and_word v c x y)) c ≡ bit_at y (place_of c)
    go true e = rw e refl
    go false e = rw e refl

-- where the new word differs from the old one at the channel's place alone, no other channel's bit changes
with_bandwidth_and_word-others :
    (v : Values) (c x y : ℕ) → c < 64 →
    ((k : ℕ) → k < 32 → k ≢ place_of c → bit_at y k ≡ bit_at (word_of (seen_of v) c) k) →
    (o : ℕ) → o < 64 → o ≢ c → bit_of (seen_of (with_bandwidth_and_word v c x y)) o ≡ bit_of (seen_of v) o
with_bandwidth_and_word-others v c x y hc same o ho other = go (nat_lt c 32) (nat_lt o 32) refl refl
  where
    kept : nat_lt c 32 ≡ nat_lt o 32 → bit_at y (place_of o) ≡ bit_at (word_of (seen_of v) c) (place_of o)
    kept e = same (place_of o) (place-below o) (place-other c o hc ho e other)

    go : (b d : Bool) → nat_lt c 32 ≡ b → nat_lt o 32 ≡ d → bit_of (seen_of (with_bandwidth_and_word v c x y)) o ≡ bit_of (seen_of v) o
    go true true e f = rw (e, f) (rw e at (kept (e ∙ sym f)))
    go true false e f = rw (e, f) refl
    go false true e f = rw (e, f) refl
    go false false e f = rw (e, f) (rw e at (kept (e ∙ sym f)))

with_bandwidth_and_word-bandwidth : (v : Values) (c x y : ℕ) →
    (with_bandwidth_and_word v c x y).bandwidth_available ≡ x
with_bandwidth_and_word-bandwidth v c x y = go (nat_lt c 32) refl
  where
    go : (b : Bool) → nat_lt c 32 ≡ b → (with_bandwidth_and_word v c x y).bandwidth_available ≡ x
    go true e = rw e refl
    go false e = rw e refl

with_bandwidth_and_word-manager : (v : Values) (c x y : ℕ) →
    (with_bandwidth_and_word v c x y).bus_manager_id ≡ v.bus_manager_id
with_bandwidth_and_word-manager v c x y = go (nat_lt c 32) refl
  where
    go : (b : Bool) → nat_lt c 32 ≡ b → (with_bandwidth_and_word v c x y).bus_manager_id ≡ v.bus_manager_id
    go true e = rw e refl
    go false e = rw e refl

-- what was seen still holds of the bandwidth and of the channel's register
pub record IsCurrent (v : Values) (s : Seen) (c : ℕ) : Type 0 where
  pub bandwidth : v.bandwidth_available ≡ s.bandwidth
  pub word : word_of (seen_of v) c ≡ word_of s c

pub unchanged : (v : Values) (s : Seen) (c : ℕ) → change_fault v s c ≡ None → IsCurrent v s c
unchanged v s c h = go (eqb v.bandwidth_available s.bandwidth) (eqb (word_of (seen_of v) c) (word_of s c)) refl refl
  where
    go : (a b : Bool) → eqb v.bandwidth_available s.bandwidth ≡ a → eqb (word_of (seen_of v) c) (word_of s c) ≡ b → IsCurrent v s c
    go true true e f = record { bandwidth = eqb-true _ _ e; word = eqb-true _ _ f }
    go true false e f = let k = rw (e, f) at h in cc
    go false b e f = let k = rw e at h in cc

-- a grant that isn't refused takes the channel and the units
pub allocation_takes :
    (v : Values) (s : Seen) (c u : ℕ) → c ≤ 63 → allocate_fault v s c u ≡ None → Takes v (after_allocation v c u) c u
allocation_takes v s c u below h = go (eqb (bit_of s c) 0) (nat_lt s.bandwidth u) refl refl
  where
    free : eqb (bit_of s c) 0 ≡ false → IsCurrent v s c → bit_of (seen_of v) c ≡ 1
    free e same = rw same.word (omega (arith, bit_at-lt (word_of s c) (place_of c), eqb-false _ _ e))

    go : (a b : Bool) → eqb (bit_of s c) 0 ≡ a → nat_lt s.bandwidth u ≡ b → Takes v (after_allocation v c u) c u
    go true b e f = let k = rw e at h in cc
    go false true e f = let k = rw (e, f) at h in cc
    go false false e f =
        let same : IsCurrent v s c = unchanged v s c (rw (e, f) at h) in
        let enough : u ≤ s.bandwidth = ltb-false _ _ f in
        let old = word_of (seen_of v) c in
        let x = v.bandwidth_available - u in
        let y = without_bit old (place_of c) in
        record {
          was_free = free e same;
          is_held = with_bandwidth_and_word-bit v c x y ∙ without_bit-same old (place_of c) (place-below c);
          others = with_bandwidth_and_word-others v c x y (omega arith) (λ k low other. without_bit-other old (place_of c) k (place-below c) low other);
          bandwidth = omega (arith, with_bandwidth_and_word-bandwidth v c x y);
          manager = with_bandwidth_and_word-manager v c x y;
        }

-- a release that isn't refused is a grant backwards
pub release_takes_backwards :
    (v : Values) (s : Seen) (c u : ℕ) → c ≤ 63 → release_fault v s c u ≡ None → Takes (after_release v c u) v c u
release_takes_backwards v s c u below h =
    go (eqb (bit_of s c) 1) (nat_lt 4915 (s.bandwidth + u)) refl refl
  where
    held : eqb (bit_of s c) 1 ≡ false → IsCurrent v s c → bit_of (seen_of v) c ≡ 0
    held e same = rw same.word (omega (arith, bit_at-lt (word_of s c) (place_of c), eqb-false _ _ e))

    go : (a b : Bool) → eqb (bit_of s c) 1 ≡ a → nat_lt 4915 (s.bandwidth + u) ≡ b → Takes (after_release v c u) v c u
    go true b e f = let k = rw e at h in cc
    go false true e f = let k = rw (e, f) at h in cc
    go false false e f =
        let same : IsCurrent v s c = unchanged v s c (rw (e, f) at h) in
        let old = word_of (seen_of v) c in
        let x = v.bandwidth_available + u in
        let y = with_bit old (place_of c) in
        record {
          was_free = with_bandwidth_and_word-bit v c x y ∙ with_bit-same old (place_of c) (place-below c);
          is_held = held e same;
          others = λ o low other. sym (with_bandwidth_and_word-others v c x y (omega arith) (λ k _ apart. with_bit-other old (place_of c) k (place-below c) apart) o low other);
          bandwidth = sym (with_bandwidth_and_word-bandwidth v c x y);
          manager = sym (with_bandwidth_and_word-manager v c x y);
        }

-- a release that isn't refused leaves no more bandwidth than there is at first
pub release_within :
    (v : Values) (s : Seen) (c u : ℕ) → release_fault v s c u ≡ None → (after_release v c u).bandwidth_available ≤ 4915
release_within v s c u h = go (eqb (bit_of s c) 1) (nat_lt 4915 (s.bandwidth + u)) refl refl
  where
    go :
        (a b : Bool) → eqb (bit_of s c) 1 ≡ a → nat_lt 4915 (s.bandwidth + u) ≡ b →
        (after_release v c u).bandwidth_available ≤ 4915
    go true b e f = let k = rw e at h in cc
    go false true e f = let k = rw (e, f) at h in cc
    go false false e f =
        let same : IsCurrent v s c = unchanged v s c (rw (e, f) at h) in
        let bound : s.bandwidth + u ≤ 4915 = ltb-false _ _ f in
        let x = v.bandwidth_available + u in
        let y = with_bit (word_of (seen_of v) c) (place_of c) in
        omega (arith, with_bandwidth_and_word-bandwidth v c x y, same.bandwidth)
