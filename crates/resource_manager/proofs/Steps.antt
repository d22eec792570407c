-- What one call does to a channel and to the bandwidth.
use Rattle.std.proofs.Common.{◌≡◌, ◌≢◌, ℕ, ◌<◌, ◌≤◌, ◌+◌, Bool, true, false, Option, None, Some, eqb, nat_lt, arith, add-zero, refl, sym, ◌∙◌, ap, subst, inl, inr, ◌⊎◌}
use Rattle.std.specs.Prelude.{◌==◌, if◌then◌else◌}
use Rattle.std.specs.Int.{bit_at}
use Rattle.std.proofs.lemmas.Bool.{eqb-true, eqb-false}
use Rattle.std.proofs.lemmas.Nat.Bits.{bit_at-lt, bit_at_ones}
use Rattle.resource_manager.specs.declared.register.Register.{Register}
use Rattle.resource_manager.specs.declared.register.Register.TheVariants.{BusManagerId, BandwidthAvailable, ChannelsAvailableHi, ChannelsAvailableLo}
use Rattle.resource_manager.specs.declared.access.Access.{Access}
use Rattle.resource_manager.specs.declared.access.Access.TheVariants.{Read, Write, Lock, Reset, Look, Allocate, Release}
use Rattle.resource_manager.specs.declared.access.Answer.{Answer}
use Rattle.resource_manager.specs.declared.access.Answer.TheVariants.{Replied, Done}
use Rattle.resource_manager.specs.declared.grant.Seen.{Seen}
use Rattle.resource_manager.specs.declared.grant.GrantFault.{GrantFault}
use Rattle.resource_manager.specs.Register.{Values, initial_values, layout, with_value, cut}
use Rattle.resource_manager.specs.Channel.{place_of, register_of, seen_of, bit_of}
use Rattle.resource_manager.specs.Response.{lock_reply, after_lock}
use Rattle.resource_manager.specs.Grant.{allocate_fault, release_fault, after_allocation, after_release, Takes}
use Rattle.resource_manager.specs.Access.{IsPermitted, done_unless, unless, answer_of, after}
use Rattle.resource_manager.specs.Calls.{Grants, Frees, MovesChannels, IsByHand, grants_of, releases_of, units_granted, units_released}
use Rattle.resource_manager.proofs.Grants.{allocation_takes, release_takes_backwards, release_within}
use Rattle.resource_manager.proofs.Locks.{Swaps, lock_cases, lock_took, offset-register_at, after_swap-register, bit-with_value, bit-own}

-- a channel is granted only where it is free, and is held after it
pub record IsTaken (old new : Values) (c : ℕ) : Type 0 where
  pub channel : c < 64
  pub was_free : bit_of (seen_of old) c ≡ 1
  pub is_held : bit_of (seen_of new) c ≡ 0

taken : (old new : Values) (d c u : ℕ) → Takes old new d u → c < 64 → d ≡ c → IsTaken old new c
taken old new d c u t hc e = record {
  channel = hc;
  was_free = subst (λ (x : ℕ). bit_of (seen_of old) x ≡ 1) e t.was_free;
  is_held = subst (λ (x : ℕ). bit_of (seen_of new) x ≡ 0) e t.is_held;
}

pub granted : (v : Values) (a : Access) (c : ℕ) → IsPermitted a → Grants c a (answer_of v a) →
    IsTaken v (after v a) c
granted v (Allocate s d u) c p g = go (allocate_fault v s d u) refl g
  where
    go : (o : Option GrantFault) → allocate_fault v s d u ≡ o → grants_of c (Allocate s d u) (done_unless o) ≡ 1 →
        IsTaken v (unless o v (after_allocation v d u)) c
    go (Some f) e h = cc
    go None e h = same (eqb d c) refl h
      where
        same : (b : Bool) → eqb d c ≡ b → grants_of c (Allocate s d u) Done ≡ 1 → IsTaken v (after_allocation v d u) c
        same true t h = taken v (after_allocation v d u) d c u (allocation_takes v s d u p.0 e) (omega (arith, p.0, eqb-true d c t)) (eqb-true d c t)
        same false t h = let k = rw t at h in cc
granted v a c p g = cc

-- a held channel stays held over a call that doesn't free it
abbrev pub FreesOrHolds : ℕ → Access → Answer → Values → Type 0
FreesOrHolds c a r new = Frees c a r ⊎ (bit_of (seen_of new) c ≡ 0)

-- a bit that isn't 1 is 0
zero : (n k : ℕ) → eqb (bit_at n k) 1 ≡ false → bit_at n k ≡ 0
zero n k h = omega (arith, bit_at-lt n k, eqb-false _ _ h)

-- every channel is free at first
initially-free : (c : ℕ) → bit_of (seen_of initial_values) c ≡ 1
initially-free c = go (nat_lt c 32) refl
  where
    low : place_of c < 32
    low = omega arith

    go : (b : Bool) → nat_lt c 32 ≡ b → bit_of (seen_of initial_values) c ≡ 1
    go true e = rw e (bit_at_ones 32 (place_of c) low)
    go false e = rw e (bit_at_ones 32 (place_of c) low)

-- a swap of the channel's register to a value with the channel's bit 1
abbrev pub SwapsIn : ℕ → ℕ → ℕ → Type 0
SwapsIn c offset value = (offset ≡ (layout (register_of c)).offset) × (bit_at value (place_of c) ≡ 1)

swapped_in : (v : Values) (offset value c : ℕ) (r : Register) → offset ≡ (layout r).offset →
    bit_of (seen_of v) c ≡ 0 →
    SwapsIn c offset value ⊎ (bit_of (seen_of (with_value v r (cut r value))) c ≡ 0)
swapped_in v offset value c r place h = go (bit-with_value v (cut r value) c r)
  where
    Goal : Type 0
    Goal = SwapsIn c offset value ⊎ (bit_of (seen_of (with_value v r (cut r value))) c ≡ 0)

    go : (r ≡ register_of c) ⊎ (bit_of (seen_of (with_value v r (cut r value))) c ≡ bit_of (seen_of v) c) → Goal
    go (inr k) = inr (k ∙ h)
    go (inl q) = test (eqb (bit_at value (place_of c)) 1) refl
      where
        test : (b : Bool) → eqb (bit_at value (place_of c)) 1 ≡ b → Goal
        test true f = inl (place ∙ ap (λ (x : Register). (layout x).offset) q, eqb-true _ _ f)
        test false f = inr (bit-own v value c r q ∙ zero value (place_of c) f)

locked : (v : Values) (offset kind arg value c : ℕ) → c < 64 → bit_of (seen_of v) c ≡ 0 →
    FreesOrHolds c (Lock offset kind arg value) (Replied (lock_reply v offset kind)) (after_lock v offset kind arg value)
locked v offset kind arg value c hc h = go (lock_cases v offset kind arg value)
  where
    Goal : Type 0
    Goal = FreesOrHolds c (Lock offset kind arg value) (Replied (lock_reply v offset kind)) (after_lock v offset kind arg value)

    go : (after_lock v offset kind arg value ≡ v) ⊎ ((r : Register) × Swaps v offset kind arg value r) → Goal
    go (inl e) = inr (subst (λ (w : Values). bit_of (seen_of w) c ≡ 0) (sym e) h)
    go (inr (r, s)) = swap (swapped_in v offset value c r (offset-register_at offset r s.found) h)
      where
        swap : SwapsIn c offset value ⊎ (bit_of (seen_of (with_value v r (cut r value))) c ≡ 0) → Goal
        swap (inl i) = inl (i.0, s.replies, i.1)
        swap (inr k) = inr (subst (λ (w : Values). bit_of (seen_of w) c ≡ 0) (sym s.leaves) k)

pub freed : (v : Values) (a : Access) (c : ℕ) → c < 64 → IsPermitted a → bit_of (seen_of v) c ≡ 0 →
    FreesOrHolds c a (answer_of v a) (after v a)
freed v (Allocate s d u) c hc p h = go (allocate_fault v s d u) refl
  where
    go : (o : Option GrantFault) → allocate_fault v s d u ≡ o → FreesOrHolds c (Allocate s d u) (done_unless o) (unless o v (after_allocation v d u))
    go (Some f) e = inr h
    go None e = same (eqb d c) refl
      where
        t : Takes v (after_allocation v d u) d u
        t = allocation_takes v s d u p.0 e

        same : (b : Bool) → eqb d c ≡ b → FreesOrHolds c (Allocate s d u) Done (after_allocation v d u)
        same true q = inr (taken v (after_allocation v d u) d c u t hc (eqb-true d c q)).is_held
        same false q = inr (t.others c hc (λ (k : c ≡ d). eqb-false d c q (sym k)) ∙ h)
freed v (Release s d u) c hc p h = go (release_fault v s d u) refl
  where
    go : (o : Option GrantFault) → release_fault v s d u ≡ o → FreesOrHolds c (Release s d u) (done_unless o) (unless o v (after_release v d u))
    go (Some f) e = inr h
    go None e = same (eqb d c) refl
      where
        t : Takes (after_release v d u) v d u
        t = release_takes_backwards v s d u p.0 e

        same : (b : Bool) → eqb d c ≡ b → FreesOrHolds c (Release s d u) Done (after_release v d u)
        same true q = inl (eqb-true d c q)
        same false q = inr (sym (t.others c hc (λ (k : c ≡ d). eqb-false d c q (sym k))) ∙ h)
freed v (Lock offset kind arg value) c hc p h = locked v offset kind arg value c hc h
freed v Reset c hc p h = inl tt
freed v (Read offset) c hc p h = inr h
freed v (Write offset value) c hc p h = inr h
freed v Look c hc p h = inr h

-- a channel is free after a call that frees it
pub free_again : (v : Values) (a : Access) (c : ℕ) → c < 64 → IsPermitted a →
    Frees c a (answer_of v a) → bit_of (seen_of (after v a)) c ≡ 1
free_again v (Allocate s d u) c hc p f = go (allocate_fault v s d u) f
  where
    go : (o : Option GrantFault) → Frees c (Allocate s d u) (done_unless o) → bit_of (seen_of (unless o v (after_allocation v d u))) c ≡ 1
    go None h = absurd h
    go (Some fault) h = absurd h
free_again v (Release s d u) c hc p f = go (release_fault v s d u) refl f
  where
    go : (o : Option GrantFault) → release_fault v s d u ≡ o → Frees c (Release s d u) (done_unless o) →
        bit_of (seen_of (unless o v (after_release v d u))) c ≡ 1
    go (Some fault) e h = absurd h
    go None e h = (taken (after_release v d u) v d c u (release_takes_backwards v s d u p.0 e) hc h).was_free
free_again v (Lock offset kind arg value) c hc p f = go (lock_took v offset kind arg value f.1)
  where
    go : (r : Register) × Swaps v offset kind arg value r → bit_of (seen_of (after_lock v offset kind arg value)) c ≡ 1
    go (r, s) =
        let own : r ≡ register_of c = after_swap-register offset r (register_of c) s.found f.0 in
        ap (λ (w : Values). bit_of (seen_of w) c) s.leaves ∙ bit-own v value c r own ∙ f.2
free_again v Reset c hc p f = initially-free c
free_again v (Read offset) c hc p f = absurd f
free_again v (Write offset value) c hc p f = absurd f
free_again v Look c hc p f = absurd f

-- what one call does to the channels
pub moves_channels : (v : Values) (a : Access) → IsPermitted a →
    MovesChannels v (after v a) a (answer_of v a)
moves_channels v a p = record {
  granted = λ c g. let t : IsTaken v (after v a) c = granted v a c p g in (t.was_free, t.is_held);
  freed = λ c hc f. free_again v a c hc p f;
  held = λ c hc h. freed v a c hc p h;
}

-- one call conserves the bandwidth and each channel
pub record Keeps (old new : Values) (a : Access) (r : Answer) : Type 0 where
  pub bandwidth : new.bandwidth_available + units_granted a r ≡ old.bandwidth_available + units_released a r
  pub within : old.bandwidth_available ≤ 4915 → new.bandwidth_available ≤ 4915
  pub channels : (c : ℕ) → c < 64 →
      bit_of (seen_of new) c + grants_of c a r ≡ bit_of (seen_of old) c + releases_of c a r

-- a grant moves the channel's bit and no other
bits-grant : (old new : Values) (d u c : ℕ) → Takes old new d u → c < 64 →
    bit_of (seen_of new) c + (if d == c then 1 else 0) ≡ bit_of (seen_of old) c
bits-grant old new d u c t hc = go (eqb d c) refl
  where
    go : (b : Bool) → eqb d c ≡ b → bit_of (seen_of new) c + (if d == c then 1 else 0) ≡ bit_of (seen_of old) c
    go true e =
        let k : IsTaken old new c = taken old new d c u t hc (eqb-true d c e) in
        rw (e, k.was_free, k.is_held) refl
    go false e = rw e (rw (t.others c hc (λ (k : c ≡ d). eqb-false d c e (sym k))) (omega arith))

-- a lock that isn't by hand changes neither the bandwidth nor a channel
seen-swap : (v : Values) (offset value : ℕ) (r : Register) → offset ≡ (layout r).offset →
    ¬ (offset ≢ (layout BusManagerId).offset) → seen_of (with_value v r value) ≡ seen_of v
seen-swap v offset value BusManagerId place hand = refl
seen-swap v offset value BandwidthAvailable place hand = absurd (hand (λ (e : offset ≡ 0x21C). omega arith))
seen-swap v offset value ChannelsAvailableHi place hand = absurd (hand (λ (e : offset ≡ 0x21C). omega arith))
seen-swap v offset value ChannelsAvailableLo place hand = absurd (hand (λ (e : offset ≡ 0x21C). omega arith))

seen-lock : (v : Values) (offset kind arg value : ℕ) →
    ¬ IsByHand (Lock offset kind arg value) (Replied (lock_reply v offset kind)) →
    seen_of (after_lock v offset kind arg value) ≡ seen_of v
seen-lock v offset kind arg value hand = go (lock_cases v offset kind arg value)
  where
    go : (after_lock v offset kind arg value ≡ v) ⊎ ((r : Register) × Swaps v offset kind arg value r) →
        seen_of (after_lock v offset kind arg value) ≡ seen_of v
    go (inl e) = ap seen_of e
    go (inr (r, s)) =
        ap seen_of s.leaves ∙ seen-swap v offset (cut r value) r (offset-register_at offset r s.found) (λ (n : offset ≢ (layout BusManagerId).offset). hand (n, s.replies))

pub keeps : (v : Values) (a : Access) → IsPermitted a → ¬ IsByHand a (answer_of v a) →
    Keeps v (after v a) a (answer_of v a)
keeps v (Allocate s d u) p hand = go (allocate_fault v s d u) refl
  where
    go : (o : Option GrantFault) → allocate_fault v s d u ≡ o →
        Keeps v (unless o v (after_allocation v d u)) (Allocate s d u) (done_unless o)
    go (Some f) e = record { bandwidth = refl; within = λ h. h; channels = λ c hc. refl }
    go None e =
        let t : Takes v (after_allocation v d u) d u = allocation_takes v s d u p.0 e in
        record {
          within = λ h. omega (arith, t.bandwidth);
          bandwidth = t.bandwidth ∙ sym (add-zero v.bandwidth_available);
          channels = λ c hc. bits-grant v (after_allocation v d u) d u c t hc ∙ sym (add-zero (bit_of (seen_of v) c));
        }
keeps v (Release s d u) p hand = go (release_fault v s d u) refl
  where
    go : (o : Option GrantFault) → release_fault v s d u ≡ o →
        Keeps v (unless o v (after_release v d u)) (Release s d u) (done_unless o)
    go (Some f) e = record { bandwidth = refl; within = λ h. h; channels = λ c hc. refl }
    go None e =
        let t : Takes (after_release v d u) v d u = release_takes_backwards v s d u p.0 e in
        record {
          within = λ _. release_within v s d u e;
          bandwidth = add-zero (after_release v d u).bandwidth_available ∙ sym t.bandwidth;
          channels = λ c hc. add-zero (bit_of (seen_of (after_release v d u)) c) ∙ sym (bits-grant (after_release v d u) v d u c t hc);
        }
keeps v (Lock offset kind arg value) p hand =
    let e = seen-lock v offset kind arg value hand in
    record {
      bandwidth = ap (λ (s : Seen). s.bandwidth + 0) e;
      within = λ h. omega (arith, ap (λ (s : Seen). s.bandwidth) e);
      channels = λ c hc. ap (λ (s : Seen). bit_of s c + 0) e;
    }
keeps v Reset p hand = absurd (hand tt)
keeps v (Read offset) p hand = record { bandwidth = refl; within = λ h. h; channels = λ c hc. refl }
keeps v (Write offset value) p hand = record { bandwidth = refl; within = λ h. h; channels = λ c hc. refl }
keeps v Look p hand = record { bandwidth = refl; within = λ h. h; channels = λ c hc. refl }

-- the same, of what a call was found to leave and to answer
pub channels_moved :
    (v w : Values) (a : Access) (r : Answer) → IsPermitted a → r ≡ answer_of v a → w ≡ after v a → MovesChannels v w a r
channels_moved v w a r p e f = rw (e, f) (moves_channels v a p)
