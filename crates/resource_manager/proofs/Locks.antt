-- A lock changes nothing, or it swaps one register.
use Rattle.std.proofs.Common.{◌≡◌, ℕ, ◌<◌, ◌%◌, ◌^◌, ◌/◌, ◌*◌, ◌+◌, Bool, true, false, Option, None, Some, eqb, nat_lt, arith, refl, sym, ◌∙◌, ap, inl, inr, ◌⊎◌}
use Rattle.std.specs.Int.{bit_at}
use Rattle.std.proofs.lemmas.Bool.{eqb-true, eq-eqb}
use Rattle.std.proofs.lemmas.Bool.Decides.{nat_tests}
use Rattle.std.proofs.lemmas.Nat.Bits.{bit_at_cat_low}
use Rattle.resource_manager.specs.declared.register.Register.{Register}
use Rattle.resource_manager.specs.declared.register.Register.TheVariants.{BusManagerId, BandwidthAvailable, ChannelsAvailableHi, ChannelsAvailableLo}
use Rattle.resource_manager.specs.declared.registers.Reply.{Reply}
use Rattle.resource_manager.specs.Channel.{register_of, place_of, seen_of, bit_of}
use Rattle.resource_manager.specs.Register.{Values, layout, register_at, value_of, with_value, cut}
use Rattle.resource_manager.specs.Response.{complete, lock_reply, after_lock}

-- a register is found at its own offset
pub offset-register_at : (offset : ℕ) (r : Register) → register_at offset ≡ Some r →
    offset ≡ (layout r).offset
offset-register_at offset r h = grind (arith, nat_tests)

-- the low 32 bits are the bits of a number
pub bit-mod : (n k : ℕ) → k < 32 → bit_at (n % 2 ^ 32) k ≡ bit_at n k
bit-mod n k h =
    let whole : n ≡ n / 2 ^ 32 * 2 ^ 32 + n % 2 ^ 32 = omega arith in
    sym (bit_at_cat_low (n / 2 ^ 32) 32 (n % 2 ^ 32) k h) ∙ ap (λ m. bit_at m k) (sym whole)

-- each register is found at its own offset
pub register_at-offset : (r : Register) → register_at (layout r).offset ≡ Some r
register_at-offset BusManagerId = refl
register_at-offset BandwidthAvailable = refl
register_at-offset ChannelsAvailableHi = refl
register_at-offset ChannelsAvailableLo = refl

-- another word in a register leaves a channel's bit, unless it is the channel's register
pub bit-with_value : (v : Values) (word c : ℕ) (r : Register) →
    (r ≡ register_of c) ⊎ (bit_of (seen_of (with_value v r word)) c ≡ bit_of (seen_of v) c)
bit-with_value v word c BusManagerId = inr refl
bit-with_value v word c BandwidthAvailable = inr refl
bit-with_value v word c ChannelsAvailableHi = go (nat_lt c 32) refl
  where
    go : (b : Bool) → nat_lt c 32 ≡ b →
        (ChannelsAvailableHi ≡ register_of c) ⊎ (bit_of (seen_of (with_value v ChannelsAvailableHi word)) c ≡ bit_of (seen_of v) c)
    go true e = inl (rw e refl)
    go false e = inr (rw e refl)
bit-with_value v word c ChannelsAvailableLo = go (nat_lt c 32) refl
  where
    go : (b : Bool) → nat_lt c 32 ≡ b →
        (ChannelsAvailableLo ≡ register_of c) ⊎ (bit_of (seen_of (with_value v ChannelsAvailableLo word)) c ≡ bit_of (seen_of v) c)
    go true e = inr (rw e refl)
    go false e = inl (rw e refl)

-- a new value of the channel's register brings its own bit
pub bit-own : (v : Values) (value c : ℕ) (r : Register) → r ≡ register_of c →
    bit_of (seen_of (with_value v r (cut r value))) c ≡ bit_at value (place_of c)
bit-own v value c r q = rw q (go (nat_lt c 32) refl)
  where
    low : place_of c < 32
    low = omega arith

    go : (b : Bool) → nat_lt c 32 ≡ b →
        bit_of (seen_of (with_value v (register_of c) (cut (register_of c) value))) c ≡ bit_at value (place_of c)
    go true e = rw e (bit-mod value (place_of c) low)
    go false e = rw e (bit-mod value (place_of c) low)

-- the lock took effect: it found the argument, and left the new value
pub record Swaps (v : Values) (offset kind arg value : ℕ) (r : Register) : Type 0 where
  pub found : register_at offset ≡ Some r
  pub replies : lock_reply v offset kind ≡ complete arg
  pub leaves : after_lock v offset kind arg value ≡ with_value v r (cut r value)

swaps : (v : Values) (offset kind arg value : ℕ) (r : Register) → register_at offset ≡ Some r →
    eqb kind 2 ≡ true →
    value_of v r ≡ arg → Swaps v offset kind arg value r
swaps v offset kind arg value r e f g = record {
  found = e;
  replies = rw (e, f) (ap complete g);
  leaves = rw (e, f, eq-eqb (value_of v r) arg g) refl;
}

pub lock_cases :
    (v : Values) (offset kind arg value : ℕ) →
    (after_lock v offset kind arg value ≡ v) ⊎ ((r : Register) × Swaps v offset kind arg value r)
lock_cases v offset kind arg value = go (register_at offset) refl
  where
    swap :
        (r : Register) → register_at offset ≡ Some r → (a b : Bool) → eqb kind 2 ≡ a → eqb (value_of v r) arg ≡ b →
        (after_lock v offset kind arg value ≡ v) ⊎ ((r : Register) × Swaps v offset kind arg value r)
    swap r e false b f g = inl (rw (e, f) refl)
    swap r e true false f g = inl (rw (e, f, g) refl)
    swap r e true true f g = inr (r, swaps v offset kind arg value r e f (eqb-true _ _ g))

    go :
        (o : Option Register) → register_at offset ≡ o →
        (after_lock v offset kind arg value ≡ v) ⊎ ((r : Register) × Swaps v offset kind arg value r)
    go None e = inl (rw e refl)
    go (Some r) e = swap r e (eqb kind 2) (eqb (value_of v r) arg) refl refl

-- a lock that completes with its argument took effect
pub lock_took :
    (v : Values) (offset kind arg value : ℕ) → lock_reply v offset kind ≡ complete arg →
    (r : Register) × Swaps v offset kind arg value r
lock_took v offset kind arg value h = go (register_at offset) refl
  where
    took :
        (r : Register) → register_at offset ≡ Some r → (a : Bool) → eqb kind 2 ≡ a →
        (r : Register) × Swaps v offset kind arg value r
    took r e true f =
        let same = rw (e, f) at h in
        (r, swaps v offset kind arg value r e f (ap (λ (p : Reply). p.value) same))
    took r e false f =
        let same = rw (e, f) at h in
        absurd (omega (arith, ap (λ (p : Reply). p.rcode) same))

    go : (o : Option Register) → register_at offset ≡ o → (r : Register) × Swaps v offset kind arg value r
    go (Some r) e = took r e (eqb kind 2) refl
    go None e =
        let same = rw e at h in
        absurd (omega (arith, ap (λ (p : Reply). p.rcode) same))

-- the register that a lock swapped stands at the lock's offset
pub after_swap-register : (offset : ℕ) (r q : Register) → register_at offset ≡ Some r →
    offset ≡ (layout q).offset → r ≡ q
after_swap-register offset r q found place =
    let other : register_at (layout q).offset ≡ Some q = register_at-offset q in
    let this : register_at (layout q).offset ≡ Some r = rw (← place) found in
    cc
