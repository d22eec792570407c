-- One bit of a register made 0 or 1.
use Rattle.std.proofs.Common.{◌≡◌, ◌≢◌, ℕ, ◌<◌}
use Rattle.std.specs.Int.{bit_at, w32}
use Rattle.std.proofs.lemmas.Nat.{one_shl}
use Rattle.std.proofs.lemmas.Nat.Bits.{bit_at_set_same, bit_at_set_other, bit_at_clear_same, bit_at_clear_other}
use Rattle.resource_manager.specs.Channel.{without_bit, with_bit}

pub without_bit-same : (n k : ℕ) → k < 32 → bit_at (without_bit n k) k ≡ 0
without_bit-same n k h = rw (one_shl k 32 h) at (bit_at_clear_same w32 n k h)

pub without_bit-other : (n k i : ℕ) → k < 32 → i < 32 → i ≢ k →
    bit_at (without_bit n k) i ≡ bit_at n i
without_bit-other n k i h below other = rw (one_shl k 32 h) at (bit_at_clear_other w32 n k h i below other)

pub with_bit-same : (n k : ℕ) → k < 32 → bit_at (with_bit n k) k ≡ 1
with_bit-same n k h = rw (one_shl k 32 h) at (bit_at_set_same w32 n k h)

pub with_bit-other : (n k i : ℕ) → k < 32 → i ≢ k → bit_at (with_bit n k) i ≡ bit_at n i
with_bit-other n k i h other = rw (one_shl k 32 h) at (bit_at_set_other w32 n k h i other)
