-- The coins of a node, which it draws in root contention.
use Rattle.std.specs.Prelude.{◌≡◌, ℕ, zero, ◌<◌, suc, ◌+◌, ◌/◌, ◌%◌, ◌^◌, Bool, ◌==◌, if◌then◌else◌}
use Rattle.rand_pcg.specs.Lcg.{Lcg, started, increment_of}
use Rattle.rand_pcg.specs.Pcg.{pcg32, multiplier_64}

-- The lowest bits of a word, so many of them, over and over, from a place on; or the words of a
-- generator, PCG32.
pub data Coins : Type 0 where
  bits : ℕ → ℕ → ℕ → Coins
  words : Lcg → Coins

-- the next coin: the bit at the place, or the top bit of the next 32-bit word
abbrev pub coin : Coins → Bool
coin (bits word len place) = word / 2 ^ place % 2 == 1
coin (words g) = (pcg32 g).0 / 2 ^ 31 % 2 == 1

-- the coins after it
abbrev pub coins_after : Coins → Coins
coins_after (bits word len place) = bits word len (if place + 1 == len then 0 else place + 1)
coins_after (words g) = words (pcg32 g).1

-- coins from given bits, and from a seed (PCG32 on stream 54)
abbrev pub coins_of_bits : ℕ → ℕ → Coins
coins_of_bits word len = bits word len 0

abbrev pub coins_of_seed : ℕ → Coins
coins_of_seed seed = words (started 64 multiplier_64 seed (increment_of 64 54))

-- coin number k, from 0
abbrev pub coin_at : ℕ → Coins → Bool
coin_at zero c = coin c
coin_at (suc k) c = coin_at k (coins_after c)

-- coin number k of given bits is bit k modulo their number
abbrev pub CoinsRepeat : Type 0
CoinsRepeat =
    (word len k : ℕ) → 0 < len →
    coin_at k (coins_of_bits word len) ≡ (word / 2 ^ (k % len) % 2 == 1)
