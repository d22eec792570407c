-- The words that a seed gives: those of PCG32 (XSH RR) from this state on, in its stream 54.
use Rattle.std.specs.Prelude.{ℕ, zero, suc}
use Rattle.rand_pcg.specs.Lcg.{Lcg, started, increment_of}
use Rattle.rand_pcg.specs.Pcg.{pcg32, multiplier_64}

unfoldable pub generator : ℕ → Lcg
generator seed = started 64 multiplier_64 seed (increment_of 64 54)

-- the next word, and the generator behind it
unfoldable pub word : Lcg → ℕ
word g = (pcg32 g).0

unfoldable pub behind : Lcg → Lcg
behind g = (pcg32 g).1

-- the generator behind so many words
abbrev pub behind_all : ℕ → Lcg → Lcg
behind_all zero g = g
behind_all (suc n) g = behind (behind_all n g)
