-- Clocks, from one turn to the next.
use Rattle.std.proofs.Common.{◌≡◌, ℕ, zero, suc, true, arith}
use Rattle.port_state.specs.Clock.{Clock, even, slow, every, misses, clock_after, TicksFor, KeepsPace}

-- after a turn that is missed
pub ticks-missed : (p : ℕ) (c : Clock) → misses c ≡ true → KeepsPace p c → TicksFor p (clock_after c)
ticks-missed p even m h = absurd cc
ticks-missed p (slow zero next) m h = h.0
ticks-missed p (slow (suc k) next) m h = absurd cc
ticks-missed p (every gap zero) m h = h
ticks-missed p (every gap (suc k)) m h = absurd cc

pub misses-none : (n : ℕ) (c : Clock) → TicksFor (suc n) c → misses c ≡ true → ⊥
misses-none n even t m = cc
misses-none n (slow zero next) t m = omega (arith, t)
misses-none n (slow (suc k) next) t m = cc
misses-none n (every gap zero) t m = omega (arith, t)
misses-none n (every gap (suc k)) t m = cc
