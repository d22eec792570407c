-- Regular clocks stay regular, and even ones even; and where a clock stands some turns later.
use Rattle.std.proofs.Common.{◌≡◌, ℕ, zero, suc, ◌+◌, ◌≤◌, true, false, refl, ap, ◌∙◌, arith}
use Rattle.port_state.specs.Clock.{Clock, even, slow, every, is_even, misses, clock_after, clock_on, IsRegular, TicksFor}
use Rattle.port_state.specs.Machine.{PortNode}
use Rattle.port_state.specs.Idle.{after_ticks}

-- ---- regular clocks

pub regular-after : (c : Clock) → IsRegular c → IsRegular (clock_after c)
regular-after even h = tt
regular-after (slow k next) h = absurd h
regular-after (every gap zero) h = tt
regular-after (every gap (suc k)) h = tt

pub even-after : (c : Clock) → IsRegular c → is_even (clock_after c) ≡ is_even c
even-after even h = refl
even-after (slow k next) h = absurd h
even-after (every gap zero) h = refl
even-after (every gap (suc k)) h = refl

pub regular-on : (count : ℕ) (c : Clock) → IsRegular c → IsRegular (clock_on count c)
regular-on zero c h = h
regular-on (suc k) c h = regular-after (clock_on k c) (regular-on k c h)

pub even-on : (count : ℕ) (c : Clock) → IsRegular c → is_even (clock_on count c) ≡ is_even c
even-on zero c h = refl
even-on (suc k) c h = even-after (clock_on k c) (regular-on k c h) ∙ even-on k c h

pub still-even : (c : Clock) → is_even c ≡ true → is_even (clock_after c) ≡ true
still-even even h = refl
still-even (slow k next) h = absurd cc
still-even (every gap k) h = absurd cc

-- ---- some turns later

-- the clock goes on, whatever happens to its node
pub after-clock : (count : ℕ) (n : PortNode) → (after_ticks count n).clock ≡ clock_on count n.clock
after-clock zero n = refl
after-clock (suc k) n = ap clock_after (after-clock k n)

pub clock_on-more : (i j : ℕ) (c : Clock) → clock_on (i + j) c ≡ clock_on i (clock_on j c)
clock_on-more zero j c = let e : 0 + j ≡ j = omega arith in ap (λ k. clock_on k c) e
clock_on-more (suc i) j c =
    let e : suc i + j ≡ suc (i + j) = omega arith in
    ap (λ k. clock_on k c) e ∙ ap clock_after (clock_on-more i j c)

-- ---- turns that aren't missed

pub ticks-next : (count : ℕ) (c : Clock) → TicksFor (count + 1) c → misses c ≡ false
ticks-next count even h = refl
ticks-next count (slow zero next) h = absurd (omega (arith, h))
ticks-next count (slow (suc k) next) h = refl
ticks-next count (every gap zero) h = absurd (omega (arith, h))
ticks-next count (every gap (suc k)) h = refl

pub ticks-fewer : (n p : ℕ) (c : Clock) → n ≤ p → TicksFor p c → TicksFor n c
ticks-fewer n p even h t = tt
ticks-fewer n p (slow k next) h t = omega (arith, h, t)
ticks-fewer n p (every gap k) h t = omega (arith, h, t)

-- a turn later
pub ticks-later : (count : ℕ) (c : Clock) → TicksFor (suc count) c → TicksFor count (clock_after c)
ticks-later count even h = tt
ticks-later count (slow zero next) h = absurd (omega (arith, h))
ticks-later count (slow (suc k) next) h = omega (arith, h)
ticks-later count (every gap zero) h = absurd (omega (arith, h))
ticks-later count (every gap (suc k)) h = omega (arith, h)

pub ticks-none : (c : Clock) → TicksFor 0 c
ticks-none even = tt
ticks-none (slow k next) = omega arith
ticks-none (every gap k) = omega arith
