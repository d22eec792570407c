-- The clock that a machine keeps.
use Rattle.std.specs.Prelude.{ℕ, zero, suc}
use Rattle.port_state.specs.Clock.{Clock, even, every, IsRegular}
use Rattle.phy_machine.specs.declared.clock.TickClock.{TickClock}

-- one that ticks so often between two turns that it misses, and so often before the next; even, where it
-- ticks never
abbrev pub clock_of : ℕ → ℕ → Clock
clock_of zero left = even
clock_of (suc gap) left = every (suc gap) left

abbrev pub clock_in : TickClock → Clock
clock_in c = clock_of c.gap c.left

pub regular_of : (gap left : ℕ) → IsRegular (clock_of gap left)
regular_of zero left = tt
regular_of (suc gap) left = tt
