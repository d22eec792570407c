-- The clock of a node. A turn is as long as a tick of the fastest clock; a slower one misses a turn
-- now and then.
use Rattle.std.specs.Prelude.{ℕ, zero, suc, ◌+◌, ◌/◌, ◌≤◌, Bool, true, false, if◌then◌else◌}

pub data Clock : Type 0 where
  -- misses no turn
  even : Clock
  -- ticks in so many turns, misses the next, and goes on as another clock
  slow : ℕ → Clock → Clock
  -- misses a turn again and again: it ticks in so many turns between two of these, and in so many
  -- before the next
  every : ℕ → ℕ → Clock

abbrev pub is_even : Clock → Bool
is_even even = true
is_even c = false

-- the next turn is missed
abbrev pub misses : Clock → Bool
misses (slow zero next) = true
misses (every gap zero) = true
misses c = false

-- the clock a turn later
abbrev pub clock_after : Clock → Clock
clock_after even = even
clock_after (slow zero next) = next
clock_after (slow (suc k) next) = slow k next
clock_after (every gap zero) = every gap gap
clock_after (every gap (suc k)) = every gap k

-- the clock so many turns later
abbrev pub clock_on : ℕ → Clock → Clock
clock_on zero c = c
clock_on (suc k) c = clock_after (clock_on k c)

-- in how many of the next so many turns it ticks
abbrev pub ticks_in : ℕ → Clock → ℕ
ticks_in zero c = 0
ticks_in (suc k) c = ticks_in k c + (if misses (clock_on k c) then 0 else 1)

-- a regular clock misses no turn, or turns again and again
abbrev pub IsRegular : Clock → Type 0
IsRegular even = Unit {0}
IsRegular (slow k next) = ⊥
IsRegular (every gap k) = Unit {0}

-- none of the next so many turns is missed
abbrev pub TicksFor : ℕ → Clock → Type 0
TicksFor count even = Unit {0}
TicksFor count (slow k next) = count ≤ k
TicksFor count (every gap k) = count ≤ k

-- between two turns that are missed so many at least aren't
abbrev pub KeepsPace : ℕ → Clock → Type 0
KeepsPace pace even = Unit {0}
KeepsPace pace (slow k next) = TicksFor pace next × KeepsPace pace next
KeepsPace pace (every gap k) = pace ≤ gap

-- in so many turns at most a clock that keeps a pace ticks so often
abbrev pub most_turns : ℕ → ℕ → ℕ
most_turns pace ticks = ticks + ticks / pace + 1
