-- A node's clock that is slower than a turn says.
use Rattle.std.specs.Prelude.{ℕ, ◌+◌, ◌-◌, ◌*◌, ◌/◌, nat_lt, max, Option, None, Some, Result, Ok, Err, if◌then◌else◌}
use Rattle.port_state.specs.Clock.{Clock, every, most_turns}
use Rattle.port_state.specs.declared.timing.Timing.{Timing}
use Rattle.port_state.specs.declared.ranges.TimeRanges.{TimeRanges}
use Rattle.port_state.specs.declared.ranges.Misfit.{Misfit}
use Rattle.port_state.specs.declared.ranges.Misfit.TheVariants.{ShortForce}
use Rattle.port_state.specs.TimeRanges.{suitable}
use Rattle.script_lines.specs.declared.clock.TooSlow.{TooSlow}
use Rattle.script_lines.specs.declared.clock.TooSlow.TheVariants.{Often, Times}

-- in so many turns it ticks between two that it misses, where it is so many parts per million slower
abbrev pub gap_of : ℕ → ℕ
gap_of ppm = 1000000 / ppm

-- and in so many before the first: those before the turn that is said, or as many as between two
abbrev pub before_first : ℕ → Option ℕ → ℕ
before_first gap None = gap
before_first gap (Some turn) = turn - 1

abbrev pub clock_said : ℕ → Option ℕ → Clock
clock_said ppm first = every (gap_of ppm) (before_first (gap_of ppm) first)

-- ranges in which a node with these times fits though its clock misses turns: no time is shorter, and
-- none that it takes with the turns that it misses is longer than the longest
abbrev pub widened : TimeRanges → Timing → TimeRanges
widened r t = record r {
  most = record {
    hold = max r.most.hold (most_turns t.long t.hold);
    force = max r.most.force (most_turns t.long t.force);
    timeout = max r.most.timeout (most_turns t.long t.timeout);
    short = max r.most.short (t.short + 1);
    long = max r.most.long (t.long + 1);
  };
}

-- suitable ranges in which a forced node becomes root though clocks miss turns: then what a node tells
-- is seen after d + 1 turns
abbrev pub slow_suitable : ℕ → Result TimeRanges Misfit → Result TimeRanges TooSlow
slow_suitable d (Ok r) =
    if nat_lt (r.least.hold + r.least.force) (r.most.hold + 127 * (d + 1) + 1) then
    Err (Times ShortForce) else Ok r
slow_suitable d (Err misfit) = Err (Times misfit)

-- The ranges of a bus on which the clock of a node with these times ticks in `gap` turns between two
-- that it misses. There are none where these are fewer than its long wait, or where the widened ranges
-- don't suit.
abbrev pub slow_ranges : ℕ → TimeRanges → Timing → ℕ → Result TimeRanges TooSlow
slow_ranges d ranges t gap =
    if nat_lt gap t.long then Err Often
    else slow_suitable d (suitable d (widened ranges t))
