-- The times of a node in the standards, in nanoseconds, as they are remembered: they weren't looked
-- up in a text. By name these are RESET_TIME, FORCE_ROOT_TIMEOUT, CONFIG_TIMEOUT, ROOT_CONTEND_FAST
-- and ROOT_CONTEND_SLOW.
use Rattle.std.specs.Prelude.{ℕ, ◌+◌, ◌-◌, ◌*◌, ◌/◌, ◌≤◌}
use Rattle.self_id.specs.declared.standard.Standard.{Standard}
use Rattle.self_id.specs.declared.standard.Standard.TheVariants.{Ieee1995, Ieee2000}
use Rattle.port_state.specs.declared.timing.Timing.{Timing}
use Rattle.port_state.specs.declared.ranges.TimeRanges.{TimeRanges}
use Rattle.port_state.specs.TimeRanges.{AreWithin, AreSuitable}

-- from the least to the greatest, where only the waits of a contention differ
abbrev pub nanoseconds : Standard → TimeRanges
nanoseconds Ieee1995 = record {
  least = record { hold = 166600; force = 83300; timeout = 166600; short = 240; long = 570 };
  most = record { hold = 166700; force = 166600; timeout = 166700; short = 260; long = 600 };
}
nanoseconds Ieee2000 = record {
  least = record { hold = 166600; force = 83300; timeout = 166600; short = 760; long = 1590 };
  most = record { hold = 166700; force = 166600; timeout = 166700; short = 850; long = 1670 };
}

-- a time in ticks, of which d are so many nanoseconds: rounded down, and rounded up
abbrev pub ticks_down : ℕ → ℕ → ℕ → ℕ
ticks_down d ns time = time * d / ns

abbrev pub ticks_up : ℕ → ℕ → ℕ → ℕ
ticks_up d ns time = (time * d + (ns - 1)) / ns

-- each of a node's times, turned by the same rule
abbrev pub each_time : (ℕ → ℕ) → Timing → Timing
each_time f t = record {
  hold = f t.hold;
  force = f t.force;
  timeout = f t.timeout;
  short = f t.short;
  long = f t.long;
}

-- The ranges in ticks, rounded outwards, where a cable delays by at most d ticks, which are so many
-- nanoseconds.
abbrev pub standard_ranges : Standard → ℕ → ℕ → TimeRanges
standard_ranges standard d ns = record {
  least = each_time (ticks_down d ns) (nanoseconds standard).least;
  most = each_time (ticks_up d ns) (nanoseconds standard).most;
}

-- ---- laws

-- With 16 ticks for the delay of a cable the times of IEEE Std 1394a-2000 are suitable for delays of
-- 41 to 363 nanoseconds, and those of IEEE Std 1394-1995 for 41 to 116.
abbrev pub FineTicksAreSuitable : Standard → ℕ → Type 0
FineTicksAreSuitable standard most =
    (ns : ℕ) → 41 ≤ ns → ns ≤ most → AreSuitable 16 (standard_ranges standard 16 ns)

-- With 4 ticks it is so from 11 on.
abbrev pub CoarseTicksAreSuitable : Standard → ℕ → Type 0
CoarseTicksAreSuitable standard most =
    (ns : ℕ) → 11 ≤ ns → ns ≤ most → AreSuitable 4 (standard_ranges standard 4 ns)

-- the least times of a standard are in its ranges
abbrev pub LeastIsWithin : Type 0
LeastIsWithin =
    (standard : Standard) (d ns : ℕ) → 1 ≤ ns →
    AreWithin (standard_ranges standard d ns) (standard_ranges standard d ns).least

-- where the ranges suit, d ticks are at most 65,535 nanoseconds
abbrev pub DelaysAreFew : Type 0
DelaysAreFew =
    (standard : Standard) (d ns : ℕ) → 1 ≤ ns → d ≤ 16 →
    AreSuitable d (standard_ranges standard d ns) → ns ≤ 65535
