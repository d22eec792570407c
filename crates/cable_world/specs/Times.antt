-- The times of nodes that share a bus, in ticks, where a cable delays a signal by at most d ticks.
-- What holds of every world rests on these inequalities alone.
use Rattle.std.specs.Prelude.{◌≡◌, ℕ, ◌+◌, ◌*◌, ◌<◌, ◌≤◌, Ok}
use Rattle.self_id.specs.declared.standard.Standard.{Standard}
use Rattle.port_state.specs.declared.timing.Timing.{Timing}
use Rattle.port_state.specs.declared.ranges.TimeRanges.{TimeRanges}
use Rattle.port_state.specs.Clock.{Clock, even, KeepsPace, most_turns}
use Rattle.port_state.specs.TimeRanges.{AreCountable, AreSuitable, AreWithin, suitable, profile_ranges}
use Rattle.port_state.specs.StandardTimes.{standard_ranges}

-- the times of a node, on a bus on which no node takes longer than these, in turns
pub record Suits (d : ℕ) (longest t : Timing) : Type 0 where
  pub counted : AreCountable longest
  -- a hold is longer than a signal's way through 63 nodes
  pub hold_least : 64 * d ≤ t.hold
  pub hold_most : t.hold ≤ longest.hold
  pub force_most : t.force ≤ longest.force
  pub timeout_most : t.timeout ≤ longest.timeout
  -- a short wait is longer than the way there and back
  pub short_least : 2 * d < t.short
  pub short_most : t.short ≤ longest.short
  -- a long wait is as much longer than any short one
  pub long_least : longest.short + 2 * d ≤ t.long
  pub long_most : t.long ≤ longest.long

-- A node whose clock misses turns takes longer for the same times: it ticks between two of these turns for
-- as long as it may wait, so that it misses one in a wait at most.
pub record SuitsSlowly (longest t : Timing) : Type 0 where
  pub hold_most : most_turns t.long t.hold ≤ longest.hold
  pub force_most : most_turns t.long t.force ≤ longest.force
  pub timeout_most : most_turns t.long t.timeout ≤ longest.timeout
  pub short_most : t.short + 1 ≤ longest.short
  pub long_most : t.long + 1 ≤ longest.long

abbrev pub KeepsTime : Timing → Timing → Clock → Type 0
KeepsTime longest t even = Unit {0}
KeepsTime longest t c = KeepsPace t.long c × SuitsSlowly longest t

-- A node that waits to be forced becomes root: with its hold this wait is longer than any hold and
-- twice a signal's way through 63 nodes.
pub record CanBeForced (d : ℕ) (longest t : Timing) : Type 0 where
  pub enough : longest.hold + 127 * d < t.hold + t.force

-- the longest that `InRange` allows
abbrev pub longest_in_range : ℕ → Timing
longest_in_range d = (profile_ranges d).most

-- ---- laws

-- nodes whose times are in suitable ranges suit a bus, and can be forced
abbrev pub RangesSuit : Type 0
RangesSuit =
    (d : ℕ) (r : TimeRanges) (t : Timing) → AreSuitable d r → AreWithin r t →
    Suits d r.most t × CanBeForced d r.most t

-- so do nodes with the times of a standard, where these can be had in ticks
abbrev pub StandardTimesSuit : Type 0
StandardTimesSuit =
    (standard : Standard) (d ns : ℕ) (r : TimeRanges) (t : Timing) →
    suitable d (standard_ranges standard d ns) ≡ Ok r → AreWithin r t →
    Suits d r.most t × CanBeForced d r.most t
