-- The ranges of the times of nodes that share a bus, in ticks, where a cable delays a signal by at
-- most d ticks.
use Rattle.std.specs.Prelude.{ℕ, ◌+◌, ◌*◌, ◌<◌, ◌≤◌, ◌↔◌, ◌≡◌, nat_lt, max, Option, None, Some, Result, Ok, Err, if◌then◌else◌}
use Rattle.port_state.specs.declared.timing.Timing.{Timing}
use Rattle.port_state.specs.declared.ranges.TimeRanges.{TimeRanges}
use Rattle.port_state.specs.declared.ranges.Misfit.{Misfit}
use Rattle.port_state.specs.declared.ranges.Misfit.TheVariants.{Uncounted, ShortHold, ShortWait, CloseWaits, ShortForce}
use Rattle.port_state.specs.Timing.{InRange, usual_timing}

-- each time of a node is in its range
pub record AreWithin (r : TimeRanges) (t : Timing) : Type 0 where
  pub hold_least : r.least.hold ≤ t.hold
  pub hold_most : t.hold ≤ r.most.hold
  pub force_least : r.least.force ≤ t.force
  pub force_most : t.force ≤ r.most.force
  pub timeout_least : r.least.timeout ≤ t.timeout
  pub timeout_most : t.timeout ≤ r.most.timeout
  pub short_least : r.least.short ≤ t.short
  pub short_most : t.short ≤ r.most.short
  pub long_least : r.least.long ≤ t.long
  pub long_most : t.long ≤ r.most.long

-- the ranges of the profile, which are those of `InRange`
abbrev pub profile_ranges : ℕ → TimeRanges
profile_ranges d = record {
  least = usual_timing d;
  most = record {
    hold = 80 * d;
    force = 256 * d;
    timeout = 512 * d;
    short = 4 * d;
    long = 10 * d;
  };
}

-- a timer counts up to 65,535
pub record AreCountable (t : Timing) : Type 0 where
  pub hold : t.hold ≤ 65535
  pub force : t.force ≤ 65535
  pub timeout : t.timeout ≤ 65535
  pub short : t.short ≤ 65535
  pub long : t.long ≤ 65535

-- Nodes whose times are in these ranges can share a bus: it settles, and a forced node becomes
-- root.
pub record AreSuitable (d : ℕ) (r : TimeRanges) : Type 0 where
  pub counted : AreCountable r.most
  -- a hold is as long as a signal's way through 64 cables
  pub hold : 64 * d ≤ r.least.hold
  -- a short wait is longer than the way over a cable and back
  pub short : 2 * d < r.least.short
  -- a long wait is as much longer than any short one
  pub long : r.most.short + 2 * d ≤ r.least.long
  -- with its hold a forced node waits longer than any hold and the way through 127 cables
  pub force : r.most.hold + 127 * d < r.least.hold + r.least.force

-- the greatest of the five
abbrev pub greatest : Timing → ℕ
greatest t = max t.hold (max t.force (max t.timeout (max t.short t.long)))

-- the first of the four inequalities with d that fails
abbrev pub misfit : ℕ → TimeRanges → Option Misfit
misfit d r =
    if nat_lt r.least.hold (64 * d) then Some ShortHold
    else if nat_lt r.least.short (2 * d + 1) then Some ShortWait
    else if nat_lt r.least.long (r.most.short + 2 * d) then Some CloseWaits
    else if nat_lt (r.least.hold + r.least.force) (r.most.hold + 127 * d + 1) then Some ShortForce
    else None

-- these ranges, where they are suitable, or why they aren't
abbrev pub suitable : ℕ → TimeRanges → Result TimeRanges Misfit
suitable d r =
    if nat_lt 65535 (greatest r.most) then Err Uncounted
    else elim (misfit d r) [ None ↦ Ok r | Some m ↦ Err m ]

-- ---- laws

abbrev pub FitsAreSuitable : Type 0
FitsAreSuitable = (d : ℕ) (r s : TimeRanges) → suitable d r ≡ Ok s → (s ≡ r) × AreSuitable d r

abbrev pub SuitableRangesFit : Type 0
SuitableRangesFit = (d : ℕ) (r : TimeRanges) → AreSuitable d r → suitable d r ≡ Ok r

abbrev pub ProfileIsSuitable : Type 0
ProfileIsSuitable = (d : ℕ) → 1 ≤ d → d ≤ 16 → AreSuitable d (profile_ranges d)

abbrev pub ProfileIsInRange : Type 0
ProfileIsInRange = (d : ℕ) (t : Timing) → InRange d t ↔ AreWithin (profile_ranges d) t
