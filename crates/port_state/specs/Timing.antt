-- The times of a node, in ticks, where a cable delays a signal by at most d ticks.
use Rattle.std.specs.Prelude.{◌≡◌, ℕ, ◌*◌, ◌≤◌}
use Rattle.port_state.specs.declared.timing.Timing.{Timing}

-- the range of each time
pub record InRange (d : ℕ) (t : Timing) : Type 0 where
  pub hold_least : 64 * d ≤ t.hold
  pub hold_most : t.hold ≤ 80 * d
  pub force : t.force ≡ 256 * d
  pub timeout : t.timeout ≡ 512 * d
  pub short_least : 3 * d ≤ t.short
  pub short_most : t.short ≤ 4 * d
  pub long_least : 8 * d ≤ t.long
  pub long_most : t.long ≤ 10 * d

-- the usual times
abbrev pub usual_timing : ℕ → Timing
usual_timing d = record {
  hold = 64 * d;
  force = 256 * d;
  timeout = 512 * d;
  short = 3 * d;
  long = 8 * d;
}

abbrev pub UsualTimesFit : Type 0
UsualTimesFit = (d : ℕ) → InRange d (usual_timing d)
