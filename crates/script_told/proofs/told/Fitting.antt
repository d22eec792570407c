-- Ranges of times, and nodes that are declared with times in them.
use Rattle.std.proofs.Common.{◌≡◌, ◌≤◌, ◌∙◌, ℕ, Option, Some, None, IfSome, refl, sym, ap, subst, arith}
use Rattle.std.specs.Prelude.{Result, Ok, Err, unwrap_or}
use Rattle.self_id.specs.declared.standard.Standard.{Standard}
use Rattle.port_state.specs.declared.timing.Timing.{Timing}
use Rattle.port_state.specs.declared.ranges.TimeRanges.{TimeRanges}
use Rattle.port_state.specs.declared.ranges.Misfit.{Misfit}
use Rattle.port_state.specs.TimeRanges.{AreWithin, AreSuitable, profile_ranges, suitable}
use Rattle.port_state.specs.StandardTimes.{standard_ranges}
use Rattle.port_state.proofs.Lemmas.{is_ok, ok-suitable, least_is_within}
use Rattle.cable_world.specs.Times.{Suits, CanBeForced}
use Rattle.script_lines.specs.declared.times.ScriptTimes.{ScriptTimes}
use Rattle.script_lines.specs.Times.{timed, standard_times}
use Rattle.script_lines.specs.Range.{IsBetween, IsNodeInRange}
use Rattle.script_told.specs.Fitting.{AreFitting}
use Rattle.script_told.specs.Script.{times_of}

-- times in ranges that suit suit a bus
pub suits : (d : ℕ) (r : TimeRanges) (t : Timing) → AreSuitable d r → AreWithin r t →
    Suits d r.most t
suits d r t s w = record {
  counted = s.counted;
  hold_least = omega (arith, s.hold, w.hold_least);
  hold_most = w.hold_most;
  force_most = w.force_most;
  timeout_most = w.timeout_most;
  short_least = omega (arith, s.short, w.short_least);
  short_most = w.short_most;
  long_least = omega (arith, s.long, w.long_least);
  long_most = w.long_most;
}

pub can-be-forced : (d : ℕ) (r : TimeRanges) (t : Timing) → AreSuitable d r → AreWithin r t →
    CanBeForced d r.most t
can-be-forced d r t s w = record { enough = omega (arith, s.force, w.hold_least, w.force_least) }

-- the profile's suit
pub profile-fits : (d : ℕ) → 1 ≤ d → d ≤ 16 → AreFitting d (profile_ranges d)
profile-fits d some few = record {
  suitable = record {
    counted = record {
      hold = omega (arith, few);
      force = omega (arith, few);
      timeout = omega (arith, few);
      short = omega (arith, few);
      long = omega (arith, few);
    };
    hold = omega arith;
    short = omega (arith, some);
    long = omega arith;
    force = omega (arith, some);
  };
  least = record {
    hold_least = omega arith;
    hold_most = omega arith;
    force_least = omega arith;
    force_most = omega arith;
    timeout_least = omega arith;
    timeout_most = omega arith;
    short_least = omega arith;
    short_most = omega arith;
    long_least = omega arith;
    long_most = omega arith;
  };
}

-- a standard's, where the line that says them isn't refused
ranges-in : (nanoseconds : ℕ) (r : TimeRanges) (times : ScriptTimes) →
    timed nanoseconds (Ok r) ≡ Ok times → times.ranges ≡ r
ranges-in nanoseconds r times e = cc

none-timed : (m : Misfit) (nanoseconds : ℕ) (times : ScriptTimes) → timed nanoseconds (Err m) ≡ Ok times → ⊥
none-timed m nanoseconds times e = cc

pub fits : (d : ℕ) (r s : TimeRanges) → suitable d r ≡ Ok s → (s ≡ r) × AreSuitable d r
fits d r s e = (grind (arith, e), ok-suitable d r (ap is_ok e))

pub standard-fits :
    (standard : Standard) (d nanoseconds : ℕ) (times : ScriptTimes) → 1 ≤ nanoseconds →
    standard_times standard d nanoseconds ≡ Ok times → AreFitting d times.ranges
standard-fits standard d nanoseconds times some e =
    by (suitable d (standard_ranges standard d nanoseconds)) refl e
  where
    by : (judged : Result TimeRanges Misfit) →
        suitable d (standard_ranges standard d nanoseconds) ≡ judged →
        timed nanoseconds judged ≡ Ok times → AreFitting d times.ranges
    by (Ok r) judged said =
        let f = fits d (standard_ranges standard d nanoseconds) r judged in
        let same : times.ranges ≡ standard_ranges standard d nanoseconds = ranges-in nanoseconds r times said ∙ f.0 in
        subst (AreFitting d) (sym same)
        (record { suitable = f.1; least = least_is_within standard d nanoseconds some })
    by (Err m) judged said = absurd (none-timed m nanoseconds times said)

between : (o : Option ℕ) (least most : ℕ) → IfSome o (IsBetween least most) → least ≤ most →
    IsBetween least most (unwrap_or o least)
between None least most h m = (omega arith, m)
between (Some n) least most h m = h

-- the times that a line gives are in the ranges
pub times-within :
    (r : TimeRanges) (ports speed power gap : ℕ) (held short long : Option ℕ) (len : ℕ) →
    AreWithin r r.least → IsNodeInRange r ports speed power gap held short long len →
    AreWithin r (times_of r held short long)
times-within r ports speed power gap held short long len least h =
    let a = between held r.least.hold r.most.hold h.hold_within least.hold_most in
    let b = between short r.least.short r.most.short h.short_within least.short_most in
    let c = between long r.least.long r.most.long h.long_within least.long_most in
    record {
      hold_least = a.0;
      hold_most = a.1;
      force_least = least.force_least;
      force_most = least.force_most;
      timeout_least = least.timeout_least;
      timeout_most = least.timeout_most;
      short_least = b.0;
      short_most = b.1;
      long_least = c.0;
      long_most = c.1;
    }
