-- Times that suit a bus.
use Rattle.std.proofs.Common.{◌≡◌, ℕ, ◌+◌, ◌*◌, ◌/◌, ◌<◌, ◌≤◌, true, refl, arith}
use Rattle.port_state.specs.declared.timing.Timing.{Timing}
use Rattle.port_state.specs.declared.states.NodeState.{NodeState}
use Rattle.port_state.specs.Timing.{InRange}
use Rattle.port_state.specs.Clock.{Clock, even, slow, every, is_even}
use Rattle.port_state.specs.TimeRanges.{AreCountable}
use Rattle.cable_world.specs.Times.{Suits, KeepsTime, CanBeForced, longest_in_range}
use Rattle.cable_world.specs.World.{IsNodeAtPowerOn, IsPowered}

-- what is so of a node's times by themselves
pub record SuitsCables (d : ℕ) (t : Timing) : Type 0 where
  pub hold_least : 64 * d ≤ t.hold
  pub hold_most : t.hold ≤ 65535
  pub short_least : 2 * d < t.short
  pub long_least : 2 * d < t.long
  pub long_most : t.long ≤ 65535
  pub apart : t.short + 2 * d ≤ t.long

pub suits-cables : (d : ℕ) (longest t : Timing) → Suits d longest t → SuitsCables d t
suits-cables d longest t s = record {
  hold_least = s.hold_least;
  hold_most = omega (arith, s.hold_most, s.counted.hold);
  short_least = s.short_least;
  long_least = omega (arith, s.short_least, s.short_most, s.long_least);
  long_most = omega (arith, s.long_most, s.counted.long);
  apart = omega (arith, s.short_most, s.long_least);
}

-- the ranges are an instance
pub in-range-counted : (d : ℕ) → d ≤ 16 → AreCountable (longest_in_range d)
in-range-counted d few = record { hold = omega (arith, few); force = omega (arith, few); timeout = omega (arith, few); short = omega (arith, few); long = omega (arith, few) }

pub in-range-suits :
    (d : ℕ) (t : Timing) → 1 ≤ d → d ≤ 16 → InRange d t → Suits d (longest_in_range d) t
in-range-suits d t some few i = record {
  counted = in-range-counted d few;
  hold_least = i.hold_least;
  hold_most = i.hold_most;
  force_most = omega (arith, i.force);
  timeout_most = omega (arith, i.timeout);
  short_least = omega (arith, i.short_least, some);
  short_most = i.short_most;
  long_least = omega (arith, i.long_least, some);
  long_most = i.long_most;
}

pub in-range-forced :
    (d : ℕ) (t : Timing) → 1 ≤ d → InRange d t → CanBeForced d (longest_in_range d) t
in-range-forced d t some i = record { enough = omega (arith, i.hold_least, i.force, some) }

-- where the longest times are those in range no clock misses turns, since a force time has no room for them
pub in-range-even :
    (d : ℕ) (t : Timing) (c : Clock) → InRange d t → KeepsTime (longest_in_range d) t c → is_even c ≡ true
in-range-even d t c i k = go c k
  where
    room : (a b most : ℕ) → a + b + 1 ≤ most → a ≡ most → ⊥
    room a b most h e = omega (arith, h, e)

    go : (c : Clock) → KeepsTime (longest_in_range d) t c → is_even c ≡ true
    go even k = refl
    go (slow n next) k = absurd (room t.force (t.force / t.long) (256 * d) k.1.force_most i.force)
    go (every gap n) k = absurd (room t.force (t.force / t.long) (256 * d) k.1.force_most i.force)

pub powered-in-range :
    (d : ℕ) (x : NodeState) → 1 ≤ d → d ≤ 16 → IsNodeAtPowerOn d x →
    IsPowered d (longest_in_range d) x
powered-in-range d x some few on = record { is = on.is; valid = on.valid; timing = in-range-suits d x.timing some few on.timing }
