-- The least times of a standard are in its ranges; and where those suit, a cable's delay is few
-- nanoseconds.
use Rattle.std.proofs.Common.{◌≤◌, ℕ, ◌*◌, ◌/◌, ◌+◌, ◌-◌, arith}
use Rattle.std.proofs.lemmas.Nat.{le-div}
use Rattle.std.proofs.Math.Nat.{div-mul-le_self}
use Rattle.self_id.specs.declared.standard.Standard.{Standard}
use Rattle.self_id.specs.declared.standard.Standard.TheVariants.{Ieee1995, Ieee2000}
use Rattle.port_state.specs.TimeRanges.{AreWithin}
use Rattle.port_state.specs.StandardTimes.{nanoseconds, ticks_down, ticks_up, standard_ranges, LeastIsWithin, DelaysAreFew}

-- the ticks rise with the time
rising : (d ns least most : ℕ) → 1 ≤ ns → least ≤ most → ticks_down d ns least ≤ ticks_up d ns most
rising d ns least most some h =
    le-div (least * d / ns) (most * d + (ns - 1)) ns (omega arith)
    (omega (arith, div-mul-le_self (least * d) ns, times-rise least most d h))
  where
    times-rise : (a b d : ℕ) → a ≤ b → a * d ≤ b * d
    times-rise a b d h = grind (arith, h)

within :
    (s : Standard) (d ns : ℕ) → 1 ≤ ns → AreWithin (nanoseconds s) (nanoseconds s).least →
    AreWithin (standard_ranges s d ns) (standard_ranges s d ns).least
within s d ns some h = record {
  hold_least = omega arith;
  hold_most = rising d ns (nanoseconds s).least.hold (nanoseconds s).most.hold some h.hold_most;
  force_least = omega arith;
  force_most = rising d ns (nanoseconds s).least.force (nanoseconds s).most.force some h.force_most;
  timeout_least = omega arith;
  timeout_most =
      rising d ns (nanoseconds s).least.timeout (nanoseconds s).most.timeout some h.timeout_most;
  short_least = omega arith;
  short_most = rising d ns (nanoseconds s).least.short (nanoseconds s).most.short some h.short_most;
  long_least = omega arith;
  long_most = rising d ns (nanoseconds s).least.long (nanoseconds s).most.long some h.long_most;
}

least-within : (s : Standard) → AreWithin (nanoseconds s) (nanoseconds s).least
least-within Ieee1995 = record {
  hold_least = omega arith;
  hold_most = omega arith;
  force_least = omega arith;
  force_most = omega arith;
  timeout_least = omega arith;
  timeout_most = omega arith;
  short_least = omega arith;
  short_most = omega arith;
  long_least = omega arith;
  long_most = omega arith;
}
least-within Ieee2000 = record {
  hold_least = omega arith;
  hold_most = omega arith;
  force_least = omega arith;
  force_most = omega arith;
  timeout_least = omega arith;
  timeout_most = omega arith;
  short_least = omega arith;
  short_most = omega arith;
  long_least = omega arith;
  long_most = omega arith;
}

pub least_is_within : LeastIsWithin
least_is_within s d ns some = within s d ns some (least-within s)

-- a short wait of some ticks is one of few nanoseconds a tick
few-nanoseconds :
    (time d ns : ℕ) → time ≤ 760 → d ≤ 16 → 1 ≤ ns → 1 ≤ time * d / ns → ns ≤ 65535
few-nanoseconds time d ns t few some h =
    let product : time * d ≤ 760 * 16 = grind (arith, t, few) in
    let back : 1 * ns ≤ time * d / ns * ns = grind (arith, h) in
    omega (arith, product, back, div-mul-le_self (time * d) ns)

short-least : (s : Standard) → (nanoseconds s).least.short ≤ 760
short-least Ieee1995 = omega arith
short-least Ieee2000 = omega arith

pub delays_are_few : DelaysAreFew
delays_are_few s d ns some few h =
    few-nanoseconds (nanoseconds s).least.short d ns (short-least s) few some (omega (arith, h.short))
