-- For which delays the ranges of a standard are suitable: each delay is computed.
use Rattle.std.proofs.Common.{◌≡◌, ℕ, zero, suc, ◌+◌, ◌-◌, ◌<◌, ◌≤◌, ◌&&◌, Bool, true, false, Result, Ok, Err, sym, subst, arith}
use Rattle.std.proofs.lemmas.Bool.{and_parts}
use Rattle.self_id.specs.declared.standard.Standard.{Standard}
use Rattle.port_state.specs.declared.ranges.TimeRanges.{TimeRanges}
use Rattle.port_state.specs.declared.ranges.Misfit.{Misfit}
use Rattle.port_state.specs.TimeRanges.{AreSuitable, suitable}
use Rattle.port_state.specs.StandardTimes.{standard_ranges}

abbrev pub is_ok : Result TimeRanges Misfit → Bool
is_ok (Ok r) = true
is_ok (Err m) = false

-- a test of so many numbers from the first on
abbrev pub all_from : ℕ → ℕ → (ℕ → Bool) → Bool
all_from zero first test = true
all_from (suc count) first test = test first && all_from count (suc first) test

each :
    (count first : ℕ) (test : ℕ → Bool) → all_from count first test ≡ true → (k : ℕ) →
    k < count → test (first + k) ≡ true
each zero first test all k high = absurd (omega (arith, high))
each (suc count) first test all zero high =
    let z : first + 0 ≡ first = omega arith in
    subst (λ n. test n ≡ true) (sym z) (and_parts (test first) (all_from count (suc first) test) all).0
each (suc count) first test all (suc k) high =
    let z : first + suc k ≡ suc first + k = omega arith in
    subst (λ n. test n ≡ true) (sym z) (each count (suc first) test (and_parts (test first) (all_from count (suc first) test) all).1 k (omega (arith, high)))

-- ranges that are handed out are suitable
pub ok-suitable : (d : ℕ) (r : TimeRanges) → is_ok (suitable d r) ≡ true → AreSuitable d r
ok-suitable d r e = record {
  counted = record { hold = grind (arith, e); force = grind (arith, e); timeout = grind (arith, e); short = grind (arith, e); long = grind (arith, e) };
  hold = grind (arith, e);
  short = grind (arith, e);
  long = grind (arith, e);
  force = grind (arith, e);
}

-- with d ticks for a delay of each of so many nanoseconds from the first on
module _ (standard : Standard) (d count first : ℕ) where
  abbrev pub tested : ℕ → Bool
  tested ns = is_ok (suitable d (standard_ranges standard d ns))

  pub delays-suit :
      all_from count first tested ≡ true → (ns : ℕ) → first ≤ ns → ns < first + count →
      AreSuitable d (standard_ranges standard d ns)
  delays-suit all ns low high =
      let z : first + (ns - first) ≡ ns = omega (arith, low) in
      ok-suitable d (standard_ranges standard d ns) (subst (λ n. is_ok (suitable d (standard_ranges standard d n)) ≡ true) z (each count first tested all (ns - first) (omega (arith, low, high))))
