-- What a machine's clock answers, by the numbers that it keeps.
use Rattle.std.proofs.Common.{◌≡◌, ℕ, zero, suc, ◌+◌, ◌-◌, ◌/◌, ◌%◌, ◌<◌, ◌≤◌, min, true, false, inl, inr, refl, sym, ◌∙◌, ap, subst, arith, ◌⊎◌}
use Rattle.std.proofs.lemmas.Bool.{cases_lt}
use Rattle.port_state.specs.Clock.{Clock, even, every, misses, clock_on, ticks_in, TicksFor}
use Rattle.port_state.proofs.Lemmas.{clock_on-more}
use Rattle.phy_machine.specs.Clock.{clock_of}
use Rattle.phy_machine.proofs.SlowTurns.{even-on, even-ticks, before-first, behind-first, at-tick, ticks-rise}

-- ---- an even clock

module _ (gap left : ℕ) (none : gap ≡ 0) where
  is-even : clock_of gap left ≡ even
  is-even = ap (λ g. clock_of g left) none

  pub even-ticks_in : (turns : ℕ) → turns ≡ ticks_in turns (clock_of gap left)
  even-ticks_in turns = sym (ap (ticks_in turns) is-even ∙ even-ticks turns)

  pub even-after : (turns : ℕ) → clock_of gap left ≡ clock_on turns (clock_of gap left)
  even-after turns = is-even ∙ sym (ap (clock_on turns) is-even ∙ even-on turns)

  pub even-ticks_on : (count past : ℕ) → TicksFor count (clock_on past (clock_of gap left))
  even-ticks_on count past = subst (TicksFor count) (sym (ap (clock_on past) is-even ∙ even-on past)) tt

  pub even-misses : (turns : ℕ) → misses (clock_on turns (clock_of gap left)) ≡ false
  even-misses turns = ap misses (ap (clock_on turns) is-even ∙ even-on turns)

-- ---- a slow one

slow-of : (gap left : ℕ) → 1 ≤ gap → clock_of gap left ≡ every gap left
slow-of zero left some = absurd (omega (arith, some))
slow-of (suc gap) left some = refl

module _ (gap left : ℕ) (some : 1 ≤ gap) where
  is-slow : clock_of gap left ≡ every gap left
  is-slow = slow-of gap left some

  -- before the first turn that it misses
  pub soon-ticks_in : (turns : ℕ) → turns ≤ left → turns ≡ ticks_in turns (clock_of gap left)
  soon-ticks_in turns few = sym (ap (ticks_in turns) is-slow ∙ (before-first gap left turns few).ticks)

  pub soon-after :
      (turns : ℕ) → turns ≤ left → clock_of gap (left - turns) ≡ clock_on turns (clock_of gap left)
  soon-after turns few =
      slow-of gap (left - turns) some ∙ sym (ap (clock_on turns) is-slow ∙ (before-first gap left turns few).clock)

  pub soon-misses : (turns : ℕ) → turns < left → misses (clock_on turns (clock_of gap left)) ≡ false
  soon-misses turns few =
      let more : left - turns ≡ suc (left - turns - 1) = omega (arith, few) in
      ap misses (ap (clock_on turns) is-slow ∙ (before-first gap left turns (omega (arith, few))).clock)
      ∙ ap (λ n. misses (every gap n)) more

  -- behind it
  pub late-ticks_in :
      (turns : ℕ) → left < turns →
      turns - 1 - (turns - left - 1) / (gap + 1) ≡ ticks_in turns (clock_of gap left)
  late-ticks_in turns late =
      let past = turns - left - 1 in
      let is : left + 1 + past ≡ turns = omega (arith, late) in
      let there : ticks_in (left + 1 + past) (every gap left) ≡ ticks_in turns (clock_of gap left) =
      ap (λ n. ticks_in n (every gap left)) is ∙ sym (ap (ticks_in turns) is-slow) in
      omega (arith, there, (behind-first gap left past).ticks, late)

  pub late-after :
      (turns : ℕ) → left < turns →
      clock_of gap (gap - (turns - left - 1) % (gap + 1)) ≡ clock_on turns (clock_of gap left)
  late-after turns late =
      let past = turns - left - 1 in
      let is : left + 1 + past ≡ turns = omega (arith, late) in
      slow-of gap (gap - past % (gap + 1)) some ∙ sym (behind-first gap left past).clock
      ∙ ap (λ n. clock_on n (every gap left)) is ∙ sym (ap (clock_on turns) is-slow)

  -- ---- how long it ticks

  pub slow-ticks_on : (count : ℕ) → count ≤ left → TicksFor count (clock_of gap left)
  slow-ticks_on count few = subst (TicksFor count) (sym is-slow) few

  pub slow-misses : misses (clock_on left (clock_of gap left)) ≡ true
  slow-misses =
      let none : left - left ≡ 0 = omega arith in
      ap misses (ap (clock_on left) is-slow ∙ (before-first gap left left (omega arith)).clock)
      ∙ ap (λ n. misses (every gap n)) none

  -- ---- the turns before a tick

  pub some-before :
      (ticks : ℕ) → left ≤ ticks →
      ticks_in (ticks + (1 + (ticks - left) / gap)) (clock_of gap left) ≡ ticks
  some-before ticks late =
      let more = ticks - left in
      let is : left + more ≡ ticks = omega (arith, late) in
      ap (λ n. ticks_in (n + (1 + more / gap)) (clock_of gap left)) (sym is)
      ∙ ap (ticks_in (left + more + (1 + more / gap))) is-slow ∙ (at-tick gap left more some).ticks ∙ is

  pub some-misses :
      (ticks : ℕ) → left ≤ ticks →
      misses (clock_on (ticks + (1 + (ticks - left) / gap)) (clock_of gap left)) ≡ false
  some-misses ticks late =
      let more = ticks - left in
      let is : left + more ≡ ticks = omega (arith, late) in
      ap (λ n. misses (clock_on (n + (1 + more / gap)) (clock_of gap left))) (sym is)
      ∙ ap (λ c. misses (clock_on (left + more + (1 + more / gap)) c)) is-slow ∙ (at-tick gap left more some).none

-- fewer turns have no more ticks
pub ticks-within :
    (m n ticks : ℕ) (c : Clock) → m ≤ n → ticks_in n c ≡ ticks → ticks_in m c ≤ ticks
ticks-within m n ticks c few is = omega (arith, ticks-rise m n c few, is)

-- the end of the turns without a miss, told from a clock that stands some turns on
pub missed-on :
    (past count : ℕ) (c next : Clock) → next ≡ clock_on past c → misses (clock_on count next) ≡ true →
    misses (clock_on (past + count) c) ≡ true
missed-on past count c next is m =
    let e : past + count ≡ count + past = omega arith in
    ap (λ n. misses (clock_on n c)) e ∙ ap misses (clock_on-more count past c)
    ∙ ap (λ d. misses (clock_on count d)) (sym is) ∙ m

pub as-long :
    (m n ticks : ℕ) (c : Clock) → m ≡ n → ticks_in n c ≡ ticks → misses (clock_on n c) ≡ false →
    (ticks_in m c ≡ ticks) × (misses (clock_on m c) ≡ false)
as-long m n ticks c same is none = (ap (λ k. ticks_in k c) same ∙ is, ap (λ k. misses (clock_on k c)) same ∙ none)
