-- How often a clock ticks in so many turns, by what a timer counts.
use Rattle.std.proofs.Common.{◌≡◌, ◌⊎◌, inl, inr, ℕ, suc, ◌+◌, ◌-◌, ◌*◌, ◌/◌, ◌<◌, ◌≤◌, true, sym, subst, arith}
use Rattle.std.proofs.lemmas.Nat.{le-div}
use Rattle.port_state.specs.declared.timing.Timing.{Timing}
use Rattle.port_state.specs.Clock.{Clock, misses, clock_after, TicksFor, KeepsPace, most_turns}
use Rattle.port_state.specs.Machine.{PortNode}
use Rattle.port_state.proofs.Lemmas.{ticks-later}
use Rattle.cable_world.specs.Times.{SuitsSlowly, KeepsTime}
use Rattle.cable_world.proofs.Lemmas.{misses-slowly}
use Rattle.convergence.proofs.turns.Clocks.{ticks-missed, misses-none}

-- a clock of this pace has ticked so often in so many turns, and may miss the next
pub record MayMiss (pace turns ticks : ℕ) : Type 0 where
  pub gaps : ℕ
  pub most : turns ≤ ticks + gaps
  pub least : gaps * pace ≤ ticks

-- or it missed one, and has ticked so often since that it may not yet
pub record HasMissed (pace turns ticks : ℕ) (c : Clock) : Type 0 where
  pub gaps : ℕ
  pub since : ℕ
  pub most : turns ≤ ticks + gaps + 1
  pub least : gaps * pace + since ≤ ticks
  pub under : since < pace
  pub rests : TicksFor (pace - since) c

abbrev pub IsSlow : ℕ → ℕ → ℕ → Clock → Type 0
IsSlow pace turns ticks c = MayMiss pace turns ticks ⊎ HasMissed pace turns ticks c

slow-tick :
    (pace n t : ℕ) (c : Clock) → IsSlow pace n t c → IsSlow pace (n + 1) (t + 1) (clock_after c)
slow-tick pace n t c (inl a) = inl (record { gaps = a.gaps; most = omega (arith, a.most); least = omega (arith, a.least) })
slow-tick pace n t c (inr a) = elim (more-or (a.since + 1) pace) [
  | inl more ↦
      let left : pace - a.since ≡ suc (pace - (a.since + 1)) = omega (arith, more) in
      inr (record {
        gaps = a.gaps;
        since = a.since + 1;
        most = omega (arith, a.most);
        least = omega (arith, a.least);
        under = more;
        rests = ticks-later (pace - (a.since + 1)) c (subst (λ k. TicksFor k c) left a.rests);
      })
  | inr last ↦
      let z : (a.gaps + 1) * pace ≡ a.gaps * pace + pace = grind arith in
      inl (record { gaps = a.gaps + 1; most = omega (arith, a.most); least = omega (arith, z, a.least, last) })
]
  where
    more-or : (i j : ℕ) → (i < j) ⊎ (j ≤ i)
    more-or i j = grind arith

slow-miss :
    (pace n t : ℕ) (c : Clock) → 1 ≤ pace → misses c ≡ true → KeepsPace pace c → IsSlow pace n t c →
    IsSlow pace (n + 1) t (clock_after c)
slow-miss pace n t c some m k (inl a) =
    let z : pace ≡ pace - 0 = omega arith in
    inr (record {
      gaps = a.gaps;
      since = 0;
      most = omega (arith, a.most);
      least = omega (arith, a.least);
      under = omega (arith, some);
      rests = subst (λ i. TicksFor i (clock_after c)) z (ticks-missed pace c m k);
    })
slow-miss pace n t c some m k (inr a) =
    let left : pace - a.since ≡ suc (pace - a.since - 1) = omega (arith, a.under) in
    absurd (misses-none (pace - a.since - 1) c (subst (λ i. TicksFor i c) left a.rests) m)

slow-over :
    (pace n t f : ℕ) (c : Clock) → 1 ≤ pace → most_turns pace f ≤ n → IsSlow pace n t c → f ≤ t
slow-over pace n t f c some late s = elim (less-or t f) [ inr h ↦ h | inl h ↦ absurd (go h s) ]
  where
    less-or : (i j : ℕ) → (i < j) ⊎ (j ≤ i)
    less-or i j = grind arith

    go : t < f → IsSlow pace n t c → ⊥
    go h (inl a) =
        let few : a.gaps ≤ f / pace = le-div a.gaps f pace some (omega (arith, a.least, h)) in
        omega (arith, late, a.most, few, h)
    go h (inr a) =
        let few : a.gaps ≤ f / pace = le-div a.gaps f pace some (omega (arith, a.least, h)) in
        omega (arith, late, a.most, few, h)

-- ---- a node

-- for so many turns its timer has risen: in each, or less often where its clock misses turns
abbrev pub HasRun : Timing → ℕ → PortNode → Type 0
HasRun longest turns x =
    (turns ≤ x.state.view.timer)
    ⊎ (SuitsSlowly longest x.state.timing
    × IsSlow x.state.timing.long turns x.state.view.timer x.clock)

pub run-on :
    (longest : Timing) (n : ℕ) (x y : PortNode) → 1 ≤ x.state.timing.long →
    KeepsTime longest x.state.timing x.clock → y.state.timing ≡ x.state.timing →
    y.clock ≡ clock_after x.clock →
    ((misses x.clock ≡ true) × (y.state.view.timer ≡ x.state.view.timer))
    ⊎ (y.state.view.timer ≡ x.state.view.timer + 1) →
    HasRun longest n x → HasRun longest (n + 1) y
run-on longest n x y some k same clock r h = rw (same, clock) (go r h)
  where
    go :
        ((misses x.clock ≡ true) × (y.state.view.timer ≡ x.state.view.timer))
        ⊎ (y.state.view.timer ≡ x.state.view.timer + 1) → HasRun longest n x →
        (n + 1 ≤ y.state.view.timer)
        ⊎ (SuitsSlowly longest x.state.timing
        × IsSlow x.state.timing.long (n + 1) y.state.view.timer (clock_after x.clock))
    go (inr t) (inl a) = inl (omega (arith, t, a))
    go (inr t) (inr a) = inr (a.0, subst (λ i. IsSlow x.state.timing.long (n + 1) i (clock_after x.clock)) (sym t) (slow-tick x.state.timing.long n x.state.view.timer x.clock a.1))
    go (inl m) (inl a) =
        let s = misses-slowly longest x.state.timing x.clock m.0 k in
        inr (s.1, subst (λ i. IsSlow x.state.timing.long (n + 1) i (clock_after x.clock)) (sym m.1) (slow-miss x.state.timing.long n x.state.view.timer x.clock some m.0 s.0 (inl (record { gaps = 0; most = omega (arith, a); least = omega arith }))))
    go (inl m) (inr a) =
        let s = misses-slowly longest x.state.timing x.clock m.0 k in
        inr (a.0, subst (λ i. IsSlow x.state.timing.long (n + 1) i (clock_after x.clock)) (sym m.1) (slow-miss x.state.timing.long n x.state.view.timer x.clock some m.0 s.0 a.1))

-- then a time is over that is within these turns
pub run-over :
    (longest : Timing) (n : ℕ) (x : PortNode) (f most : ℕ) → 1 ≤ x.state.timing.long → f ≤ most →
    (SuitsSlowly longest x.state.timing → most_turns x.state.timing.long f ≤ most) → most ≤ n →
    HasRun longest n x → f ≤ x.state.view.timer
run-over longest n x f most some fits slow late (inl a) = omega (arith, fits, late, a)
run-over longest n x f most some fits slow late (inr a) = slow-over x.state.timing.long n x.state.view.timer f x.clock some (omega (arith, slow a.0, late)) a.1
