-- A node's turns are idle as long as its clock's ticks in them are.
use Rattle.std.proofs.Common.{◌≡◌, ◌⊎◌, inl, inr, ℕ, zero, suc, ◌+◌, ◌<◌, ◌≤◌, Bool, true, false, refl, sym, ◌∙◌, ap, subst, arith}
use Rattle.std.proofs.lemmas.Bool.{cases_lt}
use Rattle.port_state.specs.Clock.{Clock, misses, clock_on, ticks_in}
use Rattle.port_state.specs.Machine.{PortNode}
use Rattle.port_state.specs.Idle.{rests, with_later_timer, after_ticks, IsIdleTick, IsIdleFor}
use Rattle.port_state.proofs.Lemmas.{missed-idle, idle_ticks-rest, after-idle_ticks}
use Rattle.phy_machine.specs.codings.IdleTime.{look_ahead, RestsFor, StirsAfter}
use Rattle.phy_machine.proofs.SlowTurns.{ticks-below}

-- after idle turns, where the clock stands, and what rests
there-clock :
    (count : ℕ) (n : PortNode) → n.state.view.timer ≤ 65535 → IsIdleFor count n →
    misses (after_ticks count n).clock ≡ misses (clock_on count n.clock)
there-clock count n t idle = ap (λ (m : PortNode). misses m.clock) (after-idle_ticks count n t idle)

there-rests :
    (count : ℕ) (n : PortNode) → n.state.view.timer ≤ 65535 → IsIdleFor count n →
    rests (after_ticks count n).state ≡ rests (with_later_timer (ticks_in count n.clock) n.state)
there-rests count n t idle = ap (λ (m : PortNode). rests m.state) (after-idle_ticks count n t idle)

-- the node rests for as many ticks as there are in these turns, or for more
pub idle-turns :
    (count ticks : ℕ) (n : PortNode) → n.state.view.timer ≤ 65535 → ticks_in count n.clock ≤ ticks →
    RestsFor ticks n.state → IsIdleFor count n
idle-turns count ticks n t few r k h = up-to count (omega arith) k h
  where
    next : (j : ℕ) → j < count → IsIdleFor j n → IsIdleTick (after_ticks j n)
    next j below idle = go (misses (clock_on j n.clock)) refl
      where
        go : (b : Bool) → misses (clock_on j n.clock) ≡ b → IsIdleTick (after_ticks j n)
        go true e = missed-idle (after_ticks j n) (there-clock j n t idle ∙ e)
        go false e =
            let fewer = ticks-below j count n.clock below e in
            (idle_ticks-rest (after_ticks j n) (there-clock j n t idle ∙ e)).1
            (there-rests j n t idle ∙ r (ticks_in j n.clock) (omega (arith, fewer, few)))

    up-to : (j : ℕ) → j ≤ count → IsIdleFor j n
    up-to zero low k h = absurd (omega (arith, h))
    up-to (suc j) low k h = go (up-to j (omega (arith, low))) (cases_lt k j)
      where
        go : IsIdleFor j n → (k < j) ⊎ (j ≤ k) → IsIdleTick (after_ticks k n)
        go before (inl less) = before k less
        go before (inr more) =
            let same : j ≡ k = omega (arith, h, more) in
            subst (λ i. IsIdleTick (after_ticks i n)) same (next j (omega (arith, low)) before)

-- and no longer, where the node ticks then and doesn't rest
pub idle-ends :
    (count ticks : ℕ) (n : PortNode) → n.state.view.timer ≤ 65535 → ticks_in count n.clock ≡ ticks →
    misses (clock_on count n.clock) ≡ false → ticks < look_ahead → StirsAfter ticks n.state → IsIdleFor count n →
    IsIdleFor (count + 1) n → ⊥
idle-ends count ticks n t is tick few stirs idle more =
    let rest : rests (after_ticks count n).state ≡ true =
    (idle_ticks-rest (after_ticks count n) (there-clock count n t idle ∙ tick)).0 (more count (omega arith)) in
    let stirred : rests (after_ticks count n).state ≡ false =
    there-rests count n t idle ∙ ap (λ k. rests (with_later_timer k n.state)) is ∙ stirs few in
    cc
