use Rattle.std.proofs.Common.{◌≡◌, ◌≤◌, ◌∙◌, true, ap, subst, arith}
use Rattle.port_state.specs.Clock.{TicksFor, misses, clock_on}
use Rattle.phy_machine.specs.Clock.{clock_in}
use Rattle.phy_machine.proofs.ClockTurns.{even-ticks_on, slow-ticks_on, slow-misses, missed-on}
use Rattle.phy_machine.proofs.clock.TickClock.ticks_on.Goals as goal

pub returns-then-self-eq0-clause-ticks : goal.returns-then-self-eq0-clause-ticks
returns-then-self-eq0-clause-ticks c =
    even-ticks_on c.args.self.gap c.args.self.left c.if-self-eq0.true 4000000 c.args.past

pub returns-clause-ticks : goal.returns-clause-ticks
returns-clause-ticks c =
    let next = c.after.result in
    let some : 1 ≤ next.gap = omega (arith, c.if-self-eq0.false, c.after.ensures.gap) in
    subst (TicksFor c.min.result) c.after.ensures.clock (slow-ticks_on next.gap next.left some c.min.result (omega (arith, c.min.ensures)))

pub returns-clause-greatest : goal.returns-clause-greatest
returns-clause-greatest c few =
    let next = c.after.result in
    let some : 1 ≤ next.gap = omega (arith, c.if-self-eq0.false, c.after.ensures.gap) in
    let whole : c.min.result ≡ next.left = omega (arith, c.min.ensures, few) in
    missed-on c.args.past c.min.result (clock_in c.args.self) (clock_in next) c.after.ensures.clock
    (ap (λ k. misses (clock_on k (clock_in next))) whole ∙ slow-misses next.gap next.left some)
