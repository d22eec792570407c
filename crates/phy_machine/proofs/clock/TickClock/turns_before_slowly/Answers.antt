use Rattle.std.proofs.Common.{◌≡◌, ◌+◌, ◌/◌, ◌-◌, ◌∙◌, ◌≤◌, sym, ap, arith}
use Rattle.phy_machine.specs.Clock.{clock_in}
use Rattle.phy_machine.proofs.ClockTurns.{soon-ticks_in, soon-misses, some-before, some-misses, ticks-within, as-long}
use Rattle.phy_machine.proofs.clock.TickClock.turns_before_slowly.Goals as goal

pub returns-then-ticks-self-clause-ticks : goal.returns-then-ticks-self-clause-ticks
returns-then-ticks-self-clause-ticks c =
    let some : 1 ≤ c.args.self.gap = c.requires.slow in
    omega (arith, soon-ticks_in c.args.self.gap c.args.self.left some c.args.ticks (omega (arith, c.if-ticks-self.true)))

pub returns-then-ticks-self-clause-before : goal.returns-then-ticks-self-clause-before
returns-then-ticks-self-clause-before c few =
    let some : 1 ≤ c.args.self.gap = c.requires.slow in (
      sym (soon-ticks_in c.args.self.gap c.args.self.left some c.args.ticks (omega (arith, c.if-ticks-self.true))),
      soon-misses c.args.self.gap c.args.self.left some c.args.ticks c.if-ticks-self.true,
    )

pub returns-clause-ticks : goal.returns-clause-ticks
returns-clause-ticks c =
    let some : 1 ≤ c.args.self.gap = c.requires.slow in
    let turns = c.args.ticks + (1 + (c.args.ticks - c.args.self.left) / c.args.self.gap) in
    ticks-within c.min.result turns c.args.ticks (clock_in c.args.self) (omega (arith, c.min.ensures))
    (some-before c.args.self.gap c.args.self.left some c.args.ticks (omega (arith, c.if-ticks-self.false)))

pub returns-clause-before : goal.returns-clause-before
returns-clause-before c few =
    let some : 1 ≤ c.args.self.gap = c.requires.slow in
    let late : c.args.self.left ≤ c.args.ticks = omega (arith, c.if-ticks-self.false) in
    let turns = c.args.ticks + (1 + (c.args.ticks - c.args.self.left) / c.args.self.gap) in
    as-long c.min.result turns c.args.ticks (clock_in c.args.self) (omega (arith, c.min.ensures, few))
    (some-before c.args.self.gap c.args.self.left some c.args.ticks late) (some-misses c.args.self.gap c.args.self.left some c.args.ticks late)
