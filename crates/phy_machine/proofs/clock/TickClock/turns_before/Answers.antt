use Rattle.std.proofs.Common.{sym, arith}
use Rattle.phy_machine.proofs.ClockTurns.{even-ticks_in, even-misses}
use Rattle.phy_machine.proofs.clock.TickClock.turns_before.Goals as goal

pub returns-then-self-eq0-clause-ticks : goal.returns-then-self-eq0-clause-ticks
returns-then-self-eq0-clause-ticks c =
    omega (arith, even-ticks_in c.args.self.gap c.args.self.left c.if-self-eq0.true c.args.ticks)

pub returns-then-self-eq0-clause-before : goal.returns-then-self-eq0-clause-before
returns-then-self-eq0-clause-before c few = (
  sym (even-ticks_in c.args.self.gap c.args.self.left c.if-self-eq0.true c.args.ticks),
  even-misses c.args.self.gap c.args.self.left c.if-self-eq0.true c.args.ticks,
)
