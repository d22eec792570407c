use Rattle.phy_machine.proofs.ClockTurns.{even-after, even-ticks_in}
use Rattle.phy_machine.proofs.clock.TickClock.go_on.Goals as goal

pub returns-then-self-eq0-clause-clock : goal.returns-then-self-eq0-clause-clock
returns-then-self-eq0-clause-clock c = even-after c.args.self.now.gap c.args.self.now.left c.if-self-eq0.true c.args.turns

pub returns-then-self-eq0-clause-ticks : goal.returns-then-self-eq0-clause-ticks
returns-then-self-eq0-clause-ticks c = even-ticks_in c.args.self.now.gap c.args.self.now.left c.if-self-eq0.true c.args.turns
