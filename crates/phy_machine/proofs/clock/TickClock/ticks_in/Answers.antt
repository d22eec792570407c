use Rattle.std.proofs.Common.{◌≡◌, ◌-◌, ◌∙◌, ap, arith}
use Rattle.phy_machine.proofs.ClockTurns.{even-ticks_in, soon-ticks_in, late-ticks_in}
use Rattle.phy_machine.proofs.clock.TickClock.ticks_in.Goals as goal

pub returns-then-self-eq0 : goal.returns-then-self-eq0
returns-then-self-eq0 c = even-ticks_in c.args.self.gap c.args.self.left c.if-self-eq0.true c.args.turns

pub returns-then-turns-self : goal.returns-then-turns-self
returns-then-turns-self c =
    soon-ticks_in c.args.self.gap c.args.self.left (omega (arith, c.if-self-eq0.false)) c.args.turns c.if-turns-self.true

pub returns : goal.returns
returns c =
    ap (λ q. c.args.turns - 1 - q) c.cycles.ensures
    ∙ late-ticks_in c.args.self.gap c.args.self.left (omega (arith, c.if-self-eq0.false)) c.args.turns (omega (arith, c.if-turns-self.false))
