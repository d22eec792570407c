use Rattle.std.proofs.Common.{◌≡◌, ◌-◌, ◌∙◌, ap, arith}
use Rattle.phy_machine.specs.Clock.{clock_of}
use Rattle.phy_machine.proofs.ClockTurns.{even-after, soon-after, late-after}
use Rattle.phy_machine.proofs.clock.TickClock.after.Goals as goal

pub returns-then-self-eq0-clause-clock : goal.returns-then-self-eq0-clause-clock
returns-then-self-eq0-clause-clock c = even-after c.args.self.gap c.args.self.left c.if-self-eq0.true c.args.turns

pub returns-then-turns-self-clause-clock : goal.returns-then-turns-self-clause-clock
returns-then-turns-self-clause-clock c =
    soon-after c.args.self.gap c.args.self.left (omega (arith, c.if-self-eq0.false)) c.args.turns c.if-turns-self.true

pub returns-clause-clock : goal.returns-clause-clock
returns-clause-clock c =
    ap (λ r. clock_of c.args.self.gap (c.args.self.gap - r)) c.in_cycle.ensures
    ∙ late-after c.args.self.gap c.args.self.left (omega (arith, c.if-self-eq0.false)) c.args.turns (omega (arith, c.if-turns-self.false))
