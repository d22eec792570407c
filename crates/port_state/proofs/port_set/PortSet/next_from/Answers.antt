use Rattle.std.proofs.Common.{arith}
use Rattle.port_state.proofs.PortBits.{has-above, none-from, first-from}
use Rattle.port_state.proofs.port_set.PortSet.next_from.Goals as goal

pub returns-then-port-ge16-clause-none : goal.returns-then-port-ge16-clause-none
returns-then-port-ge16-clause-none c = λ k up. has-above c.args.self k (omega (arith, up, c.if-port-ge16.true))

pub returns-then-left-eq0-clause-none : goal.returns-then-left-eq0-clause-none
returns-then-left-eq0-clause-none c = rw (← c.self.view_is) (λ k up. none-from c.self.inside.bits c.args.port k c.if-left-eq0.true up)

pub returns-clause-held : goal.returns-clause-held
returns-clause-held c = rw (← c.self.view_is) (first-from c.self.inside.bits c.args.port c.self.invariant (omega (arith, c.if-left-eq0.false))).0

pub returns-clause-lowest : goal.returns-clause-lowest
returns-clause-lowest c = rw (← c.self.view_is) (first-from c.self.inside.bits c.args.port c.self.invariant (omega (arith, c.if-left-eq0.false))).1
