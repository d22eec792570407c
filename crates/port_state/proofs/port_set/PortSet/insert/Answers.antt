use Rattle.port_state.proofs.PortBits.{in-inserted, inserted-small}
use Rattle.port_state.proofs.port_set.PortSet.insert.Goals as goal

pub invariant_of-self : goal.invariant_of-self
invariant_of-self c = inserted-small c.self.inside.bits c.args.port c.self.invariant c.if-port-lt16.true

pub returns-then-port-lt16 : goal.returns-then-port-lt16
returns-then-port-lt16 c = rw (← c.self.view_is) (λ k. in-inserted c.self.inside.bits c.args.port k c.if-port-lt16.true)
