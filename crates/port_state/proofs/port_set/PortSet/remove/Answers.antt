use Rattle.port_state.proofs.PortBits.{in-removed}
use Rattle.port_state.proofs.port_set.PortSet.remove.Goals as goal

pub returns-then-port-lt16 : goal.returns-then-port-lt16
returns-then-port-lt16 c = rw (← c.self.view_is) (λ k. in-removed c.self.inside.bits c.args.port k c.if-port-lt16.true)
