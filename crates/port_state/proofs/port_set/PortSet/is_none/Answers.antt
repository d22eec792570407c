use Rattle.port_state.proofs.PortBits.{no-ports}
use Rattle.port_state.proofs.port_set.PortSet.is_none.Goals as goal

pub returns : goal.returns
returns c = rw (← c.self.view_is) (no-ports c.self.inside.bits c.self.invariant)
