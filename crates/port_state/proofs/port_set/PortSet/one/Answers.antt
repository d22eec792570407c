use Rattle.port_state.proofs.PortBits.{in-one}
use Rattle.port_state.proofs.port_set.PortSet.one.Goals as goal

pub returns : goal.returns
returns c = λ k. in-one c.args.port k c.requires
