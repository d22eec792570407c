use Rattle.std.proofs.Common.{arith}
use Rattle.port_state.proofs.PortLists.{all-none}
use Rattle.port_state.proofs.ports.PortViews.new.Goals as goal

pub invariant_of-result : goal.invariant_of-result
invariant_of-result c = (omega arith, c.new.ensures, all-none c.new.result c.new.ensures)
