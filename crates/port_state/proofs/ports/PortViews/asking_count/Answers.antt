use Rattle.port_state.specs.Ports.{asks}
use Rattle.port_state.proofs.PortLists.{count-ports}
use Rattle.port_state.proofs.ports.PortViews.asking_count.Goals as goal

pub returns-clause-value : goal.returns-clause-value
returns-clause-value c =
    rw (← c.self.view_is)
    (count-ports asks c.self.inside.words c.self.inside.count c.asking_ports.result (c.asking_ports.ensures.fits c.self.inside.count c.self.invariant.1) c.asking_ports.ensures.bits)
