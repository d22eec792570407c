use Rattle.std.proofs.Common.{arith}
use Rattle.port_state.proofs.PortLists.{ports-counted, connected-ports}
use Rattle.port_state.proofs.ports.PortViews.connected.Goals as goal

pub returns-clause-ports : goal.returns-clause-ports
returns-clause-ports c k =
    rw (← c.self.view_is, c.of_bits.ensures)
    (connected-ports c.self.inside.count c.self.inside.words k c.self.invariant.1.connected c.self.invariant.0)

pub returns-clause-few : goal.returns-clause-few
returns-clause-few c =
    let count = ports-counted c.self.inside.count c.self.inside.words c.args.self.now c.self.view_is in
    omega (arith, c.self.invariant.0)
