use Rattle.std.proofs.Common.{Some, sym, ◌∙◌, ap, arith}
use Rattle.port_state.proofs.PortLists.{get-ports, ports-counted}
use Rattle.port_state.proofs.ports.PortViews.get.Goals as goal

pub overflow_cast-at : goal.overflow_cast-at
overflow_cast-at c =
    let count = ports-counted c.self.inside.count c.self.inside.words c.args.self.now c.self.view_is in
    omega (arith, c.self.invariant.0)

pub port-requires : goal.port-requires
port-requires c =
    let count = ports-counted c.self.inside.count c.self.inside.words c.args.self.now c.self.view_is in
    omega (arith, c.self.invariant.0)

pub returns : goal.returns
returns c =
    let count = ports-counted c.self.inside.count c.self.inside.words c.args.self.now c.self.view_is in
    rw (← c.self.view_is)
    (get-ports c.self.inside.count c.self.inside.words c.args.at (omega arith) ∙ ap Some (sym c.port.ensures))
