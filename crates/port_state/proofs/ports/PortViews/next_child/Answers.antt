use Rattle.std.proofs.Common.{sym, ◌∙◌}
use Rattle.port_state.specs.Ports.{is_unnamed}
use Rattle.port_state.proofs.PortLists.{lowest-port, lowest-exists, ports-counted}
use Rattle.port_state.proofs.ports.PortViews.next_child.Goals as goal

pub returns-clause-value : goal.returns-clause-value
returns-clause-value c =
    rw (← c.self.view_is, c.lowest_bit.ensures)
    (lowest-port is_unnamed c.self.inside.words c.self.inside.count c.unnamed_ports.result
    (c.unnamed_ports.ensures.fits c.self.inside.count c.self.invariant.1) c.unnamed_ports.ensures.bits c.self.invariant.0)

pub returns-clause-exists : goal.returns-clause-exists
returns-clause-exists c x e =
    rw (ports-counted c.self.inside.count c.self.inside.words c.args.self.now c.self.view_is)
    (lowest-exists c.self.inside.count c.unnamed_ports.result (c.unnamed_ports.ensures.fits c.self.inside.count c.self.invariant.1)
    c.self.invariant.0 c.unnamed_ports.type_inv x (sym c.lowest_bit.ensures ∙ e))
