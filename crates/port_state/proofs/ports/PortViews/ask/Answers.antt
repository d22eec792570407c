use Rattle.std.proofs.Common.{true, arith}
use Rattle.port_state.proofs.PortLists.{no_view, ports-counted, change-ports, all-changed}
use Rattle.port_state.proofs.ports.PortViews.ask.Goals as goal

pub ask-requires : goal.ask-requires
ask-requires c =
    let count = ports-counted c.self.inside.count c.self.inside.words c.args.self.now c.self.view_is in
    omega (arith, c.self.invariant.0)

pub bounds-self-inside-from : goal.bounds-self-inside-from
bounds-self-inside-from c =
    let count = ports-counted c.self.inside.count c.self.inside.words c.args.self.now c.self.view_is in
    omega (arith, c.self.invariant.0)

pub invariant_of-self : goal.invariant_of-self
invariant_of-self c =
    let count = ports-counted c.self.inside.count c.self.inside.words c.args.self.now c.self.view_is in (
      c.self.invariant.0,
      c.ask.ensures.fits c.self.inside.count (omega arith) c.self.invariant.1,
      all-changed (λ p. record p { asked = true }) c.self.inside.words c.ask.new.self c.self.inside.views c.args.port c.from.result no_view c.from.ensures (omega (arith, c.self.invariant.0)) c.self.invariant.2 c.ask.ensures.ports,
    )

pub returns : goal.returns
returns c =
    let count = ports-counted c.self.inside.count c.self.inside.words c.args.self.now c.self.view_is in
    rw (← c.self.view_is)
    (change-ports (λ p. record p { asked = true }) c.self.inside.count c.self.inside.words c.ask.new.self c.args.port (omega arith) c.ask.ensures.ports)
