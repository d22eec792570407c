use Rattle.std.proofs.Common.{refl, arith}
use Rattle.port_state.proofs.PortLists.{set-ports, ports-counted, all-set}
use Rattle.port_state.proofs.ports.PortViews.set.Goals as goal

pub overflow_cast-at : goal.overflow_cast-at
overflow_cast-at c =
    let count = ports-counted c.self.inside.count c.self.inside.words c.args.self.now c.self.view_is in
    omega (arith, c.self.invariant.0)

pub set-requires : goal.set-requires
set-requires c =
    let count = ports-counted c.self.inside.count c.self.inside.words c.args.self.now c.self.view_is in
    omega (arith, c.self.invariant.0)

pub offset_bounds-self-inside-at : goal.offset_bounds-self-inside-at
offset_bounds-self-inside-at c =
    let count = ports-counted c.self.inside.count c.self.inside.words c.args.self.now c.self.view_is in
    omega (arith, c.self.invariant.0)

pub bounds-self-inside-at : goal.bounds-self-inside-at
bounds-self-inside-at c =
    let count = ports-counted c.self.inside.count c.self.inside.words c.args.self.now c.self.view_is in
    omega (arith, c.self.invariant.0)

pub invariant_of-self : goal.invariant_of-self
invariant_of-self c =
    let count = ports-counted c.self.inside.count c.self.inside.words c.args.self.now c.self.view_is in (
      c.self.invariant.0,
      c.set.ensures.fits c.self.inside.count (omega arith) c.self.invariant.1,
      all-set c.self.inside.words c.set.new.self c.self.inside.views c.args.at c.args.at c.args.port refl (omega (arith, c.self.invariant.0)) c.self.invariant.2 c.set.ensures.ports,
    )

pub returns : goal.returns
returns c =
    let count = ports-counted c.self.inside.count c.self.inside.words c.args.self.now c.self.view_is in
    rw (← c.self.view_is)
    (set-ports c.self.inside.count c.self.inside.words c.set.new.self c.args.at c.args.port (omega arith) c.set.ensures.ports)
