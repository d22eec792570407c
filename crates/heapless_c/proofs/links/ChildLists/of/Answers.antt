use Rattle.std.proofs.Common.{ap, length, arith}
use Rattle.topology_stack.proofs.Lemmas.{later}
use Rattle.heapless_c.proofs.links.ChildLists.of.Goals as goal

pub bounds-deref-id : goal.bounds-deref-id
bounds-deref-id c =
    let l = later c.self.inside.ids.items c.self.inside.ends.items c.args.id c.args.self.now c.self.view_is c.self.invariant.1 c.if-id-eq0.false c.requires in
    omega (arith, l.inside, ap length c.deref-2.ensures.0)

pub bounds-deref-id-2 : goal.bounds-deref-id-2
bounds-deref-id-2 c =
    let l = later c.self.inside.ids.items c.self.inside.ends.items c.args.id c.args.self.now c.self.view_is c.self.invariant.1 c.if-id-eq0.false c.requires in
    omega (arith, l.inside, ap length c.deref-3.ensures.0)

pub slice_bounds-result-count : goal.slice_bounds-result-count
slice_bounds-result-count c =
    let l = later c.self.inside.ids.items c.self.inside.ends.items c.args.id c.args.self.now c.self.view_is c.self.invariant.1 c.if-id-eq0.false c.requires in
    rw (c.deref-2.ensures.0, c.deref-3.ensures.0) l.low

pub slice_bounds-result-start : goal.slice_bounds-result-start
slice_bounds-result-start c =
    let l = later c.self.inside.ids.items c.self.inside.ends.items c.args.id c.args.self.now c.self.view_is c.self.invariant.1 c.if-id-eq0.false c.requires in
    rw (c.deref-2.ensures.0, c.deref-3.ensures.0) l.low

pub slice_bounds-result-end-2 : goal.slice_bounds-result-end-2
slice_bounds-result-end-2 c =
    let l = later c.self.inside.ids.items c.self.inside.ends.items c.args.id c.args.self.now c.self.view_is c.self.invariant.1 c.if-id-eq0.false c.requires in
    rw (c.deref-3.ensures.0, c.deref-4.ensures.0) l.high

pub returns : goal.returns
returns c =
    let l = later c.self.inside.ids.items c.self.inside.ends.items c.args.id c.args.self.now c.self.view_is c.self.invariant.1 c.if-id-eq0.false c.requires in
    rw (c.deref-2.ensures.0, c.deref-3.ensures.0, c.deref-4.ensures.0) l.is
