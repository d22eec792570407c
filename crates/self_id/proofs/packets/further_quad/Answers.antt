use Rattle.std.proofs.Common.{refl, eq-eqb}
use Rattle.self_id.proofs.Quads.{here}
use Rattle.self_id.proofs.packets.further_quad.Goals as goal

pub bounds-quads-at : goal.bounds-quads-at
bounds-quads-at c = (here c.args.at c.args.wanted c.args.at c.args.quads.now c.in_ok-n.field-0 c.in_ok-n.ensures).inside

pub returns-in-SelfMore-clause-ok : goal.returns-in-SelfMore-clause-ok
returns-in-SelfMore-clause-ok c =
    let h = here c.args.at c.args.wanted c.args.at c.args.quads.now c.in_ok-n.field-0 c.in_ok-n.ensures in
    rw (h.packet, ← c.in_ok-n.ensures, c.in-SelfMore.is, eq-eqb _ _ c.if-n-number.true) refl

pub returns-in-SelfMore-clause-order : goal.returns-in-SelfMore-clause-order
returns-in-SelfMore-clause-order c =
    let h = here c.args.at c.args.wanted c.args.at c.args.quads.now c.in_ok-n.field-0 c.in_ok-n.ensures in
    rw (h.packet, c.in-SelfMore.is) (eq-eqb _ _ c.if-n-number.true)
