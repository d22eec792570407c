use Rattle.std.proofs.Common.{refl}
use Rattle.self_id.proofs.Quads.{here}
use Rattle.self_id.proofs.packets.zero_quad.Goals as goal

pub bounds-quads-at : goal.bounds-quads-at
bounds-quads-at c = (here c.args.at c.args.wanted c.args.at c.args.quads.now c.in_ok-owned_packet.field-0 c.in_ok-owned_packet.ensures).inside

pub returns-in-SelfZero-clause-ok : goal.returns-in-SelfZero-clause-ok
returns-in-SelfZero-clause-ok c =
    let h = here c.args.at c.args.wanted c.args.at c.args.quads.now c.in_ok-owned_packet.field-0 c.in_ok-owned_packet.ensures in
    rw (h.packet, ← c.in_ok-owned_packet.ensures, c.in-SelfZero.is) refl

pub returns-in-SelfZero-clause-order : goal.returns-in-SelfZero-clause-order
returns-in-SelfZero-clause-order c =
    let h = here c.args.at c.args.wanted c.args.at c.args.quads.now c.in_ok-owned_packet.field-0 c.in_ok-owned_packet.ensures in
    rw (h.packet, c.in-SelfZero.is) refl
