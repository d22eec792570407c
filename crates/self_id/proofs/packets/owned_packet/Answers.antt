use Rattle.std.proofs.Common.{arith, ap, sym, refl, ◌∙◌, ◌<◌, length, get_or}
use Rattle.phy_packet.specs.declared.packet.PhyPacket.{PhyPacket}
use Rattle.phy_packet.proofs.Lemmas.{packet-shown}
use Rattle.self_id.specs.codings.Reading.{owned}
use Rattle.self_id.proofs.Steps.{owned_here, owned_end}
use Rattle.self_id.proofs.packets.owned_packet.Goals as goal

pub returns-then-at-quads : goal.returns-then-at-quads
returns-then-at-quads c = sym (owned_end c.args.quads.now c.args.at c.args.wanted (omega (arith, c.if-at-quads.true)))

pub returns : goal.returns
returns c =
    let lt : c.args.at < length c.args.quads.now = omega (arith, c.requires, c.if-at-quads.false) in
    let p = packet-shown (get_or c.args.quads.now c.args.at 0) c.decode.result (record { valid = c.decode.ensures.valid; quad_is = c.decode.ensures.shown }) in
    c.owned.ensures ∙ ap (λ (x : PhyPacket). owned c.args.at c.args.wanted x) (sym p) ∙ sym (owned_here c.args.quads.now c.args.at c.args.wanted (get_or c.args.quads.now c.args.at 0) lt refl)
