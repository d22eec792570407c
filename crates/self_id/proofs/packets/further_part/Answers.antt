use Rattle.std.proofs.Common.{refl}
use Rattle.phy_packet.proofs.Lemmas.{packet-shown}
use Rattle.self_id.proofs.Quads.{further_or_not}
use Rattle.self_id.proofs.packets.further_part.Goals as goal

pub unreachable-requires : goal.unreachable-requires
unreachable-requires c =
    let p = packet-shown c.args.quad c.decode.result (record { valid = c.decode.ensures.valid; quad_is = c.decode.ensures.shown }) in
    further_or_not c.decode.result c.requires.0 (rw p at c.requires.1) c.in_default.not-SelfMore

pub returns : goal.returns
returns c =
    let p = packet-shown c.args.quad c.decode.result (record { valid = c.decode.ensures.valid; quad_is = c.decode.ensures.shown }) in
    rw (p, c.in-SelfMore.is) refl
