use Rattle.std.proofs.Common.{refl}
use Rattle.phy_packet.proofs.Lemmas.{packet-shown}
use Rattle.self_id.proofs.Quads.{zero_or_not}
use Rattle.self_id.proofs.packets.zero_part.Goals as goal

pub unreachable-requires : goal.unreachable-requires
unreachable-requires c =
    let p = packet-shown c.args.quad c.decode.result (record { valid = c.decode.ensures.valid; quad_is = c.decode.ensures.shown }) in
    zero_or_not c.decode.result (rw p at c.requires) c.in_default.not-SelfZero

pub returns : goal.returns
returns c =
    let p = packet-shown c.args.quad c.decode.result (record { valid = c.decode.ensures.valid; quad_is = c.decode.ensures.shown }) in
    rw (p, c.in-SelfZero.is, c.status.ensures, c.status-in-SelfZero.ensures, c.status-in-SelfZero-2.ensures) refl
