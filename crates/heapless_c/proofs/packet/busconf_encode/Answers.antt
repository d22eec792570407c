use Rattle.std.proofs.Common.{rules, refl, sym, ◌∙◌}
use Rattle.phy_packet.specs.Packet.{IsValid}
use Rattle.heapless_c.specs.Packets.{encoded}
use Rattle.heapless_c.proofs.packet.busconf_encode.Goals as goal

pub returns-in-Some : goal.returns-in-Some
returns-in-Some c =
    let valid : IsValid c.in-Some.found = search rules in
    encoded c.in-Some.found (sym c.packet_in.ensures ∙ c.in-Some.is) valid c.encode.ensures refl
