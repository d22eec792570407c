-- The quadlets of a capture show packets.
use Rattle.std.proofs.Common.{◌<◌, ◌^◌, ℕ, List, [], ◌∷◌}
use Rattle.std.specs.Prelude.{All}
use Rattle.std.proofs.lemmas.List.Elements.{All-head, All-tail, recursion_from_All}
use Rattle.quad_lanes.specs.Pairs.{quads_of, firsts}
use Rattle.quad_lanes.proofs.Lemmas.{fit_firsts}
use Rattle.phy_packet.specs.declared.packet.PhyPacket.{PhyPacket}
use Rattle.view_text.specs.Pairs.{ArePacketsOf}
use Rattle.view_text.proofs.Lemmas.{some-packet}

some-packets : (quads : List ℕ) → All (λ q. q < 2 ^ 32) quads →
    (packets : List PhyPacket) × ArePacketsOf quads packets
some-packets [] h = ([], tt)
some-packets (q ∷ quads) h =
    let packet = some-packet q (All-head (λ x. x < 2 ^ 32) q quads h) in
    let rest = some-packets quads (All-tail (λ x. x < 2 ^ 32) q quads h) in
    (packet.0 ∷ rest.0, (packet.1, rest.1))

pub packets-of-bytes : (bytes : List ℕ) → All (λ b. b < 256) bytes →
    (packets : List PhyPacket) × ArePacketsOf (firsts (quads_of bytes)) packets
packets-of-bytes bytes h =
    some-packets (firsts (quads_of bytes)) (fit_firsts bytes (recursion_from_All (λ b. b < 256) bytes h))
