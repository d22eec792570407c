-- The packet that a quadlet shows, computed from its fields. No public contract cites this file.
use Rattle.std.specs.Prelude.{ℕ, ◌/◌, ◌%◌, ◌^◌, ◌==◌, ◌||◌, if◌then◌else◌}
use Rattle.phy_packet.specs.declared.packet.PhyPacket.{PhyPacket}
use Rattle.phy_packet.specs.declared.packet.PhyPacket.TheVariants.{Config, LinkOn, SelfZero, SelfMore, Extended, Other}

-- the packet with the fields of a quadlet, by its top two bits
abbrev pub config_of : ℕ → PhyPacket
config_of q =
    Config (q / 2 ^ 24 % 64) (q / 2 ^ 23 % 2 == 1) (q / 2 ^ 22 % 2 == 1) (q / 2 ^ 16 % 64)
    (q % 2 ^ 16)

abbrev pub link_on_of : ℕ → PhyPacket
link_on_of q = LinkOn (q / 2 ^ 24 % 64) (q % 2 ^ 24)

abbrev pub self_zero_of : ℕ → PhyPacket
self_zero_of q =
    SelfZero (q / 2 ^ 24 % 64) (q / 2 ^ 22 % 2 == 1) (q / 2 ^ 16 % 64) (q / 2 ^ 14 % 4)
    (q / 2 ^ 12 % 4) (q / 2 ^ 11 % 2 == 1) (q / 2 ^ 8 % 8) (q / 2 ^ 6 % 4) (q / 2 ^ 4 % 4) (q / 2 ^ 2 % 4) (q / 2 % 2 == 1) (q % 2 == 1)

abbrev pub self_more_of : ℕ → PhyPacket
self_more_of q =
    SelfMore (q / 2 ^ 24 % 64) (q / 2 ^ 20 % 8) (q / 2 ^ 18 % 4) (q / 2 ^ 2 % 2 ^ 16)
    (q / 2 % 2 == 1) (q % 2 == 1)

unfoldable pub packet_of : ℕ → PhyPacket
packet_of q =
    if q / 2 ^ 30 == 0 then (
    if (q / 2 ^ 23 % 2 == 1) || (q / 2 ^ 22 % 2 == 1) then config_of q else Extended q)
    else (if q / 2 ^ 30 == 1 then link_on_of q
    else (if q / 2 ^ 30 == 2 then (if q / 2 ^ 23 % 2 == 0 then self_zero_of q else self_more_of q)
    else Other q))
