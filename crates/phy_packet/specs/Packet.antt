-- The six PHY packets, by their first quadlet (IEEE 1394a-2000, PHY packets).
use Rattle.std.specs.Prelude.{◌≡◌, ℕ, ◌/◌, ◌%◌, ◌^◌, Bool, true, false, ◌==◌, ◌&&◌, ◌||◌, IsTrue, List, [], ◌∷◌}
use Rattle.phy_packet.specs.Layout.{Field, bits, flag, spelled, AllFit}
use Rattle.phy_packet.specs.declared.packet.PhyPacket.{PhyPacket}
use Rattle.phy_packet.specs.declared.packet.PhyPacket.TheVariants.{Config, LinkOn, SelfZero, SelfMore, Extended, Other}

-- the fields of a packet from the top of its quadlet
abbrev pub layout : PhyPacket → List Field
layout (Config root_id force set_gap gap rest) =
    bits 2 0 ∷ bits 6 root_id ∷ flag force ∷ flag set_gap ∷ bits 6 gap ∷ bits 16 rest ∷ []
layout (LinkOn phy_id rest) = bits 2 1 ∷ bits 6 phy_id ∷ bits 24 rest ∷ []
layout (SelfZero phy_id link gap speed delay contender power p0 p1 p2 initiated more) =
    bits 2 2 ∷ bits 6 phy_id ∷ bits 1 0 ∷ flag link ∷ bits 6 gap ∷ bits 2 speed ∷ bits 2 delay
    ∷ flag contender ∷ bits 3 power ∷ bits 2 p0 ∷ bits 2 p1 ∷ bits 2 p2 ∷ flag initiated ∷ flag more ∷ []
layout (SelfMore phy_id n kept fields r more) =
    bits 2 2 ∷ bits 6 phy_id ∷ bits 1 1 ∷ bits 3 n ∷ bits 2 kept ∷ bits 16 fields ∷ flag r
    ∷ flag more ∷ []
layout (Extended word) = bits 32 word ∷ []
layout (Other word) = bits 32 word ∷ []

-- the first quadlet of a packet
abbrev pub quad_of : PhyPacket → ℕ
quad_of p = spelled (layout p)

-- what tells a packet from the others with the same top bits
abbrev pub IsApart : PhyPacket → Type 0
-- R or T is set
IsApart (Config root_id force set_gap gap rest) = IsTrue (force || set_gap)
-- the top two bits are 00, and R and T, the bits 8 and 9 from the top, are not set
IsApart (Extended word) = (word / 2 ^ 30 ≡ 0) × (word / 2 ^ 22 % 4 ≡ 0)
-- the top two bits are 11
IsApart (Other word) = word / 2 ^ 30 ≡ 3
IsApart (LinkOn phy_id rest) = Unit {0}
IsApart (SelfZero phy_id link gap speed delay contender power p0 p1 p2 initiated more) = Unit {0}
IsApart (SelfMore phy_id n kept fields r more) = Unit {0}

pub record IsValid (p : PhyPacket) : Type 0 where
  pub fit : AllFit (layout p)
  pub apart : IsApart p

-- the packet is valid, and this is its first quadlet
pub record IsQuadletOf (quad : ℕ) (p : PhyPacket) : Type 0 where
  pub valid : IsValid p
  pub quad_is : quad_of p ≡ quad

-- a quadlet shows a self-ID packet zero: 10 in its top two bits, and 0 in bit 8 from the top
abbrev pub is_packet_zero : ℕ → Bool
is_packet_zero quad = (quad / 2 ^ 30 == 2) && (quad / 2 ^ 23 % 2 == 0)

-- which packets are self-ID packets
abbrev pub is_self_id : PhyPacket → Bool
is_self_id (Config root_id force set_gap gap rest) = false
is_self_id (LinkOn phy_id rest) = false
is_self_id (SelfZero phy_id link gap speed delay contender power p0 p1 p2 initiated more) = true
is_self_id (SelfMore phy_id n kept fields r more) = true
is_self_id (Extended word) = false
is_self_id (Other word) = false

-- the phy_ID of a self-ID packet
abbrev pub owner : PhyPacket → ℕ
owner (Config root_id force set_gap gap rest) = 63
owner (LinkOn phy_id rest) = 63
owner (SelfZero phy_id link gap speed delay contender power p0 p1 p2 initiated more) = phy_id
owner (SelfMore phy_id n kept fields r more) = phy_id
owner (Extended word) = 63
owner (Other word) = 63

-- the m bit of a self-ID packet: another packet of the same node follows
abbrev pub has_more : PhyPacket → Bool
has_more (Config root_id force set_gap gap rest) = false
has_more (LinkOn phy_id rest) = false
has_more (SelfZero phy_id link gap speed delay contender power p0 p1 p2 initiated more) = more
has_more (SelfMore phy_id n kept fields r more) = more
has_more (Extended word) = false
has_more (Other word) = false
