-- The records of PHY packets.
-- Statuses: 0 ok, 1 refused.
use Rattle.std.specs.Prelude.{◌≡◌, ℕ, ◌%◌, ◌^◌, Bool, not, ◌==◌, if◌then◌else◌, Option, Some, None}
use Rattle.topology_stack.specs.Text.{truth}
use Rattle.phy_packet.specs.Packet.{quad_of, IsValid}
use Rattle.phy_packet.specs.declared.packet.PhyPacket.{PhyPacket}
use Rattle.phy_packet.specs.declared.packet.PhyPacket.TheVariants.{Config, LinkOn, SelfZero, SelfMore, Extended, Other}
use Rattle.heapless_c.specs.declared.records.PacketRecord.{PacketRecord}

-- a record of this kind that has 0 in all other fields
abbrev pub blank : ℕ → PacketRecord
blank kind = record {
  rest = 0;
  fields = 0;
  kind = kind;
  phy_id = 0;
  force = 0;
  set_gap = 0;
  gap = 0;
  link = 0;
  speed = 0;
  delay = 0;
  contender = 0;
  power = 0;
  p0 = 0;
  p1 = 0;
  p2 = 0;
  initiated = 0;
  more = 0;
  n = 0;
  kept = 0;
  r = 0;
}

-- each packet has a record
abbrev pub packet_record : PhyPacket → PacketRecord
packet_record (Config root_id force set_gap gap rest) = record (blank 1) {
  phy_id = root_id;
  force = truth force;
  set_gap = truth set_gap;
  gap = gap;
  rest = rest;
}
packet_record (LinkOn phy_id rest) = record (blank 2) { phy_id = phy_id; rest = rest }
packet_record (SelfZero phy_id link gap speed delay contender power p0 p1 p2 initiated more) =
    record (blank 3) {
      phy_id = phy_id;
      link = truth link;
      gap = gap;
      speed = speed;
      delay = delay;
      contender = truth contender;
      power = power;
      p0 = p0;
      p1 = p1;
      p2 = p2;
      initiated = truth initiated;
      more = truth more;
    }
packet_record (SelfMore phy_id n kept fields r more) = record (blank 4) {
  phy_id = phy_id;
  n = n;
  kept = kept;
  fields = fields;
  r = truth r;
  more = truth more;
}
packet_record (Extended word) = record (blank 5) { rest = word }
packet_record (Other word) = record (blank 6) { rest = word }

-- 0 is no, and every other number yes
abbrev pub is_set : ℕ → Bool
is_set x = not (x == 0)

-- a record's packet, by its kind; the fields that the kind doesn't have aren't looked at, and of
-- `rest` a configuration packet has the low sixteen bits
abbrev pub packet_in : PacketRecord → Option PhyPacket
packet_in r =
    if r.kind == 1 then Some (Config r.phy_id (is_set r.force) (is_set r.set_gap) r.gap (r.rest % 2 ^ 16))
    else (if r.kind == 2 then Some (LinkOn r.phy_id r.rest)
    else (if r.kind == 3 then Some (SelfZero r.phy_id (is_set r.link) r.gap r.speed r.delay
    (is_set r.contender) r.power r.p0 r.p1 r.p2 (is_set r.initiated) (is_set r.more))
    else (if r.kind == 4 then Some (SelfMore r.phy_id r.n r.kept r.fields (is_set r.r) (is_set r.more))
    else (if r.kind == 5 then Some (Extended r.rest)
    else (if r.kind == 6 then Some (Other r.rest) else None)))))

-- the quadlet of a record's packet is written, unless the record is no packet's
pub data Encodes (r : PacketRecord) (before after status : ℕ) : Type 0 where
  encoded : (p : PhyPacket) → packet_in r ≡ Some p → IsValid p → after ≡ quad_of p →
      status ≡ 0 → Encodes r before after status
  no_packet : ((p : PhyPacket) → packet_in r ≡ Some p → IsValid p → ⊥) → after ≡ before →
      status ≡ 1 → Encodes r before after status

-- the packet of a valid packet's record is that packet
abbrev pub RecordsAreReadBack : Type 0
RecordsAreReadBack = (p : PhyPacket) → IsValid p → packet_in (packet_record p) ≡ Some p
