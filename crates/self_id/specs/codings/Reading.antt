-- How the packets of a group are taken one after the other. No public contract cites this file.
use Rattle.std.specs.Prelude.{◌≡◌, ℕ, Bool, zero, suc, ◌+◌, ◌*◌, ◌/◌, ◌%◌, ◌^◌, false, ◌==◌, nat_le, if◌then◌else◌, List, [], ◌∷◌, ◌++◌, length, drop, Result, Ok, Err}
use Rattle.phy_packet.specs.Layout.{Field, bits, flag, spelled}
use Rattle.phy_packet.specs.Packet.{is_self_id, owner, has_more}
use Rattle.phy_packet.proofs.Lemmas.{packet_of}
use Rattle.phy_packet.specs.declared.packet.PhyPacket.{PhyPacket}
use Rattle.phy_packet.specs.declared.packet.PhyPacket.TheVariants.{Config, LinkOn, SelfZero, SelfMore, Extended, Other}
use Rattle.self_id.specs.declared.fault.GroupFault.{GroupFault}
use Rattle.self_id.specs.declared.fault.GroupFault.TheVariants.{NotSelfId, WrongId, BadOrder, Cut, TwoParents}
use Rattle.self_id.specs.declared.node.PortStatus.{PortStatus}
use Rattle.self_id.specs.declared.packets.ZeroPart.{ZeroPart}
use Rattle.self_id.specs.declared.packets.FurtherPart.{FurtherPart}
use Rattle.self_id.specs.declared.standard.Standard.{Standard}
use Rattle.self_id.specs.declared.standard.Standard.TheVariants.{Ieee1995, Ieee2000}
use Rattle.self_id.specs.Node.{Node, node_with, ups, status_of}
use Rattle.self_id.specs.Group.{group}
use Rattle.self_id.specs.Refused.{is_in_order}

abbrev pub and_then : {A B : Type 0} →
    Result A GroupFault → (A → Result B GroupFault) → Result B GroupFault
and_then (Ok x) f = f x
and_then (Err e) f = Err e

-- a packet as number j of the ID's group, or the first rule that it breaks
abbrev pub taken : ℕ → ℕ → ℕ → PhyPacket → Result PhyPacket GroupFault
taken at id j p =
    if is_self_id p then (
    if owner p == id then (if is_in_order j p then Ok p else Err (BadOrder at))
    else Err (WrongId at (owner p) id))
    else Err (NotSelfId at)

-- the packet at the front of a list
unfoldable pub packet_at : ℕ → ℕ → ℕ → List ℕ → Result PhyPacket GroupFault
packet_at at id j [] = Err (Cut at)
packet_at at id j (q ∷ qs) = taken at id j (packet_of q)

-- the same in two steps: a self-ID packet of the ID, and then its place in the group
abbrev pub owned : ℕ → ℕ → PhyPacket → Result PhyPacket GroupFault
owned at id p =
    if is_self_id p then (if owner p == id then Ok p else Err (WrongId at (owner p) id))
    else Err (NotSelfId at)

unfoldable pub owned_at : ℕ → ℕ → List ℕ → Result PhyPacket GroupFault
owned_at at id [] = Err (Cut at)
owned_at at id (q ∷ qs) = owned at id (packet_of q)

-- what packet zero says
abbrev pub nothing_said : ZeroPart
nothing_said = record {
  attrs = record {
    link = false;
    gap = 0;
    speed = 0;
    delay = 0;
    contender = false;
    power = 0;
    initiated = false;
  };
  p0 = status_of 0;
  p1 = status_of 0;
  p2 = status_of 0;
  more = false;
}

abbrev pub nothing_more : FurtherPart
nothing_more = record { kept = 0; fields = 0; r = false; more = false }

abbrev pub zero_in : PhyPacket → ZeroPart
zero_in (SelfZero phy_id link gap speed delay contender power p0 p1 p2 initiated more) = record {
  attrs = record {
    link = link;
    gap = gap;
    speed = speed;
    delay = delay;
    contender = contender;
    power = power;
    initiated = initiated;
  };
  p0 = status_of p0;
  p1 = status_of p1;
  p2 = status_of p2;
  more = more;
}
zero_in (Config root_id force set_gap gap rest) = nothing_said
zero_in (LinkOn phy_id rest) = nothing_said
zero_in (SelfMore phy_id n kept fields r more) = nothing_said
zero_in (Extended word) = nothing_said
zero_in (Other word) = nothing_said

-- what a further packet says
abbrev pub further_in : PhyPacket → FurtherPart
further_in (SelfMore phy_id n kept fields r more) =
    record { kept = kept; fields = fields; r = r; more = more }
further_in (Config root_id force set_gap gap rest) = nothing_more
further_in (LinkOn phy_id rest) = nothing_more
further_in (SelfZero phy_id link gap speed delay contender power p0 p1 p2 initiated more) =
    nothing_more
further_in (Extended word) = nothing_more
further_in (Other word) = nothing_more

abbrev pub zero_from : ℕ → PhyPacket → Result ZeroPart GroupFault
zero_from at p = if is_in_order 0 p then Ok (zero_in p) else Err (BadOrder at)

abbrev pub further_from : ℕ → ℕ → PhyPacket → Result FurtherPart GroupFault
further_from at n p = if is_in_order (suc n) p then Ok (further_in p) else Err (BadOrder at)

-- so many port fields, the first at the top
abbrev pub statuses : ℕ → ℕ → List PortStatus
statuses zero x = []
statuses (suc k) x = status_of (x / 2 ^ (2 * k) % 4) ∷ statuses k x

-- the bits that a packet of eight slots carries unread: its two reserved bits and r
abbrev pub carried_a : FurtherPart → List Field
carried_a a = bits 2 a.kept ∷ flag a.r ∷ []

-- those of packet n = 1 of three, whose last six bits of port fields are no slot's: m too
abbrev pub carried_b : FurtherPart → List Field
carried_b b = bits 2 b.kept ∷ bits 6 (b.fields % 2 ^ 6) ∷ flag b.r ∷ flag b.more ∷ []

-- those of packet n = 2: m too
abbrev pub carried_c : FurtherPart → List Field
carried_c c = bits 2 c.kept ∷ flag c.r ∷ flag c.more ∷ []

-- the node of one, two, three or four packets
abbrev pub node3 : ZeroPart → Node
node3 z = node_with z.attrs (z.p0 ∷ z.p1 ∷ z.p2 ∷ []) 0 0

abbrev pub node11 : ZeroPart → FurtherPart → Node
node11 z a =
    node_with z.attrs (z.p0 ∷ z.p1 ∷ z.p2 ∷ statuses 8 a.fields) (spelled (carried_a a)) 0

abbrev pub node16 : ZeroPart → FurtherPart → FurtherPart → Node
node16 z a b =
    node_with z.attrs
    (z.p0 ∷ z.p1 ∷ z.p2 ∷ (statuses 8 a.fields ++ statuses 5 (b.fields / 2 ^ 6)))
    (spelled (carried_a a)) (spelled (carried_b b))

-- eight slots more
abbrev pub with_eight : Node → FurtherPart → ℕ → Node
with_eight n b kept_b = node_with n.attrs (n.ports ++ statuses 8 b.fields) n.kept_a kept_b

abbrev pub node19 : ZeroPart → FurtherPart → FurtherPart → Node
node19 z a b = with_eight (node11 z a) b (spelled (carried_a b) * 2 ^ 4)

abbrev pub node27 : ZeroPart → FurtherPart → FurtherPart → FurtherPart → Node
node27 z a b c =
    with_eight (node19 z a b) c (spelled (carried_a b) * 2 ^ 4 + spelled (carried_c c))

-- three packets of a standard, and whether a fourth follows
abbrev pub node_of_three : Standard → ZeroPart → FurtherPart → FurtherPart → Node
node_of_three Ieee1995 z a b = node19 z a b
node_of_three Ieee2000 z a b = node16 z a b

abbrev pub goes_past : Standard → Bool → Bool
goes_past Ieee1995 more = more
goes_past Ieee2000 more = false

-- a whole group's node, unless it has two parents
abbrev pub single : ℕ → Node → Result Node GroupFault
single at n = if nat_le (ups n.ports) 1 then Ok n else Err (TwoParents at)

-- the node of a standard's group at the front of a list, which stands at a place and wants an ID
unfoldable pub read_at : Standard → ℕ → ℕ → List ℕ → Result Node GroupFault
read_at standard at id l =
    and_then (packet_at at id 0 l) (λ z. if has_more z then
    and_then (packet_at (at + 1) id 1 (drop 1 l)) (λ a. if has_more a then
    and_then (packet_at (at + 2) id 2 (drop 2 l)) (λ b. if goes_past standard (has_more b) then
    and_then (packet_at (at + 3) id 3 (drop 3 l)) (λ c.
    single at (node27 (zero_in z) (further_in a) (further_in b) (further_in c)))
    else single at (node_of_three standard (zero_in z) (further_in a) (further_in b)))
    else single at (node11 (zero_in z) (further_in a)))
    else single at (node3 (zero_in z)))

-- a node was read, and its group ends at a place
pub record Gives (standard : Standard) (at id : ℕ) (l : List ℕ) (n : Node) (after : ℕ) :
    Type 0 where
  pub read : read_at standard at id l ≡ Ok n
  pub place : after ≡ at + length (group n id)
