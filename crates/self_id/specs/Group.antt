-- The group of a node: the one to four quadlets in which it shows itself.
use Rattle.std.specs.Prelude.{◌≡◌, ◌≤◌, ◌++◌, ℕ, zero, suc, ◌+◌, ◌*◌, ◌/◌, ◌%◌, ◌^◌, Bool, true, false, ◌==◌, if◌then◌else◌, List, [], ◌∷◌, length, take, drop, map, count_by}
use Rattle.phy_packet.specs.Packet.{quad_of, is_packet_zero}
use Rattle.phy_packet.specs.declared.packet.PhyPacket.{PhyPacket}
use Rattle.phy_packet.specs.declared.packet.PhyPacket.TheVariants.{SelfZero, SelfMore}
use Rattle.self_id.specs.declared.node.PortStatus.{PortStatus}
use Rattle.self_id.specs.declared.standard.Standard.{Standard}
use Rattle.self_id.specs.Node.{Node, IsNode, IsOf, status_bits}

-- the bits of a slot's status; a slot past the last is absent
abbrev pub field : List PortStatus → ℕ → ℕ
field [] k = 0
field (p ∷ ps) zero = status_bits p
field (p ∷ ps) (suc k) = field ps k

-- port fields of two bits each, the first at the top
abbrev pub fields : List PortStatus → ℕ
fields [] = 0
fields (p ∷ ps) = status_bits p * 2 ^ (2 * length ps) + fields ps

-- packet zero has the attributes and the slots 0 to 2
abbrev pub zero_packet : Node → ℕ → Bool → PhyPacket
zero_packet n id more =
    SelfZero id n.attrs.link n.attrs.gap n.attrs.speed n.attrs.delay n.attrs.contender n.attrs.power
    (field n.ports 0) (field n.ports 1) (field n.ports 2) n.attrs.initiated more

-- a further packet, counted from 0, that has eight slots; its two reserved bits and r are kept
abbrev pub eight_packet : Node → ℕ → ℕ → ℕ → Bool → PhyPacket
eight_packet n id number kept more =
    SelfMore id number (kept / 2) (fields (take 8 (drop (3 + 8 * number) n.ports))) (kept % 2 == 1)
    more

-- packet n = 0 has the slots 3 to 10
abbrev pub first_packet : Node → ℕ → Bool → PhyPacket
first_packet n id more = eight_packet n id 0 n.kept_a more

-- of 16 slots packet n = 1 has the slots 11 to 15; kept_b is its two reserved bits and all behind
-- these slots
abbrev pub five_packet : Node → ℕ → PhyPacket
five_packet n id =
    SelfMore id 1 (n.kept_b / 2 ^ 8) (fields (drop 11 n.ports) * 2 ^ 6 + n.kept_b / 2 ^ 2 % 2 ^ 6)
    (n.kept_b / 2 % 2 == 1) (n.kept_b % 2 == 1)

-- of 19 or 27 slots packet n = 1 has the slots 11 to 18, and n = 2 the slots 19 to 26; kept_b is
-- what they keep, and the last m bit
abbrev pub second_packet : Node → ℕ → Bool → PhyPacket
second_packet n id more = eight_packet n id 1 (n.kept_b / 2 ^ 4) more

abbrev pub third_packet : Node → ℕ → PhyPacket
third_packet n id = eight_packet n id 2 (n.kept_b / 2 % 2 ^ 3) (n.kept_b % 2 == 1)

-- the packets of a node with its ID, by the number of its slots
abbrev pub packets : Node → ℕ → List PhyPacket
packets n id =
    if length n.ports == 3 then zero_packet n id false ∷ []
    else (if length n.ports == 11 then zero_packet n id true ∷ first_packet n id false ∷ []
    else (if length n.ports == 16
    then zero_packet n id true ∷ first_packet n id true ∷ five_packet n id ∷ []
    else (if length n.ports == 19
    then zero_packet n id true ∷ first_packet n id true ∷ second_packet n id false ∷ []
    else zero_packet n id true ∷ first_packet n id true ∷ second_packet n id true
    ∷ third_packet n id ∷ [])))

-- how many nodes a list of self-ID packets shows: each sends one packet zero
abbrev pub node_count : List ℕ → ℕ
node_count list = count_by is_packet_zero list

unfoldable pub group : Node → ℕ → List ℕ
group n id = map quad_of (packets n id)

-- a list begins with the group of a node of this standard with this ID
pub record BeginsWith (standard : Standard) (list : List ℕ) (id : ℕ) (n : Node) : Type 0 where
  pub is_node : IsNode n
  pub is_of : IsOf standard n
  pub rest : List ℕ
  pub parts : list ≡ group n id ++ rest

-- the group of a node of this standard with this ID stands in a list from one place up to another
pub record StandsAt (standard : Standard) (list : List ℕ) (at id : ℕ) (n : Node) (after : ℕ) :
    Type 0 where
  pub is_node : IsNode n
  pub is_of : IsOf standard n
  pub parts : drop at list ≡ group n id ++ drop after list
  pub place : after ≡ at + length (group n id)
  pub inside : after ≤ length list
