-- Why no group stands at a place of a list.
use Rattle.std.specs.Prelude.{◌≡◌, ◌≢◌, ℕ, zero, suc, ◌+◌, ◌<◌, ◌≤◌, Bool, true, false, ◌==◌, List, [], ◌∷◌, ◌++◌, length}
use Rattle.phy_packet.specs.Packet.{IsQuadletOf, is_self_id, owner, has_more}
use Rattle.phy_packet.specs.declared.packet.PhyPacket.{PhyPacket}
use Rattle.phy_packet.specs.declared.packet.PhyPacket.TheVariants.{Config, LinkOn, SelfZero, SelfMore, Extended, Other}
use Rattle.self_id.specs.declared.fault.GroupFault.{GroupFault}
use Rattle.self_id.specs.declared.fault.GroupFault.TheVariants.{NotSelfId, WrongId, BadOrder, Cut, TwoParents}
use Rattle.self_id.specs.declared.standard.Standard.{Standard}
use Rattle.self_id.specs.declared.standard.Standard.TheVariants.{Ieee1995, Ieee2000}
use Rattle.self_id.specs.Node.{Node, HasForm, IsOf, ups}
use Rattle.self_id.specs.Group.{group}

-- which packet stands where in a group: packet zero first, and then further packets numbered from 0
abbrev pub is_in_order : ℕ → PhyPacket → Bool
is_in_order zero (SelfZero phy_id link gap speed delay contender power p0 p1 p2 initiated more) =
    true
is_in_order (suc j) (SelfMore phy_id n kept fields r more) = n == j
is_in_order j (Config root_id force set_gap gap rest) = false
is_in_order j (LinkOn phy_id rest) = false
is_in_order (suc j) (SelfZero phy_id link gap speed delay contender power p0 p1 p2 initiated more) =
    false
is_in_order zero (SelfMore phy_id n kept fields r more) = false
is_in_order j (Extended word) = false
is_in_order j (Other word) = false

-- a quadlet shows packet number j of the ID's group, and says that another packet follows
pub record LeadsOn (id j quad : ℕ) (p : PhyPacket) : Type 0 where
  pub shows : IsQuadletOf quad p
  pub self : is_self_id p ≡ true
  pub own : owner p ≡ id
  pub order : is_in_order j p ≡ true
  pub more : has_more p ≡ true

-- so does each of these quadlets, with numbers from j on
abbrev pub AllLeadOn : ℕ → ℕ → List ℕ → Type 0
AllLeadOn id j [] = Unit {0}
AllLeadOn id j (q ∷ qs) = ((p : PhyPacket) × LeadsOn id j q p) × AllLeadOn id (j + 1) qs

-- how many further packets a group has at most: none follows the last of them
abbrev pub most_further : Standard → ℕ
most_further Ieee1995 = 3
most_further Ieee2000 = 2

-- Of a list that stands at a place, the front leads on to the rest, which stands at a place too.
pub record LeadsTo (standard : Standard) (id at : ℕ) (l front rest : List ℕ) (place : ℕ) :
    Type 0 where
  pub parts : l ≡ front ++ rest
  pub front_leads : AllLeadOn id 0 front
  pub few : length front ≤ most_further standard
  pub place_is : place ≡ at + length front

-- Which fault a list has that stands at a place and is to begin with a standard's group of an ID.
-- Each fault but the last is that of the first packet that breaks a rule, and it is the first rule
-- that this packet breaks.
abbrev pub GroupRefused : Standard → ℕ → ℕ → List ℕ → GroupFault → Type 0
-- the list ends where a further packet is to stand
GroupRefused standard at id l (Cut place) =
    (front : List ℕ) × LeadsTo standard id at l front [] place × (0 < length front)
-- a quadlet that shows no self-ID packet
GroupRefused standard at id l (NotSelfId place) =
    (front rest : List ℕ) × (q : ℕ) × LeadsTo standard id at l front (q ∷ rest) place
    × ((p : PhyPacket) → IsQuadletOf q p → is_self_id p ≡ false)
-- a self-ID packet of another node
GroupRefused standard at id l (WrongId place found wanted) =
    (front rest : List ℕ) × (q : ℕ) × (p : PhyPacket) × LeadsTo standard id at l front (q ∷ rest) place
    × IsQuadletOf q p × (is_self_id p ≡ true) × (found ≡ owner p) × (wanted ≡ id) × (found ≢ id)
-- a self-ID packet of the node that isn't the next of its group
GroupRefused standard at id l (BadOrder place) =
    (front rest : List ℕ) × (q : ℕ) × (p : PhyPacket) × LeadsTo standard id at l front (q ∷ rest) place
    × IsQuadletOf q p × (is_self_id p ≡ true) × (owner p ≡ id)
    × (is_in_order (length front) p ≡ false)
-- a whole group with more than one slot that leads to the parent
GroupRefused standard at id l (TwoParents place) =
    (n : Node) × (rest : List ℕ) × HasForm n × IsOf standard n × (l ≡ group n id ++ rest)
    × (1 < ups n.ports) × (place ≡ at)
