-- Each bus tree is what some cabling shows, where each slot of a node has a port or none: by IEEE Std
-- 1394-1995 as by 1394a-2000.
use Rattle.std.specs.Prelude.{◌≡◌, ◌≢◌, ◌↔◌, ℕ, ◌+◌, ◌-◌, ◌≤◌, IsTrue, Option, Some, None, List, [], ◌∷◌, length, slice_get}
use Rattle.self_id.specs.declared.node.PortStatus.{PortStatus}
use Rattle.self_id.specs.declared.standard.Standard.{Standard}
use Rattle.self_id.specs.Node.{HasForm, is_width_of, node_with}
use Rattle.topology_stack.specs.Tree.{Label, Tree, branch, Slots, no_more, absent, unplugged, up, down, walk, IsBusTreeOf}
use Rattle.cabling.specs.declared.cable.End.{End}
use Rattle.cabling.specs.Wiring.{NodeNumber}

-- what a slot of a node stands for: no port, a port without cable, or the cable to another end
pub data Place : Type 0 where
  no_port : Place
  no_cable : Place
  cable_to : End → Place

-- for each node, by number, its slots in rising order
abbrev pub SlotWiring : Type 0
SlotWiring = List (List Place)

-- a cable leads from the one end to the other
pub record Leads (c : SlotWiring) (a b : End) : Type 0 where
  pub row : List Place
  pub node : slice_get c a.node ≡ Some row
  pub slot : slice_get row a.port ≡ Some (cable_to b)

-- A cable has two ends, on two different nodes, and no end is in two cables. There are 63 nodes at
-- most, and each has as many slots as the standard allows: 3, 11, 19 or 27 by 1394-1995, and 3, 11 or
-- 16 by 1394a-2000.
pub record IsSlotCabling (standard : Standard) (c : SlotWiring) : Type 0 where
  pub both_ways : (a b : End) → Leads c a b → Leads c b a
  pub two_nodes : (a b : End) → Leads c a b → a.node ≢ b.node
  pub few_nodes : length c ≤ 63
  pub widths :
      (k : NodeNumber) (row : List Place) → slice_get c k ≡ Some row →
      IsTrue (is_width_of standard (length row))

-- From node `x`, come to by its slot `from` or by none, the cabling shows the tree: its node has
-- the label of `x`, and its slots are those of `x`.
abbrev mutual
  pub SeesSlots : SlotWiring → (NodeNumber → Label) → NodeNumber → Option ℕ → Tree → Type 0
  SeesSlots c label x from (branch a s) =
      (a ≡ label x) × (row : List Place) × (slice_get c x ≡ Some row)
      × SeesRow c label from 0 row s

  -- the slots from number `p` on
  pub SeesRow :
      SlotWiring → (NodeNumber → Label) → Option ℕ → ℕ → List Place → Slots → Type 0
  SeesRow c label from p [] no_more = Unit {0}
  SeesRow c label from p (no_port ∷ row) (absent s) = SeesRow c label from (p + 1) row s
  SeesRow c label from p (no_cable ∷ row) (unplugged s) = SeesRow c label from (p + 1) row s
  SeesRow c label from p (cable_to far ∷ row) (up s) =
      (from ≡ Some p) × SeesRow c label from (p + 1) row s
  SeesRow c label from p (cable_to far ∷ row) (down t s) =
      (from ≢ Some p) × SeesSlots c label far.node (Some far.port) t
      × SeesRow c label from (p + 1) row s
  SeesRow c label from p row s = ⊥

-- the packets of a node with so many slots have room for a label, whatever the slots' statuses are
abbrev pub HasRoomFor : ℕ → Label → Type 0
HasRoomFor slots a =
    (ports : List PortStatus) → length ports ≡ slots →
    HasForm (node_with a.attrs ports a.kept_a a.kept_b)

-- so it is at each node
abbrev pub AreLabels : SlotWiring → (NodeNumber → Label) → Type 0
AreLabels c label =
    (k : NodeNumber) (row : List Place) → slice_get c k ≡ Some row →
    HasRoomFor (length row) (label k)

-- a cabling that shows a tree from its last node, and has no other nodes than the tree
pub record CablesTree (standard : Standard) (t : Tree) : Type 0 where
  pub cabling : SlotWiring
  pub label : NodeNumber → Label
  pub is : IsSlotCabling standard cabling
  pub labels : AreLabels cabling label
  pub whole : length cabling ≡ length (walk t)
  pub seen : SeesSlots cabling label (length (walk t) - 1) None t

-- ---- laws

-- the bus trees of a standard are those that such cablings show
abbrev pub CablingsShowTheBusTrees : Type 0
CablingsShowTheBusTrees =
    (standard : Standard) (t : Tree) → IsBusTreeOf standard t ↔ CablesTree standard t
