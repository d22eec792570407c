-- Each bus tree of 1394a-2000 is what some cabling shows, where each slot of a node has a port or none.
use Rattle.std.specs.Prelude.{◌≡◌, ◌↔◌, ℕ, Option, None, List}
use Rattle.self_id.specs.declared.standard.Standard.TheVariants.{Ieee2000}
use Rattle.topology_stack.specs.Tree.{Label, Tree, IsBusTreeOf, emits}
use Rattle.cabling.specs.Wiring.{NodeNumber}
use Rattle.slot_cabling.specs.SlotCabling.{SlotWiring, IsSlotCabling, AreLabels, SeesSlots, CablesTree}

-- ---- laws

abbrev pub EachBusTreeIsCabled : Type 0
EachBusTreeIsCabled = (t : Tree) → IsBusTreeOf Ieee2000 t → CablesTree Ieee2000 t

-- and what a cabling shows is a bus tree
abbrev pub CabledTreesAreBusTrees : Type 0
CabledTreesAreBusTrees =
    (c : SlotWiring) (label : NodeNumber → Label) (root : NodeNumber) (t : Tree) →
    IsSlotCabling Ieee2000 c → AreLabels c label → SeesSlots c label root None t → IsBusTreeOf Ieee2000 t

-- some cabling shows a tree whose nodes emit this list
pub record IsEmitted (list : List ℕ) : Type 0 where
  pub cabling : SlotWiring
  pub label : NodeNumber → Label
  pub root : NodeNumber
  pub tree : Tree
  pub is : IsSlotCabling Ieee2000 cabling
  pub labels : AreLabels cabling label
  pub seen : SeesSlots cabling label root None tree
  pub emits_it : emits tree ≡ list

-- so the lists of bus trees, which reading accepts, are those that some cabling emits
abbrev pub AcceptedListsAreEmitted : Type 0
AcceptedListsAreEmitted =
    (list : List ℕ) →
    ((t : Tree) × IsBusTreeOf Ieee2000 t × (emits t ≡ list)) ↔ IsEmitted list
