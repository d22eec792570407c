-- The cables of a wiring as those of slots: each node has its ports in its first slots, and no port
-- in the others.
use Rattle.std.specs.Prelude.{◌≡◌, ◌↔◌, ℕ, ◌-◌, ◌<◌, ◌++◌, Option, Some, None, List, map, length, replicate}
use Rattle.self_id.specs.declared.node.Attrs.{Attrs}
use Rattle.self_id.specs.Slots.{slot_count}
use Rattle.topology_stack.specs.Tree.{Label, Tree, emits}
use Rattle.cabling.specs.declared.cable.End.{End}
use Rattle.cabling.specs.Wiring.{Wiring, NodeNumber, IsCabling}
use Rattle.cabling.specs.NodeSet.{Holds}
use Rattle.cabling.specs.Sees.{Sees}
use Rattle.cable_world.specs.World.{CableWorld}
use Rattle.cable_world.specs.Run.{IsReached}
use Rattle.cable_world.specs.Outcome.{AtNode, IsTree}
use Rattle.self_id.specs.declared.standard.Standard.TheVariants.{Ieee2000}
use Rattle.slot_cabling.specs.SlotCabling.{Place, no_port, no_cable, cable_to, SlotWiring, IsSlotCabling, SeesSlots}
use Rattle.world_laws.specs.SlotCabling.{IsEmitted}
use Rattle.world_laws.specs.SeenTrees.{IsSeenTree}

-- a port without a cable, or with the cable to this far end
abbrev pub place_of : Option End → Place
place_of None = no_cable
place_of (Some far) = cable_to far

-- the ports, and behind them slots without a port, as many as the node's packets show
abbrev pub row_of : List (Option End) → List Place
row_of ports = map place_of ports ++ replicate (slot_count (length ports) - length ports) no_port

abbrev pub slots_of : Wiring → SlotWiring
slots_of c = map row_of c

-- this list is emitted by the nodes of a wiring, taken as slots, which show this tree from a root
pub record IsEmittedBySlots
    (c : Wiring) (root : NodeNumber) (t : Tree) (list : List ℕ) : Type 0 where
  pub emitted : IsEmitted list
  pub cabling_is : emitted.cabling ≡ slots_of c
  pub root_is : emitted.root ≡ root
  pub tree_is : emitted.tree ≡ t

-- whatever tree a component of a world came to: the list that each of its nodes has is emitted by the
-- world's cables, taken as slots, which show that tree
abbrev pub ListsAreEmitted : CableWorld → Type 0
ListsAreEmitted w =
    (set root : ℕ) (t : Tree) → IsTree w set root t → (node : NodeNumber) → Holds set node →
    AtNode w node (λ x. IsEmittedBySlots w.cabling root t x.state.list.items)

-- ---- laws

-- a cabling of ports is one of slots
abbrev pub PortsAreSlots : Type 0
PortsAreSlots = (c : Wiring) → IsCabling c → IsSlotCabling Ieee2000 (slots_of c)

-- and both show the same trees: from each node, come to by whichever port or by none
abbrev pub SlotsShowTheSame : Type 0
SlotsShowTheSame =
    (c : Wiring) (label : NodeNumber → Label) (node : NodeNumber) (from : Option ℕ) (t : Tree) →
    IsCabling c → node < length c →
    Sees c label node from t ↔ SeesSlots (slots_of c) label node from t

-- so the list of a tree that a cabling shows is emitted by its slots
abbrev pub SeenListsAreEmitted : Type 0
SeenListsAreEmitted =
    (c : Wiring) (attrs : List Attrs) (root : NodeNumber) (t : Tree) → IsSeenTree c attrs root t →
    IsEmittedBySlots c root t (emits t)

-- and so are the lists of what has settled
abbrev pub SettledListsAreEmitted : Type 0
SettledListsAreEmitted = (w : CableWorld) → IsReached w → ListsAreEmitted w
