-- The cables of a bus tree, by their ends: each is one of the tree, and none is left out.
use Rattle.std.specs.Prelude.{◌≡◌, ℕ, ◌<◌, Some, [], ◌∷◌, slice_get}
use Rattle.self_id.specs.declared.node.PortStatus.TheVariants.{Down}
use Rattle.self_id.specs.Node.{Node}
use Rattle.topology_stack.specs.Tree.{Tree, walk, IsBusTree}
use Rattle.topology_stack.specs.Far.{Far}
use Rattle.speed_map.specs.Path.{path_speed}
use Rattle.view_text.specs.declared.cable.Cable.{Cable}
use Rattle.view_text.specs.Cable.{cables}

-- a cable from a port of a parent to a port of its child, which has the lower ID, with the speed of
-- the path between them
pub record IsOfTree (t : Tree) (c : Cable) : Type 0 where
  pub down : Far t c.parent c.port (Some c.child)
  pub back : Far t c.child c.child_port (Some c.parent)
  pub lower : c.child < c.parent
  pub speed : c.speed ≡ path_speed t c.parent (c.child ∷ [])

-- one of the cables is at this port of a parent
pub record HasCable (t : Tree) (id port : ℕ) : Type 0 where
  pub place : ℕ
  pub cable : Cable
  pub at : slice_get (cables t) place ≡ Some cable
  pub parent : cable.parent ≡ id
  pub port_is : cable.port ≡ port

-- ---- laws

abbrev pub CablesAreOfTheTree : Type 0
CablesAreOfTheTree =
    (t : Tree) (place : ℕ) (c : Cable) → IsBusTree t → slice_get (cables t) place ≡ Some c →
    IsOfTree t c

-- each slot that is down has its cable
abbrev pub EachDownSlotHasItsCable : Type 0
EachDownSlotHasItsCable =
    (t : Tree) (id slot : ℕ) (n : Node) → IsBusTree t → slice_get (walk t) id ≡ Some n →
    slice_get n.ports slot ≡ Some Down → HasCable t id slot
