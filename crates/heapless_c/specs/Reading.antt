-- What is read of a list in memory of fixed size: a bus tree, and the parents and children of its nodes.
use Rattle.std.specs.Prelude.{◌≡◌, ℕ, Some, List, slice_get}
use Rattle.self_id.specs.declared.standard.Standard.{Standard}
use Rattle.self_id.specs.Node.{Node}
use Rattle.topology_stack.specs.declared.waiting.Waiting.{Waiting as Waits}
use Rattle.topology_stack.specs.Tree.{Tree, walk, IsBusTreeOf, emits}
use Rattle.topology_stack.specs.Stored.{Stored}
use Rattle.heapless_c.specs.declared.reading.Waiting.{Waiting}

-- how many trees wait for a parent, and whether the last of them is the root's
abbrev pub waits : Waiting → Waits
waits w = record { trees = w.trees; rooted = w.rooted }

-- a bus tree of the standard emits the list, and its nodes have these parents and children
pub record IsLinked (standard : Standard) (quads : List ℕ) (parents : List ℕ)
    (children : List (List ℕ)) (t : Tree) : Type 0 where
  pub bus : IsBusTreeOf standard t
  pub emitted : emits t ≡ quads
  pub stored : Stored t (walk t) parents children

-- the node with this ID in a tree, its parent and its children
pub record IsPlaced (t : Tree) (id : ℕ) (n : Node) (parent : ℕ) (children : List ℕ) : Type 0 where
  pub parents : List ℕ
  pub lists : List (List ℕ)
  pub stored : Stored t (walk t) parents lists
  pub node : slice_get (walk t) id ≡ Some n
  pub above : slice_get parents id ≡ Some parent
  pub below : slice_get lists id ≡ Some children
