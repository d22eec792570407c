-- What a `BusTree` keeps: the nodes by ID, and the IDs of each one's parent and children.
use Rattle.std.specs.Prelude.{◌≡◌, ℕ, ◌+◌, ◌-◌, Option, Some, None, List, [], ◌∷◌, ◌++◌, length}
use Rattle.self_id.specs.declared.node.PortStatus.{PortStatus}
use Rattle.self_id.specs.declared.node.PortStatus.TheVariants.{Absent, Unplugged, Up, Down}
use Rattle.self_id.specs.Node.{Node}
use Rattle.topology_stack.specs.Tree.{Tree, branch, Slots, no_more, absent, unplugged, up, down, walk, walk_below, IsBusTree}

-- the parents' IDs in a tree whose IDs begin at `from`, below a parent
abbrev mutual
  pub parents_from : ℕ → ℕ → Tree → List ℕ
  parents_from from parent (branch a s) =
      parents_below from (from + length (walk_below s)) s ++ parent ∷ []

  pub parents_below : ℕ → ℕ → Slots → List ℕ
  parents_below from id no_more = []
  parents_below from id (absent s) = parents_below from id s
  parents_below from id (unplugged s) = parents_below from id s
  parents_below from id (up s) = parents_below from id s
  parents_below from id (down t s) =
      parents_from from id t ++ parents_below (from + length (walk t)) id s

-- a node's children, by slot: each has the last ID of its tree
abbrev pub child_ids : ℕ → Slots → List ℕ
child_ids from no_more = []
child_ids from (absent s) = child_ids from s
child_ids from (unplugged s) = child_ids from s
child_ids from (up s) = child_ids from s
child_ids from (down t s) = (from + length (walk t) - 1) ∷ child_ids (from + length (walk t)) s

-- the same for each node of a tree
abbrev mutual
  pub children_from : ℕ → Tree → List (List ℕ)
  children_from from (branch a s) = children_below from s ++ child_ids from s ∷ []

  pub children_below : ℕ → Slots → List (List ℕ)
  children_below from no_more = []
  children_below from (absent s) = children_below from s
  children_below from (unplugged s) = children_below from s
  children_below from (up s) = children_below from s
  children_below from (down t s) = children_from from t ++ children_below (from + length (walk t)) s

-- 63, which names no node, stands for the root's parent
pub record Stored (t : Tree) (nodes : List Node) (parents : List ℕ)
    (children : List (List ℕ)) : Type 0 where
  pub bus : IsBusTree t
  pub walk_is : nodes ≡ walk t
  pub above : parents ≡ parents_from 0 63 t
  pub below : children ≡ children_from 0 t

-- the ends of slots with these statuses, below a parent and above children
abbrev pub ends_of : ℕ → List ℕ → List PortStatus → List (Option ℕ)
ends_of parent children [] = []
ends_of parent children (Absent ∷ ps) = None ∷ ends_of parent children ps
ends_of parent children (Unplugged ∷ ps) = None ∷ ends_of parent children ps
ends_of parent children (Up ∷ ps) = Some parent ∷ ends_of parent children ps
ends_of parent [] (Down ∷ ps) = None ∷ ends_of parent [] ps
ends_of parent (k ∷ children) (Down ∷ ps) = Some k ∷ ends_of parent children ps

-- the same for each node
abbrev pub all_ends : List Node → List ℕ → List (List ℕ) → List (List (Option ℕ))
all_ends [] ps ks = []
all_ends (n ∷ ns) [] ks = []
all_ends (n ∷ ns) (p ∷ ps) [] = []
all_ends (n ∷ ns) (p ∷ ps) (k ∷ ks) = ends_of p k n.ports ∷ all_ends ns ps ks
