-- The IDs at the other ends of slots.
use Rattle.std.specs.Prelude.{◌≡◌, ℕ, ◌+◌, ◌-◌, ◌⊎◌, IsSomeAnd, Option, Some, None, List, [], ◌∷◌, ◌++◌, length, slice_get}
use Rattle.self_id.specs.declared.node.PortStatus.{PortStatus}
use Rattle.self_id.specs.declared.node.PortStatus.TheVariants.{Absent, Unplugged, Up}
use Rattle.topology_stack.specs.Tree.{Tree, branch, Slots, no_more, absent, unplugged, up, down, walk, walk_below}

-- The ends of a node's slots in rising order, where its parent has this ID and the IDs of the trees
-- below begin at `from`. The outermost node of a tree has the last ID of it.
abbrev pub slot_ends : ℕ → ℕ → Slots → List (Option ℕ)
slot_ends from parent no_more = []
slot_ends from parent (absent s) = None ∷ slot_ends from parent s
slot_ends from parent (unplugged s) = None ∷ slot_ends from parent s
slot_ends from parent (up s) = Some parent ∷ slot_ends from parent s
slot_ends from parent (down t s) =
    Some (from + length (walk t) - 1) ∷ slot_ends (from + length (walk t)) parent s

-- the same for each node of a tree, in the order of the walk
abbrev mutual
  pub ends_from : ℕ → ℕ → Tree → List (List (Option ℕ))
  ends_from from parent (branch a s) =
      ends_below from (from + length (walk_below s)) s ++ slot_ends from parent s ∷ []

  pub ends_below : ℕ → ℕ → Slots → List (List (Option ℕ))
  ends_below from id no_more = []
  ends_below from id (absent s) = ends_below from id s
  ends_below from id (unplugged s) = ends_below from id s
  ends_below from id (up s) = ends_below from id s
  ends_below from id (down t s) = ends_from from id t ++ ends_below (from + length (walk t)) id s

-- by ID; the root has no slot that is up, so 63, which names no node, stands nowhere
abbrev pub ends : Tree → List (List (Option ℕ))
ends t = ends_from 0 63 t

-- what stands at the other end of this slot of the node with this ID: a node's ID, or nothing
pub record Far (t : Tree) (id slot : ℕ) (far : Option ℕ) : Type 0 where
  pub of_node : List (Option ℕ)
  pub node : slice_get (ends t) id ≡ Some of_node
  pub slot_end : slice_get of_node slot ≡ Some far

-- a slot with this status leads nowhere
abbrev pub IsLoose : PortStatus → Type 0
IsLoose status = (status ≡ Absent) ⊎ (status ≡ Unplugged)

-- so does this slot of the node with this ID
abbrev pub IsLooseAt : Tree → ℕ → ℕ → Type 0
IsLooseAt t id slot =
    IsSomeAnd (slice_get (walk t) id) (λ n. IsSomeAnd (slice_get n.ports slot) IsLoose)

-- this slot of the node with this ID leads up
abbrev pub IsUpAt : Tree → ℕ → ℕ → Type 0
IsUpAt t id slot = IsSomeAnd (slice_get (walk t) id) (λ n. slice_get n.ports slot ≡ Some Up)

-- the parent of the node with this ID stands at the other end of its slot that leads up
pub record IsParent (t : Tree) (id parent : ℕ) : Type 0 where
  pub slot : ℕ
  pub is_up : IsUpAt t id slot
  pub far : Far t id slot (Some parent)
