-- The bus tree, the walk over it, and the list of quadlets that it emits in self identify
-- (IEEE Std 1394-1995, cable environment).
use Rattle.std.specs.Prelude.{◌≡◌, ℕ, ◌+◌, ◌≤◌, List, [], ◌∷◌, ◌++◌, length}
use Rattle.self_id.specs.declared.node.Attrs.{Attrs}
use Rattle.self_id.specs.declared.node.PortStatus.{PortStatus}
use Rattle.self_id.specs.declared.node.PortStatus.TheVariants.{Absent, Unplugged, Up, Down}
use Rattle.self_id.specs.declared.standard.Standard.{Standard}
use Rattle.self_id.specs.Node.{Node, IsNode, IsOf, ups}
use Rattle.self_id.specs.Group.{group}

-- what a node says of itself beside its slots
pub record Label : Type 0 where
  pub attrs : Attrs
  pub kept_a : ℕ
  pub kept_b : ℕ

-- A bus tree is a node with its slots in rising order. Each slot is absent, unplugged, up to the
-- parent, or down to a bus tree.
mutual
  pub data Tree : Type 0 where
    branch : Label → Slots → Tree

  pub data Slots : Type 0 where
    no_more : Slots
    absent : Slots → Slots
    unplugged : Slots → Slots
    up : Slots → Slots
    down : Tree → Slots → Slots

abbrev pub statuses : Slots → List PortStatus
statuses no_more = []
statuses (absent s) = Absent ∷ statuses s
statuses (unplugged s) = Unplugged ∷ statuses s
statuses (up s) = Up ∷ statuses s
statuses (down t s) = Down ∷ statuses s

abbrev pub node_of : Label → Slots → Node
node_of a s = record { attrs = a.attrs; ports = statuses s; kept_a = a.kept_a; kept_b = a.kept_b }

-- The order of self identify: the walks of the trees below the slots, and then the node itself.
-- The ID of a node is its place in the walk of the whole tree, from 0.
abbrev mutual
  pub walk : Tree → List Node
  walk (branch a s) = walk_below s ++ node_of a s ∷ []

  pub walk_below : Slots → List Node
  walk_below no_more = []
  walk_below (absent s) = walk_below s
  walk_below (unplugged s) = walk_below s
  walk_below (up s) = walk_below s
  walk_below (down t s) = walk t ++ walk_below s

-- a tree below a slot: each of its nodes, the outermost too, has exactly one slot that is up
abbrev mutual
  pub IsPart : Tree → Type 0
  IsPart (branch a s) = IsNode (node_of a s) × (ups (statuses s) ≡ 1) × AreParts s

  pub AreParts : Slots → Type 0
  AreParts no_more = Unit {0}
  AreParts (absent s) = AreParts s
  AreParts (unplugged s) = AreParts s
  AreParts (up s) = AreParts s
  AreParts (down t s) = IsPart t × AreParts s

-- a whole tree: the outermost node, the root, has no slot that is up
abbrev pub IsWhole : Tree → Type 0
IsWhole (branch a s) = IsNode (node_of a s) × (ups (statuses s) ≡ 0) × AreParts s

-- each of these nodes has as many slots as this standard lets it show
abbrev pub AreOf : Standard → List Node → Type 0
AreOf standard [] = Unit {0}
AreOf standard (n ∷ ns) = IsOf standard n × AreOf standard ns

-- A bus has at most 63 nodes, since ID 63 means all of them. The nodes of one tree are all of one
-- standard.
pub record IsBusTree (t : Tree) : Type 0 where
  pub whole : IsWhole t
  pub small : length (walk t) ≤ 63
  pub one_standard : (standard : Standard) × AreOf standard (walk t)

-- a bus tree of this standard
pub record IsBusTreeOf (standard : Standard) (t : Tree) : Type 0 where
  pub bus : IsBusTree t
  pub nodes : AreOf standard (walk t)

-- the groups of nodes, whose IDs are counted from `id`
abbrev pub groups : ℕ → List Node → List ℕ
groups id [] = []
groups id (n ∷ ns) = group n id ++ groups (id + 1) ns

-- the self-ID packets of the whole bus
abbrev pub emits : Tree → List ℕ
emits t = groups 0 (walk t)
