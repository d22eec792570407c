-- Paths between the nodes of a bus, and the speed of a path (IEEE Std 1394-1995, SPEED_MAP).
use Rattle.std.specs.Prelude.{◌≡◌, ◌≢◌, ℕ, List, [], ◌∷◌, Some, map, min, slice_index}
use Rattle.self_id.specs.Node.{Node}
use Rattle.topology_stack.specs.Tree.{Tree, walk}
use Rattle.topology_stack.specs.Far.{Far}

-- a cable joins two nodes: the second stands at the other end of a slot of the first
pub record Joined (t : Tree) (from to : ℕ) : Type 0 where
  pub slot : ℕ
  pub far : Far t from slot (Some to)

-- a node isn't one of these
abbrev pub IsNew : ℕ → List ℕ → Type 0
IsNew id [] = Unit {0}
IsNew id (other ∷ ids) = (id ≢ other) × IsNew id ids

-- A path leads from one node to another. `ids` are the nodes behind the first: each is joined to
-- the one before it, and no node comes twice.
abbrev pub IsPath : Tree → ℕ → ℕ → List ℕ → Type 0
IsPath t from to [] = from ≡ to
IsPath t from to (next ∷ ids) = Joined t from next × IsNew from (next ∷ ids) × IsPath t next to ids

-- Between two nodes of a bus there is no second path.
abbrev pub HasOnePath : Tree → ℕ → ℕ → Type 0
HasOnePath t from to =
    (p q : List ℕ) → IsPath t from to p → IsPath t from to q →
    p ≡ q

-- the speed code of a node; the code 3, which later standards use, counts as 2
abbrev pub node_speed : Node → ℕ
node_speed n = min n.attrs.speed 2

abbrev pub speed_at : Tree → ℕ → ℕ
speed_at t id = slice_index (map node_speed (walk t)) id

-- the speed of a path is the least of its nodes, both ends included
abbrev pub path_speed : Tree → ℕ → List ℕ → ℕ
path_speed t from [] = speed_at t from
path_speed t from (next ∷ ids) = min (speed_at t from) (path_speed t next ids)
