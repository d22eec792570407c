-- The rows of a speed map: 64 bytes a node, one for each ID.
use Rattle.std.specs.Prelude.{◌≡◌, ℕ, ◌+◌, ◌*◌, ◌<◌, ◌≤◌, List, length, slice_index}
use Rattle.topology_stack.specs.Tree.{Tree, walk}
use Rattle.speed_map.specs.Path.{IsPath, path_speed}

-- the byte for one node in the row of another
abbrev pub cell : List ℕ → ℕ → ℕ → ℕ
cell rows from to = slice_index rows (64 * from + to)

-- a byte is the speed of the path between two nodes
pub record IsSpeed (t : Tree) (from to speed : ℕ) : Type 0 where
  pub ids : List ℕ
  pub path : IsPath t from to ids
  pub speed_is : speed ≡ path_speed t from ids

-- each node has a row, with the speeds of its paths to all nodes, and then zeros
pub record AreRows (t : Tree) (rows : List ℕ) : Type 0 where
  pub size : length rows ≡ 64 * length (walk t)
  pub speeds :
      (from to : ℕ) → from < length (walk t) → to < length (walk t) →
      IsSpeed t from to (cell rows from to)
  pub zeros :
      (from to : ℕ) → from < length (walk t) → length (walk t) ≤ to → to < 64 →
      cell rows from to ≡ 0
