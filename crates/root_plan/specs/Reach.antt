-- How far the nodes of a bus lie from each other.
use Rattle.std.specs.Prelude.{◌≡◌, ℕ, ◌<◌, ◌≤◌, List, length}
use Rattle.topology_stack.specs.Tree.{Tree, walk}
use Rattle.speed_map.specs.Path.{IsPath}

-- the distance of two nodes: the number of cables on the path between them, which is that of the
-- nodes behind the first
pub record IsDistance (t : Tree) (from to distance : ℕ) : Type 0 where
  pub ids : List ℕ
  pub path : IsPath t from to ids
  pub long : length ids ≡ distance

-- the reach of a node: its greatest distance from a node of the bus
pub record IsReach (t : Tree) (id reach : ℕ) : Type 0 where
  pub farthest : ℕ
  pub there : farthest < length (walk t)
  pub reached : IsDistance t id farthest reach
  pub greatest : (other distance : ℕ) → IsDistance t id other distance → distance ≤ reach
