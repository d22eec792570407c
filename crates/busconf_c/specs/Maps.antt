-- The image of a speed map, made of a tree.
use Rattle.std.specs.Prelude.{ℕ, List, ◌∷◌}
use Rattle.quad_lanes.specs.Pairs.{quads_of}
use Rattle.topology_stack.specs.Tree.{Tree}
use Rattle.topology_map.specs.Sealed.{IsSealed}
use Rattle.speed_map.specs.Rows.{AreRows}

-- the image of a tree's speed map: its rows as quadlets behind the generation, sealed
pub record IsSpeedMap (generation : ℕ) (t : Tree) (quads : List ℕ) : Type 0 where
  pub rows : List ℕ
  pub are_rows : AreRows t rows
  pub image : IsSealed (generation ∷ quads_of rows) quads
