-- The text of a tree's maps: the topology map and the speed map as images, a quadlet a line.
use Rattle.std.specs.Prelude.{◌≡◌, ℕ, List, [], ◌∷◌, ◌++◌, length, codes}
use Rattle.quad_lanes.specs.Pairs.{quads_of}
use Rattle.topology_stack.specs.Hex.{hex}
use Rattle.topology_stack.specs.Tree.{Tree, walk, emits}
use Rattle.topology_map.specs.Map.{IsMap}
use Rattle.topology_map.specs.Sealed.{IsSealed}
use Rattle.speed_map.specs.Rows.{AreRows}

-- a quadlet as eight digits and a line feed
unfoldable pub quad_line : ℕ → List ℕ
quad_line q = hex 8 q ++ codes "\n"

abbrev pub quad_lines : List ℕ → List ℕ
quad_lines [] = []
quad_lines (q ∷ qs) = quad_line q ++ quad_lines qs

-- the text of two images
abbrev pub images_text : List ℕ → List ℕ → List ℕ
images_text topology speed =
    codes "topology\n" ++ (quad_lines topology ++ (codes "speed\n" ++ quad_lines speed))

-- the text shows the images of a tree's maps with this generation
pub record IsMapsText (generation : ℕ) (t : Tree) (text : List ℕ) : Type 0 where
  pub topology : List ℕ
  pub topology_is : IsMap generation (length (walk t)) (emits t) topology
  pub rows : List ℕ
  pub rows_are : AreRows t rows
  pub speed : List ℕ
  pub speed_is : IsSealed (generation ∷ quads_of rows) speed
  pub text_is : text ≡ images_text topology speed
