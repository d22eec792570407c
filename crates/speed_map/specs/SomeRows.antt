-- Which paths and rows there are.
use Rattle.std.specs.Prelude.{ℕ, ◌<◌, List, length}
use Rattle.topology_stack.specs.Tree.{Tree, walk, IsBusTree}
use Rattle.speed_map.specs.Path.{IsPath}
use Rattle.speed_map.specs.Rows.{AreRows}

pub record HasPath (t : Tree) (from to : ℕ) : Type 0 where
  pub ids : List ℕ
  pub is : IsPath t from to ids

-- between two nodes of a bus there is a path
abbrev pub PathsExist : Type 0
PathsExist =
    (t : Tree) (from to : ℕ) → IsBusTree t → from < length (walk t) → to < length (walk t) →
    HasPath t from to

pub record HasRows (t : Tree) : Type 0 where
  pub rows : List ℕ
  pub are : AreRows t rows

-- each bus tree has the rows of a speed map
abbrev pub RowsExist : Type 0
RowsExist = (t : Tree) → IsBusTree t → HasRows t
