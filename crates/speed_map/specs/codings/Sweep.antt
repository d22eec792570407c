-- How far the two sweeps over the rows have come. No public contract cites this file: public
-- clauses speak of paths.
use Rattle.std.specs.Prelude.{◌≡◌, ◌≢◌, ℕ, ◌+◌, ◌*◌, ◌<◌, ◌≤◌, ◌⊎◌, List, [], ◌∷◌, ◌++◌, length, min, slice_index, Some}
use Rattle.topology_stack.specs.Tree.{Tree, branch, Slots, no_more, absent, unplugged, up, down, walk}
use Rattle.topology_stack.specs.Far.{Far}
use Rattle.speed_map.specs.Path.{IsPath, path_speed}
use Rattle.speed_map.specs.Rows.{cell}

-- The first IDs of the subtrees, by ID. The IDs of a node's subtree run from the first one to its
-- own.
abbrev mutual
  pub firsts_from : ℕ → Tree → List ℕ
  firsts_from from (branch a s) = firsts_below from s ++ from ∷ []

  pub firsts_below : ℕ → Slots → List ℕ
  firsts_below from no_more = []
  firsts_below from (absent s) = firsts_below from s
  firsts_below from (unplugged s) = firsts_below from s
  firsts_below from (up s) = firsts_below from s
  firsts_below from (down t s) = firsts_from from t ++ firsts_below (from + length (walk t)) s

unfoldable pub first_of : Tree → ℕ → ℕ
first_of t id = slice_index (firsts_from 0 t) id

-- these first IDs are kept, of the nodes with lower IDs
abbrev pub KeepFirsts : Tree → List ℕ → ℕ → Type 0
KeepFirsts t firsts id = (k : ℕ) → k < id → slice_index firsts k ≡ first_of t k

-- a node is in the subtree of another
pub record IsUnder (t : Tree) (id top : ℕ) : Type 0 where
  pub low : first_of t top ≤ id
  pub high : id ≤ top

-- a part of a row was written from the row of another node
pub record Written (old new : List ℕ) (of to low high cap : ℕ) : Type 0 where
  pub part : (m : ℕ) → low ≤ m → m < high → cell new to m ≡ min (cell old of m) cap
  pub before : (m : ℕ) → m < low → cell new to m ≡ cell old to m
  pub behind : (m : ℕ) → high ≤ m → m < 64 → cell new to m ≡ cell old to m
  pub others : (n m : ℕ) → n ≢ to → m < 64 → cell new n m ≡ cell old n m

-- each node that a path down comes to lies between its ends
abbrev pub AllDown : Tree → ℕ → ℕ → List ℕ → Type 0
AllDown t from to [] = Unit {0}
AllDown t from to (k ∷ ids) = (k < from) × IsUnder t to k × AllDown t from to ids

-- a byte is the speed of a path down to a node of the subtree
pub record IsDown (t : Tree) (from to speed : ℕ) : Type 0 where
  pub ids : List ℕ
  pub path : IsPath t from to ids
  pub down_all : AllDown t from to ids
  pub speed_is : speed ≡ path_speed t from ids

-- one of its ends is in the subtree of each node that a path comes to
abbrev pub AllBetween : Tree → ℕ → ℕ → List ℕ → Type 0
AllBetween t from to [] = Unit {0}
AllBetween t from to (k ∷ ids) =
    (k < length (walk t)) × (IsUnder t from k ⊎ IsUnder t to k) × AllBetween t from to ids

-- a byte is the speed of a path to any node
pub record Leads (t : Tree) (from to speed : ℕ) : Type 0 where
  pub ids : List ℕ
  pub path : IsPath t from to ids
  pub between : AllBetween t from to ids
  pub speed_is : speed ≡ path_speed t from ids

-- nothing stands behind the last node
abbrev pub IsClear : Tree → List ℕ → Type 0
IsClear t rows = (n m : ℕ) → n < length (walk t) → length (walk t) ≤ m → m < 64 → cell rows n m ≡ 0

-- the row of a node is filled for its subtree
abbrev pub IsLower : Tree → List ℕ → ℕ → Type 0
IsLower t rows id = (m : ℕ) → IsUnder t m id → IsDown t id m (cell rows id m)

-- the row of a node is filled
abbrev pub IsFull : Tree → List ℕ → ℕ → Type 0
IsFull t rows id = (m : ℕ) → m < length (walk t) → Leads t id m (cell rows id m)

-- the first sweep has come to a node
pub record Rising (t : Tree) (rows : List ℕ) (id : ℕ) : Type 0 where
  pub size : length rows ≡ 64 * length (walk t)
  pub clear : IsClear t rows
  pub lower : (k : ℕ) → k < id → IsLower t rows k

-- the first sweep has come to a slot of a node, whose first ID is so far this one
pub record Taking (t : Tree) (rows : List ℕ) (id slot first : ℕ) : Type 0 where
  pub rising : Rising t rows id
  pub own : IsDown t id id (cell rows id id)
  pub first_low : first_of t id ≤ first
  pub first_high : first ≤ id
  pub taken :
      (s k : ℕ) → s < slot → Far t id s (Some k) → k < id →
      (first ≤ first_of t k) × ((m : ℕ) → IsUnder t m k → IsDown t id m (cell rows id m))

-- the second sweep has come down to a node
pub record Falling (t : Tree) (rows : List ℕ) (id : ℕ) : Type 0 where
  pub size : length rows ≡ 64 * length (walk t)
  pub clear : IsClear t rows
  pub lower : (k : ℕ) → k < id → IsLower t rows k
  pub full : (k : ℕ) → id ≤ k → k < length (walk t) → IsFull t rows k
