-- Paths through a bus tree, and the number of cables on the longest one.
use Rattle.std.specs.Prelude.{◌≡◌, ℕ, zero, suc, ◌+◌, ◌<◌, ◌≤◌, ◌⊎◌, List, length}
use Rattle.topology_stack.specs.Tree.{Tree, branch, Slots, no_more, absent, unplugged, up, down, walk, IsBusTree}
use Rattle.speed_map.specs.Path.{IsPath as IsNodePath}

-- a child below one of these slots
abbrev pub SomeChild : (Tree → Type 0) → Slots → Type 0
SomeChild P no_more = ⊥
SomeChild P (absent s) = SomeChild P s
SomeChild P (unplugged s) = SomeChild P s
SomeChild P (up s) = SomeChild P s
SomeChild P (down t s) = P t ⊎ SomeChild P s

-- a path goes over so many cables from the outermost node of a tree down
abbrev pub GoesDown : ℕ → Tree → Type 0
GoesDown zero t = Unit {0}
GoesDown (suc k) (branch a s) = SomeChild (GoesDown k) s

-- a path goes over so many cables from below one slot up to the node and down below another slot
abbrev pub PathTurns : ℕ → Slots → Type 0
PathTurns k no_more = ⊥
PathTurns k (absent s) = PathTurns k s
PathTurns k (unplugged s) = PathTurns k s
PathTurns k (up s) = PathTurns k s
PathTurns k (down t s) =
    ((i j : ℕ) × GoesDown i t × SomeChild (GoesDown j) s × (k ≡ (i + 1) + (j + 1)))
    ⊎ PathTurns k s

-- A path through a tree goes over so many cables. It has a highest node: the outermost one, from
-- which it goes down or at which it turns, or one further below.
abbrev mutual
  pub IsPath : ℕ → Tree → Type 0
  IsPath k (branch a s) = GoesDown k (branch a s) ⊎ (PathTurns k s ⊎ IsPathBelow k s)

  pub IsPathBelow : ℕ → Slots → Type 0
  IsPathBelow k no_more = ⊥
  IsPathBelow k (absent s) = IsPathBelow k s
  IsPathBelow k (unplugged s) = IsPathBelow k s
  IsPathBelow k (up s) = IsPathBelow k s
  IsPathBelow k (down t s) = IsPath k t ⊎ IsPathBelow k s

-- the hops of a bus: the cables of a path that no other one exceeds
pub record IsHops (t : Tree) (hops : ℕ) : Type 0 where
  pub path : IsPath hops t
  pub longest : (k : ℕ) → IsPath k t → k ≤ hops

-- The hops are those of a longest path from node to node: as many nodes stand behind its first as
-- cables are on it, and no path between two nodes of the bus has more.
pub record IsLongestPath (t : Tree) (hops : ℕ) : Type 0 where
  pub from : ℕ
  pub to : ℕ
  pub ids : List ℕ
  pub there : from < length (walk t)
  pub path : IsNodePath t from to ids
  pub long : length ids ≡ hops
  pub longest :
      (a b : ℕ) (others : List ℕ) → a < length (walk t) → IsNodePath t a b others →
      length others ≤ hops

abbrev pub HopsAreOfNodePaths : Type 0
HopsAreOfNodePaths = (t : Tree) (hops : ℕ) → IsBusTree t → IsHops t hops → IsLongestPath t hops
