-- How the distance of two nodes is found. No public contract cites this file.
use Rattle.std.specs.Prelude.{ℕ, ◌+◌, ◌<◌, ◌≤◌, ◌⊎◌, List, [], ◌∷◌, length}
use Rattle.topology_stack.specs.Tree.{Tree, walk}
use Rattle.topology_stack.specs.Elect.{IsCandidate}
use Rattle.speed_map.specs.Path.{IsPath}
use Rattle.root_plan.specs.Reach.{IsDistance, IsReach}

-- a path between two nodes goes no lower than the lower of them
abbrev pub StaysAbove : ℕ → ℕ → List ℕ → Type 0
StaysAbove low high [] = Unit {0}
StaysAbove low high (k ∷ ids) = ((low ≤ k) ⊎ (high ≤ k)) × StaysAbove low high ids

-- Two climbed from two nodes to two others, over so many cables. They left only nodes behind that
-- come before both of the others, so a path between these that doesn't go so low closes theirs.
abbrev pub Closes : Tree → ℕ → ℕ → ℕ → ℕ → ℕ → Type 0
Closes t from to low high climbed =
    (ids : List ℕ) → IsPath t low high ids → StaysAbove low high ids →
    IsDistance t from to (climbed + length ids)

-- the greatest distance of a node from those with lower IDs than this one, and from itself
pub record ReachSoFar (t : Tree) (id others reach : ℕ) : Type 0 where
  pub farthest : ℕ
  pub there : farthest < length (walk t)
  pub reached : IsDistance t id farthest reach
  pub greatest :
      (other distance : ℕ) → other < others → IsDistance t id other distance → distance ≤ reach

-- of the candidates with this ID or a higher one this one is the best
pub record BestFrom (t : Tree) (lowest root reach : ℕ) : Type 0 where
  pub candidate : IsCandidate (walk t) root
  pub above : lowest ≤ root
  pub is_reach : IsReach t root reach
  pub least :
      (id other : ℕ) → lowest ≤ id → IsCandidate (walk t) id → IsReach t id other → reach ≤ other
  pub highest :
      (id : ℕ) → lowest ≤ id → IsCandidate (walk t) id → IsReach t id reach → id ≤ root
