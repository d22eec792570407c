-- Which node is best as the root of a bus: of those whose link is active and that contend, the one
-- that lies nearest to all nodes.
use Rattle.std.specs.Prelude.{ℕ, ◌≤◌}
use Rattle.topology_stack.specs.Tree.{Tree, walk}
use Rattle.topology_stack.specs.Elect.{IsCandidate}
use Rattle.root_plan.specs.Reach.{IsReach}

-- no candidate has a lesser reach
abbrev pub NoneReachesLess : Tree → ℕ → Type 0
NoneReachesLess t least =
    (id reach : ℕ) → IsCandidate (walk t) id → IsReach t id reach → least ≤ reach

-- of the candidates with this reach none has a higher ID
abbrev pub NoneIsHigher : Tree → ℕ → ℕ → Type 0
NoneIsHigher t root reach =
    (id : ℕ) → IsCandidate (walk t) id → IsReach t id reach → id ≤ root
