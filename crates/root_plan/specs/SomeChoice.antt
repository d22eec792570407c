-- Which reaches and best roots there are.
use Rattle.std.specs.Prelude.{ℕ, ◌<◌, length}
use Rattle.topology_stack.specs.Tree.{Tree, walk, IsBusTree}
use Rattle.topology_stack.specs.Elect.{IsCandidate}
use Rattle.root_plan.specs.Reach.{IsReach}
use Rattle.root_plan.specs.Choice.{NoneReachesLess, NoneIsHigher}

pub record HasReach (t : Tree) (id : ℕ) : Type 0 where
  pub reach : ℕ
  pub is : IsReach t id reach

-- each node of a bus has a reach
abbrev pub ReachesExist : Type 0
ReachesExist = (t : Tree) (id : ℕ) → IsBusTree t → id < length (walk t) → HasReach t id

-- the candidate of least reach, and of these the one with the highest ID
pub record HasBestRoot (t : Tree) : Type 0 where
  pub root : ℕ
  pub candidate : IsCandidate (walk t) root
  pub far : ℕ
  pub reach : IsReach t root far
  pub least : NoneReachesLess t far
  pub highest : NoneIsHigher t root far

-- each bus with a candidate has a best root
abbrev pub BestRootsExist : Type 0
BestRootsExist =
    (t : Tree) (id : ℕ) → IsBusTree t → IsCandidate (walk t) id → HasBestRoot t
