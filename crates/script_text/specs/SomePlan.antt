-- Each bus tree with a candidate has a plan.
use Rattle.std.specs.Prelude.{ℕ}
use Rattle.topology_stack.specs.Tree.{Tree, walk, IsBusTree}
use Rattle.topology_stack.specs.Elect.{IsCandidate}
use Rattle.root_plan.specs.declared.choice.RootPlan.{RootPlan}
use Rattle.root_plan.specs.Plan.{IsPlan}

pub record HasPlan (t : Tree) : Type 0 where
  pub plan : RootPlan
  pub is : IsPlan t plan

abbrev pub PlansExist : Type 0
PlansExist = (t : Tree) (id : ℕ) → IsBusTree t → IsCandidate (walk t) id → HasPlan t
