-- What a plan asks of a bus, and what it makes of it.
use Rattle.std.specs.Prelude.{◌≡◌, ℕ, ◌<◌, true, List, Some, Any, length}
use Rattle.self_id.specs.declared.standard.Standard.TheVariants.{Ieee2000}
use Rattle.topology_stack.specs.Tree.{Tree, walk, emits, IsBusTreeOf}
use Rattle.topology_stack.specs.Elect.{IsCandidate}
use Rattle.cabling.specs.NodeSet.{Holds}
use Rattle.cabling.specs.Component.{IsComponent}
use Rattle.cabling.specs.Sees.{numbers}
use Rattle.cable_world.specs.declared.act.Act.TheVariants.{Config}
use Rattle.cable_world.specs.World.{CableWorld, NodeNumber, NodeSet}
use Rattle.cable_world.specs.Act.{ActLeads}
use Rattle.cable_world.specs.Run.{IsReached}
use Rattle.cable_world.specs.Outcome.{AtView, IsTree}
use Rattle.bus_manager.specs.Gap.{gap_of}
use Rattle.bus_manager.specs.Hops.{IsHops}
use Rattle.root_plan.specs.declared.choice.RootPlan.{RootPlan}
use Rattle.settle.specs.Report.{IsAfterQuiet, IsReport, IsTreeFrom}
use Rattle.settle.specs.declared.report.Part.{Part}
use Rattle.settle.specs.declared.report.Report.{Report}
use Rattle.settle.specs.declared.report.Outcome.TheVariants as reported

-- The component of a node has settled as a tree, and the plan suits it: one of its nodes has the
-- root's ID, and the gap count is that of its hops.
pub record SuitsTree (w : CableWorld) (from : NodeNumber) (plan : RootPlan) : Type 0 where
  pub set : NodeSet
  pub component : IsComponent w.cabling from set
  pub root : NodeNumber
  pub tree : Tree
  pub is : IsTree w set root tree
  pub place : plan.root_id < length (numbers w.cabling root tree)
  pub hops : ℕ
  pub are_hops : IsHops tree hops
  pub gap : plan.gap ≡ gap_of hops

-- the node with this ID in the component of a node
pub record HasId (w : CableWorld) (from : NodeNumber) (id : ℕ) (node : NodeNumber) : Type 0 where
  pub set : NodeSet
  pub component : IsComponent w.cabling from set
  pub holds : Holds set node
  pub named : AtView w node (λ v. v.id ≡ Some id)

-- The node sends the plan's packet to its component, resets the bus, and the quiet turns are done.
pub record IsAfterPlan
    (w v : CableWorld) (from : NodeNumber) (plan : RootPlan)
    : Type 0 where
  pub sent : CableWorld
  pub act : ActLeads (Config from plan.root_id true (Some plan.gap)) w sent
  pub quiet : IsAfterQuiet sent v

-- each node of the component of a node has this gap count
abbrev pub HaveGap : CableWorld → NodeNumber → ℕ → Type 0
HaveGap w from gap =
    (set : NodeSet) (k : NodeNumber) → IsComponent w.cabling from set → Holds set k →
    AtView w k (λ v. v.gap ≡ gap)

-- The part with a node is a tree whose hops want this gap count.
pub record WantsGap (from : NodeNumber) (gap : ℕ) (part : Part) : Type 0 where
  pub holds : Holds part.nodes from
  pub root : NodeNumber
  pub list : List ℕ
  pub order : List NodeNumber
  pub outcome : part.outcome ≡ reported.Tree root list order
  pub tree : Tree
  pub bus : IsBusTreeOf Ieee2000 tree
  pub emitted : list ≡ emits tree
  pub hops : ℕ
  pub are_hops : IsHops tree hops
  pub gap_is : gap ≡ gap_of hops

-- ---- plans for reported trees

-- a plan for a tree: the root is a candidate there, and the gap count is that of the tree's hops
pub record IsPlanFor (t : Tree) (plan : RootPlan) : Type 0 where
  pub candidate : IsCandidate (walk t) plan.root_id
  pub hops : IsHops t plan.hops
  pub gap : plan.gap ≡ gap_of plan.hops

-- where the component of a node stands as a tree, a plan for the tree that its list tells suits it
abbrev pub PlansSuit : CableWorld → NodeNumber → Type 0
PlansSuit w from =
    (set : NodeSet) (root : NodeNumber) (stands told : Tree) (plan : RootPlan) →
    IsComponent w.cabling from set → IsTree w set root stands →
    IsBusTreeOf Ieee2000 told → emits told ≡ emits stands → IsPlanFor told plan → SuitsTree w from plan

-- where a plan that suits the component of a node was carried out, it came out as planned: the node
-- that had the root's ID is the root that is reported, and every node has the gap count
abbrev pub PlansComeOut : CableWorld → NodeNumber → Type 0
PlansComeOut w from =
    (plan : RootPlan) (v : CableWorld) (report : Report) →
    SuitsTree w from plan → IsAfterPlan w v from plan → IsReport v report →
    ((root : NodeNumber) → HasId w from plan.root_id root →
    Any (IsTreeFrom w.cabling from root) report.parts)
    × HaveGap v from plan.gap

-- ---- a law

abbrev pub CarriedPlansComeOut : Type 0
CarriedPlansComeOut =
    (w : CableWorld) (from : NodeNumber) → ∥ IsReached w ∥₁ → from < length w.cabling →
    PlansComeOut w from
