-- What is reported of a component.
use Rattle.std.specs.Prelude.{◌≡◌, ℕ, true, List, None}
use Rattle.topology_stack.specs.Tree.{Tree, emits}
use Rattle.cabling.specs.NodeSet.{Holds, IsEmpty}
use Rattle.cabling.specs.Looped.{IsCore}
use Rattle.cabling.specs.Sees.{numbers}
use Rattle.cable_world.specs.World.{CableWorld, NodeNumber, NodeSet}
use Rattle.port_state.specs.declared.signal.Phase.TheVariants.{TreeStart}
use Rattle.cable_world.specs.Outcome.{AtView, IsTree, IsContention, IsFirstPair}
use Rattle.settle.specs.declared.report.Outcome.{Outcome}
use Rattle.settle.specs.declared.report.Outcome.TheVariants as reported

-- the component came to no tree
abbrev pub IsNoTree : CableWorld → NodeSet → Type 0
IsNoTree w set = (root : NodeNumber) (t : Tree) → IsTree w set root t → ⊥

-- A loop: the core of the component isn't empty. Every node of it reports that the configuration
-- timed out, and no node of the component has an ID.
pub record ReportsLoop (w : CableWorld) (set core : NodeSet) : Type 0 where
  pub is : IsCore w.cabling set core
  pub some : IsEmpty core → ⊥
  pub timed_out :
      (k : NodeNumber) → Holds core k →
      AtView w k (λ v. (v.phase ≡ TreeStart) × (v.timed_out ≡ true))
  pub unnamed : (k : NodeNumber) → Holds set k → AtView w k (λ v. v.id ≡ None)

-- a tree, with the list that it emits, and the nodes in the order of its walk
pub record ReportsTree
    (w : CableWorld) (set : NodeSet) (root : NodeNumber) (list : List ℕ) (order : List NodeNumber)
    : Type 0 where
  pub tree : Tree
  pub is : IsTree w set root tree
  pub emitted : list ≡ emits tree
  pub walked : order ≡ numbers w.cabling root tree

-- the first pair that contends, where there is no tree
pub record ReportsContention (w : CableWorld) (set : NodeSet) (a b : NodeNumber) : Type 0 where
  pub is : IsContention w set a b
  pub first : IsFirstPair w set a b
  pub no_tree : IsNoTree w set

-- what is reported of a component
abbrev pub IsReported : CableWorld → NodeSet → Outcome → Type 0
IsReported w set (reported.Loop core) = ReportsLoop w set core
IsReported w set (reported.Tree root list order) = ReportsTree w set root list order
IsReported w set (reported.Contention a b) = ReportsContention w set a b
