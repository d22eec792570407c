-- What is asked of one node after the other.
use Rattle.std.specs.Prelude.{◌≡◌, ◌≢◌, ◌⊎◌, ℕ, ◌<◌, ◌≤◌, ◌==◌, Bool, List, None, Some, IsSome, IsSomeAnd, slice_get}
use Rattle.std.specs.Int.{bit_at}
use Rattle.std.specs.List.{list_any}
use Rattle.self_id.specs.declared.node.Attrs.{Attrs}
use Rattle.topology_stack.specs.Tree.{Tree, emits}
use Rattle.cabling.specs.Wiring.{Wiring}
use Rattle.cabling.specs.NodeSet.{Holds}
use Rattle.cabling.specs.Component.{IsComponent, IsNeighbour}
use Rattle.cabling.specs.Labels.{labels}
use Rattle.cabling.specs.Sees.{Sees, numbers}
use Rattle.cable_world.specs.World.{CableWorld, NodeNumber, NodeSet}
use Rattle.cable_world.specs.Outcome.{AtNode, AtView, DrewAlike}
use Rattle.settle.specs.declared.report.Part.{Part}

-- the set is the component of a node
abbrev pub IsPartOf : CableWorld → NodeSet → Type 0
IsPartOf w set = (node : NodeNumber) × IsComponent w.cabling node set

-- no node of the set is below this one
abbrev pub IsLeast : NodeSet → NodeNumber → Type 0
IsLeast set node = (k : NodeNumber) → Holds set k → node ≤ k

-- whether one of the parts has a node
abbrev pub is_in : List Part → NodeNumber → Bool
is_in parts node = list_any (λ part. bit_at part.nodes node == 1) parts

-- ---- trees

-- the cables show a tree from the root that emits the list, and has its nodes in this order
pub record ShowsTree
    (c : Wiring) (attrs : List Attrs) (root : NodeNumber) (list order : List ℕ) : Type 0 where
  pub tree : Tree
  pub seen : Sees c (labels attrs) root None tree
  pub emitted : list ≡ emits tree
  pub walked : order ≡ numbers c root tree

-- the cables show no tree from there
abbrev pub ShowsNoTree : Wiring → List Attrs → NodeNumber → Type 0
ShowsNoTree c attrs root = (t : Tree) → Sees c (labels attrs) root None t → ⊥

-- the node has no parent
abbrev pub IsTop : CableWorld → NodeNumber → Type 0
IsTop w k = AtView w k (λ v. v.parent ≡ None)

abbrev pub HasNoTop : CableWorld → NodeSet → Type 0
HasNoTop w set = (k : NodeNumber) → Holds set k → IsTop w k → ⊥

-- the node shows what it has to in a tree with this root, list and order
pub record FitsTree
    (w : CableWorld) (root : NodeNumber) (list order : List ℕ) (k : NodeNumber) : Type 0 where
  pub parent : k ≢ root → AtView w k (λ v. IsSome v.parent)
  pub id : AtView w k (λ v. IsSomeAnd v.id (λ i. slice_get order i ≡ Some k))
  pub has_list : AtNode w k (λ x. x.state.list.items ≡ list)

abbrev pub AllFit : CableWorld → NodeSet → NodeNumber → List ℕ → List ℕ → Type 0
AllFit w set root list order = (k : NodeNumber) → Holds set k → FitsTree w root list order k

-- ---- contentions

-- two neighbours, the lower first, drew alike
pub record Contend (w : CableWorld) (a b : NodeNumber) : Type 0 where
  pub rising : a < b
  pub neighbours : IsNeighbour w.cabling a b
  pub draws : AtView w a (λ v. AtView w b (λ u. DrewAlike v u))

abbrev pub HasNoRival : CableWorld → NodeNumber → Type 0
HasNoRival w a = (b : NodeNumber) → Contend w a b → ⊥

pub record IsLeastRival (w : CableWorld) (a b : NodeNumber) : Type 0 where
  pub is : Contend w a b
  pub least : (other : NodeNumber) → Contend w a other → b ≤ other

abbrev pub HasNoPair : CableWorld → NodeSet → Type 0
HasNoPair w set = (a b : NodeNumber) → Holds set a → Contend w a b → ⊥

pub record IsLeastPair (w : CableWorld) (set : NodeSet) (a b : NodeNumber) : Type 0 where
  pub is : Contend w a b
  pub holds : Holds set a
  pub first :
      (c d : NodeNumber) → Holds set c → Contend w c d → (a < c) ⊎ ((a ≡ c) × (b ≤ d))
