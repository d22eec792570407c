-- What a report says of trees is read back.
use Rattle.std.specs.Prelude.{◌≡◌, ℕ, ◌<◌, None, List, All, length}
use Rattle.self_id.specs.declared.standard.Standard.TheVariants.{Ieee2000}
use Rattle.self_id.specs.Node.{Node}
use Rattle.topology_stack.specs.Tree.{Tree, IsBusTreeOf, walk, emits}
use Rattle.cabling.specs.Labels.{labels}
use Rattle.cabling.specs.Sees.{Sees, numbers}
use Rattle.cable_world.specs.World.{CableWorld, NodeNumber}
use Rattle.cable_world.specs.Run.{IsReached}
use Rattle.cable_world.specs.Outcome.{attrs_now}
use Rattle.settle.specs.declared.report.Outcome.{Outcome}
use Rattle.settle.specs.declared.report.Outcome.TheVariants as reported
use Rattle.settle.specs.declared.report.Report.{Report}
use Rattle.settle.specs.Report.{IsReport}

-- the cables show this tree from the root, with the attributes of now
abbrev pub IsSeen : CableWorld → NodeNumber → Tree → Type 0
IsSeen w root t = Sees w.cabling (labels (attrs_now w)) root None t

-- The list is a bus tree's of IEEE 1394a-2000, which is the one that the cables show from the root.
-- The order has the nodes of its walk, which exist.
pub record IsReadBack
    (w : CableWorld) (root : NodeNumber) (list : List ℕ) (order : List NodeNumber) : Type 0 where
  pub tree : Tree
  pub bus : IsBusTreeOf Ieee2000 tree
  pub emitted : emits tree ≡ list
  pub seen : IsSeen w root tree
  pub walked : order ≡ numbers w.cabling root tree
  pub whole : length order ≡ length (walk tree)
  pub top : root < length w.cabling
  pub there : All (λ (node : NodeNumber). node < length w.cabling) order

-- the tree that is read from the list is the tree that the cables show from the root
abbrev pub IsTheCables : CableWorld → NodeNumber → List ℕ → Type 0
IsTheCables w root list =
    (t u : Tree) → IsBusTreeOf Ieee2000 t → emits t ≡ list → IsSeen w root u → t ≡ u

-- each node that is read from the list has this gap count
abbrev pub ReadsGap : List ℕ → ℕ → Type 0
ReadsGap list gap =
    (tree : Tree) → IsBusTreeOf Ieee2000 tree → emits tree ≡ list →
    All (λ (n : Node). n.attrs.gap ≡ gap) (walk tree)

-- this holds of an outcome that is a tree
abbrev pub IfTree : (NodeNumber → List ℕ → List NodeNumber → Type 0) → Outcome → Type 0
IfTree P (reported.Tree root list order) = P root list order
IfTree P (reported.Contention a b) = Unit {0}
IfTree P (reported.Loop core) = Unit {0}

-- and of each tree of a report
abbrev pub AtTrees : (NodeNumber → List ℕ → List NodeNumber → Type 0) → Report → Type 0
AtTrees P report = All (λ part. IfTree P part.outcome) report.parts

-- ---- laws

-- each list in a report is accepted, and its nodes exist
abbrev pub ListsAreReadBack : Type 0
ListsAreReadBack =
    (w : CableWorld) (report : Report) → ∥ IsReached w ∥₁ → IsReport w report →
    AtTrees (IsReadBack w) report

-- what is read from it are the cables
abbrev pub ListsAreTheCables : Type 0
ListsAreTheCables =
    (w : CableWorld) (report : Report) → ∥ IsReached w ∥₁ → IsReport w report →
    AtTrees (λ root list order. IsTheCables w root list) report
