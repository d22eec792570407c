-- A tree that was reported is a bus tree's, which elects a manager or none.
use Rattle.std.specs.Prelude.{◌≡◌, Option, Some, length}
use Rattle.topology_stack.specs.Tree.{Tree, walk}
use Rattle.cable_world.specs.World.{CableWorld, NodeNumber}
use Rattle.cable_world.specs.Run.{IsReached}
use Rattle.settle.specs.declared.report.Report.{Report}
use Rattle.settle.specs.Report.{IsReport}
use Rattle.script_told.specs.Bus.{Notes, ReportedTree, tree_with}
use Rattle.script_told.specs.Step.{IsTreeOf, HasManager}

-- the bus tree of a list, whose nodes the order has, and the manager of it, if there is one
pub record IsManaged (tree : ReportedTree) : Type 0 where
  pub shown : Tree
  pub is : IsTreeOf tree.list shown
  pub whole : length tree.order ≡ length (walk shown)
  pub manager : Option NodeNumber
  pub has : HasManager tree manager

-- so it is with each tree of the last report, whatever was the world that it was of
abbrev pub ReportedTreesAreManaged : Type 0
ReportedTreesAreManaged =
    (w : CableWorld) (report : Report) (notes : Notes) (node : NodeNumber) (tree : ReportedTree) →
    ∥ IsReached w ∥₁ → IsReport w report → notes.report ≡ Some report →
    tree_with node notes ≡ Some tree → IsManaged tree
