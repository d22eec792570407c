-- A component that begins anew, and of whose nodes one alone is to become root.
use Rattle.std.specs.Prelude.{◌≡◌, ◌≢◌, true, false, Any}
use Rattle.cabling.specs.NodeSet.{Holds}
use Rattle.cabling.specs.Component.{IsComponent}
use Rattle.cable_world.specs.World.{CableWorld, NodeNumber, NodeSet}
use Rattle.cable_world.specs.Fresh.{IsFresh}
use Rattle.cable_world.specs.Outcome.{HasNoLoop, AtView}
use Rattle.settle.specs.Report.{IsTreeFrom}
use Rattle.settle.specs.declared.report.Report.{Report}

-- a reset has just begun in the component of a node, and no cables of it form a loop
pub record BeginsAnew (w : CableWorld) (from : NodeNumber) (set : NodeSet) : Type 0 where
  pub component : IsComponent w.cabling from set
  pub no_loop : HasNoLoop w set
  pub fresh : IsFresh w set

-- of the nodes of a set this one is forced, and no other
pub record IsForcedAlone (w : CableWorld) (set : NodeSet) (node : NodeNumber) : Type 0 where
  pub holds : Holds set node
  pub forced : AtView w node (λ v. v.force ≡ true)
  pub others : (k : NodeNumber) → Holds set k → k ≢ node → AtView w k (λ v. v.force ≡ false)

-- Where a component of a world began anew, and one of its nodes alone is forced once the quiet turns
-- are done, that node is the root of the tree that is reported.
abbrev pub ForcedNodeIsRoot : CableWorld → CableWorld → Report → Type 0
ForcedNodeIsRoot w v report =
    (from : NodeNumber) (set : NodeSet) (node : NodeNumber) → BeginsAnew w from set →
    IsForcedAlone v set node → Any (IsTreeFrom w.cabling from node) report.parts
