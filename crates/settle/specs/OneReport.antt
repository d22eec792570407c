-- A world has one report at most, and a component one part of it.
use Rattle.std.specs.Prelude.{◌≡◌}
use Rattle.cabling.specs.Wiring.{IsCabling}
use Rattle.cabling.specs.NodeSet.{Holds}
use Rattle.cable_world.specs.World.{CableWorld, NodeNumber, NodeSet}
use Rattle.cable_world.specs.Run.{IsReached}
use Rattle.settle.specs.declared.report.Outcome.{Outcome}
use Rattle.settle.specs.declared.report.Part.{Part}
use Rattle.settle.specs.declared.report.Report.{Report}
use Rattle.settle.specs.Report.{AreThere, IsPart, IsReport}
use Rattle.settle.specs.Reported.{IsReported}

-- two reports of a world are the same parts in the same order
abbrev pub OneReportAtMost : Type 0
OneReportAtMost =
    (w : CableWorld) (one other : Report) → ∥ IsReached w ∥₁ → IsReport w one → IsReport w other →
    one ≡ other

-- of a component one outcome at most is reported
abbrev pub OneReportedAtMost : Type 0
OneReportedAtMost =
    (w : CableWorld) (set : NodeSet) (one other : Outcome) → IsCabling w.cabling → AreThere w set →
    IsReported w set one → IsReported w set other → one ≡ other

-- two parts that hold a common node are one
abbrev pub OnePartAtMost : Type 0
OnePartAtMost =
    (w : CableWorld) (one other : Part) (node : NodeNumber) → IsCabling w.cabling → IsPart w one →
    IsPart w other → Holds one.nodes node → Holds other.nodes node → one ≡ other
