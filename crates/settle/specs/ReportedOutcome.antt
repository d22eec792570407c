-- What is reported of a component is what it came to.
use Rattle.std.specs.Prelude.{◌≡◌, ◌↔◌}
use Rattle.topology_stack.specs.Tree.{emits}
use Rattle.cabling.specs.Wiring.{IsCabling}
use Rattle.cabling.specs.Sees.{numbers}
use Rattle.cable_world.specs.World.{CableWorld, NodeSet}
use Rattle.cable_world.specs.Outcome.{Ending, loop, tree, contention, IsOutcome}
use Rattle.settle.specs.declared.report.Outcome.{Outcome}
use Rattle.settle.specs.declared.report.Outcome.TheVariants as reported
use Rattle.settle.specs.Report.{AreThere}
use Rattle.settle.specs.Reported.{IsReported}

-- a report tells an outcome: the core; the root, with the tree's list and its nodes in the order of
-- the walk; the two ends in contention
abbrev pub TellsEnding : CableWorld → Outcome → Ending → Type 0
TellsEnding w (reported.Loop nodes) (loop core) = nodes ≡ core
TellsEnding w (reported.Tree root list order) (tree top t) =
    (root ≡ top) × (list ≡ emits t) × (order ≡ numbers w.cabling top t)
TellsEnding w (reported.Contention a b) (contention low high) = (a ≡ low) × (b ≡ high)
TellsEnding w r o = ⊥

-- it is reported of a component exactly where the component has an outcome that it tells
abbrev pub ReportedIsOutcome : Type 0
ReportedIsOutcome =
    (w : CableWorld) (set : NodeSet) (r : Outcome) → IsCabling w.cabling → AreThere w set →
    IsReported w set r ↔ ((o : Ending) × IsOutcome w set o × TellsEnding w r o)
