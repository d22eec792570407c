-- A tree in what a command printed.
use Rattle.std.specs.Prelude.{◌≡◌, ℕ, List, ◌++◌, Any, Some}
use Rattle.cabling.specs.Wiring.{Wiring}
use Rattle.cabling.specs.NodeSet.{Holds}
use Rattle.cable_world.specs.World.{NodeNumber}
use Rattle.settle.specs.declared.report.Outcome.TheVariants as reported
use Rattle.settle.specs.declared.report.Part.{Part}
use Rattle.settle.specs.declared.report.Report.{Report}
use Rattle.settle.specs.ReadBack.{ReadsGap}
use Rattle.settle.specs.Report.{IsTreeFrom}
use Rattle.script_text.specs.ReportText.{IsPartText}
use Rattle.script_told.specs.Bus.{Bus}

-- the piece stands somewhere in the text
abbrev pub IsPieceOf : List ℕ → List ℕ → Type 0
IsPieceOf piece text =
    (before : List ℕ) × (behind : List ℕ) × (text ≡ before ++ (piece ++ behind))

-- The bus keeps a report, in which the part of a node is a tree from this root by these cables; and
-- its text stands in what was printed, with the line `tree root NAME` of that root.
pub record PrintsTree
    (c : Wiring) (from root : NodeNumber) (after : Bus) (text : List ℕ) : Type 0 where
  pub report : Report
  pub kept : after.notes.report ≡ Some report
  pub part : Part
  pub among : Any (λ p. p ≡ part) report.parts
  pub tree : IsTreeFrom c from root part
  pub part_text : List ℕ
  pub is_text : IsPartText after.notes.names part part_text
  pub stands : IsPieceOf part_text text

-- Where the bus keeps a report, and the part of a node in it is a tree, the lines of that tree's
-- nodes say this gap count.
abbrev pub PrintsGap : Bus → NodeNumber → ℕ → Type 0
PrintsGap after from gap =
    (report : Report) (part : Part) (root : NodeNumber) (list : List ℕ) (order : List NodeNumber) →
    after.notes.report ≡ Some report → Any (λ p. p ≡ part) report.parts → Holds part.nodes from →
    part.outcome ≡ reported.Tree root list order → ReadsGap list gap
