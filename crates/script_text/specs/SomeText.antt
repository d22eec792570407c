-- A report has a text.
use Rattle.std.specs.Prelude.{◌≡◌, ℕ, List, length}
use Rattle.cable_world.specs.World.{CableWorld}
use Rattle.cable_world.specs.Run.{IsReached}
use Rattle.settle.specs.declared.report.Report.{Report}
use Rattle.settle.specs.Report.{IsReport, IsAfterQuiet, HasSettled}
use Rattle.script_text.specs.ReportText.{Names, IsNamedReport, IsReportText}

-- the text of a report
pub record HasText (names : Names) (number : ℕ) (report : Report) : Type 0 where
  pub text : List ℕ
  pub is : IsReportText names number report text

-- each report that can be shown has one
abbrev pub NamedReportsHaveTexts : Type 0
NamedReportsHaveTexts =
    (names : Names) (number : ℕ) (report : Report) → IsNamedReport names report →
    HasText names number report

-- the report of a world, and its text
pub record HasReportText (w : CableWorld) (names : Names) (number : ℕ) : Type 0 where
  pub report : Report
  pub is : IsReport w report
  pub text : List ℕ
  pub told : IsReportText names number report text

-- each world that has settled has both, where there are as many names as nodes
abbrev pub SettledWorldsHaveTexts : Type 0
SettledWorldsHaveTexts =
    (w : CableWorld) (names : Names) (number : ℕ) → HasSettled w → length names ≡ length w.nodes →
    HasReportText w names number

-- so has each to which as many turns lead as a reached world is given
abbrev pub QuietWorldsHaveTexts : Type 0
QuietWorldsHaveTexts =
    (w v : CableWorld) (names : Names) (number : ℕ) → IsReached w → IsAfterQuiet w v →
    length names ≡ length v.nodes → HasReportText v names number
