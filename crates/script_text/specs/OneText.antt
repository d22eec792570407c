-- A report has one text at most.
use Rattle.std.specs.Prelude.{◌≡◌, ℕ, List}
use Rattle.settle.specs.declared.report.Report.{Report}
use Rattle.script_text.specs.ReportText.{Names, IsReportText}

abbrev pub ReportsHaveOneText : Type 0
ReportsHaveOneText =
    (names : Names) (number : ℕ) (report : Report) (one other : List ℕ) →
    IsReportText names number report one → IsReportText names number report other → one ≡ other
