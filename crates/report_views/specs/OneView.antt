-- A report has one graph and one line.
use Rattle.std.specs.Prelude.{◌≡◌, ℕ, List}
use Rattle.cabling.specs.Wiring.{Wiring}
use Rattle.settle.specs.declared.report.Report.{Report}
use Rattle.script_text.specs.ReportText.{Names, IsNamedReport}
use Rattle.report_views.specs.ReportGraph.{IsReportGraph}
use Rattle.report_views.specs.ReportJson.{IsReportLine}

-- ---- one at most

abbrev pub ReportsHaveOneGraph : Type 0
ReportsHaveOneGraph =
    (names : Names) (c : Wiring) (report : Report) (one other : List ℕ) →
    IsReportGraph names c report one → IsReportGraph names c report other → one ≡ other

abbrev pub ReportsHaveOneLine : Type 0
ReportsHaveOneLine =
    (names : Names) (number : ℕ) (report : Report) (one other : List ℕ) →
    IsReportLine names number report one → IsReportLine names number report other → one ≡ other

-- ---- one, where the report can be shown

pub record HasGraph (names : Names) (c : Wiring) (report : Report) : Type 0 where
  pub text : List ℕ
  pub is : IsReportGraph names c report text

abbrev pub NamedReportsHaveGraphs : Type 0
NamedReportsHaveGraphs =
    (names : Names) (c : Wiring) (report : Report) → IsNamedReport names report →
    HasGraph names c report

pub record HasLine (names : Names) (number : ℕ) (report : Report) : Type 0 where
  pub line : List ℕ
  pub is : IsReportLine names number report line

abbrev pub NamedReportsHaveLines : Type 0
NamedReportsHaveLines =
    (names : Names) (number : ℕ) (report : Report) → IsNamedReport names report →
    HasLine names number report
