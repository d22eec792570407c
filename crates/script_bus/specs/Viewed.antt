-- The last report of a script's bus as a text, as a picture and as data.
use Rattle.std.specs.Prelude.{◌≡◌, ℕ, List, [], Option, None, Some}
use Rattle.settle.specs.declared.report.Report.{Report}
use Rattle.script_text.specs.ReportText.{IsReportText}
use Rattle.script_told.specs.Bus.{Notes, Bus}
use Rattle.report_views.specs.ReportGraph.{IsReportGraph}
use Rattle.report_views.specs.ReportJson.{IsReportLine, IsReadLine}

-- the text of the last report, and nothing where an act came since
abbrev pub IsTextIn : Notes → List ℕ → Type 0
IsTextIn notes text = of_report notes.report
  where
    of_report : Option Report → Type 0
    of_report None = text ≡ []
    of_report (Some report) = IsReportText notes.names notes.reports report text

abbrev pub IsTextOf : Bus → List ℕ → Type 0
IsTextOf bus = IsTextIn bus.notes

-- the graph of the last report, and nothing where an act came since
abbrev pub IsGraphOf : Bus → List ℕ → Type 0
IsGraphOf bus text = of_report bus.notes.report
  where
    of_report : Option Report → Type 0
    of_report None = text ≡ []
    of_report (Some report) = IsReportGraph bus.notes.names bus.world.cabling report text

-- the line of the last report, and nothing where an act came since
abbrev pub IsLineOf : Bus → List ℕ → Type 0
IsLineOf bus text = of_report bus.notes.report
  where
    of_report : Option Report → Type 0
    of_report None = text ≡ []
    of_report (Some report) = IsReportLine bus.notes.names bus.notes.reports report text

-- and where there is one, it is read back as the value of the report
abbrev pub IsReadLineOf : Bus → List ℕ → Type 0
IsReadLineOf bus text = of_report bus.notes.report
  where
    of_report : Option Report → Type 0
    of_report None = text ≡ []
    of_report (Some report) = IsReadLine bus.notes.names bus.notes.reports report text
