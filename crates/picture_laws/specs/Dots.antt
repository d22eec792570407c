-- The picture of a script is a graph in DOT.
use Rattle.std.specs.Prelude.{◌≡◌, List, ℕ, Ok, Some}
use Rattle.settle.specs.declared.report.Report.{Report}
use Rattle.settle.specs.ReadBack.{IsReadBack, AtTrees}
use Rattle.settle.specs.Report.{IsReport}
use Rattle.report_views.specs.Dots.{IsReportDot}
use Rattle.script_told.specs.Bus.{Bus}
use Rattle.script_told.specs.Run.{ScriptRun, IsRun}
use Rattle.script_run.specs.Viewed.{IsPictured}

-- The text is a graph in DOT of the report at the end of a script's run, with a node for each node of the bus
-- and an edge for each of its cables, and no others. Each tree of the report is the one that the cables show.
pub record IsScriptDot (bytes text : List ℕ) : Type 0 where
  pub run : ScriptRun
  pub is : IsRun bytes run
  pub bus : Bus
  pub ends : run.end ≡ Ok bus
  pub report : Report
  pub last : bus.notes.report ≡ Some report
  pub reported : IsReport bus.world report
  pub trees : AtTrees (IsReadBack bus.world) report
  pub drawn : IsReportDot bus.world.cabling report text

-- ---- laws

-- whatever the script
abbrev pub PicturesAreDot : Type 0
PicturesAreDot = (bytes text : List ℕ) → IsPictured bytes (Ok text) → IsScriptDot bytes text
