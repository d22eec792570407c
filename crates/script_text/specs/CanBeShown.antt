-- A report of a world has what its text needs.
use Rattle.std.specs.Prelude.{◌≡◌, length}
use Rattle.cable_world.specs.World.{CableWorld}
use Rattle.settle.specs.declared.report.Report.{Report}
use Rattle.settle.specs.Report.{IsReport}
use Rattle.script_text.specs.ReportText.{Names, IsNamedReport}

-- each report of the world can be shown, where there are as many names as nodes
abbrev pub CanBeShown : CableWorld → Type 0
CanBeShown w =
    (report : Report) (names : Names) → IsReport w report → length names ≡ length w.nodes →
    IsNamedReport names report
