-- A world that has settled has a report.
use Rattle.cable_world.specs.World.{CableWorld}
use Rattle.settle.specs.declared.report.Report.{Report}
use Rattle.settle.specs.Report.{IsReport, HasSettled}

-- each world that has settled has one, whatever memory there is to make it
abbrev pub ReportsExist : Type 0
ReportsExist = (w : CableWorld) → HasSettled w → (report : Report) × IsReport w report
