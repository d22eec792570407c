use Rattle.settle.proofs.SomeReport.{report-exists}
use Rattle.settle.proofs.laws.reports_exist.Goals as goal

pub returns : goal.returns
returns c = λ w h. report-exists c.every_bus_settles.ensures.settles c.components_exist.ensures w h
