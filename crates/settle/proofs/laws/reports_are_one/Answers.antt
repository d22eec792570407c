use Rattle.settle.proofs.OneReport.{one-report, one-reported, one-part}
use Rattle.settle.proofs.laws.reports_are_one.Goals as goal

pub returns-clause-world : goal.returns-clause-world
returns-clause-world c = one-report

pub returns-clause-reported : goal.returns-clause-reported
returns-clause-reported c = λ w set one other cabled. one-reported w cabled set one other

pub returns-clause-part : goal.returns-clause-part
returns-clause-part c = λ w one other node cabled. one-part w cabled one other node
