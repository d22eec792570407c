use Rattle.report_views.proofs.SomeView.{some-graph, some-line}
use Rattle.report_views.proofs.laws.reports_have_views.Goals as goal

pub returns-clause-graphs : goal.returns-clause-graphs
returns-clause-graphs c = some-graph

pub returns-clause-lines : goal.returns-clause-lines
returns-clause-lines c = some-line
