use Rattle.report_views.proofs.OneView.{one-graph, one-line}
use Rattle.report_views.proofs.laws.reports_have_one_view.Goals as goal

pub returns-clause-graph : goal.returns-clause-graph
returns-clause-graph c = one-graph c.one_tree.ensures

pub returns-clause-line : goal.returns-clause-line
returns-clause-line c = one-line c.one_tree.ensures
