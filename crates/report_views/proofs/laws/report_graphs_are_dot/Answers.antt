use Rattle.report_views.proofs.Dots.{graphs_are_dot}
use Rattle.report_views.proofs.laws.report_graphs_are_dot.Goals as goal

pub returns : goal.returns
returns c = graphs_are_dot c.one_tree.ensures
