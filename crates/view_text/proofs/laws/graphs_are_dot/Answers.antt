use Rattle.view_text.proofs.GraphDot.{graphs_are_dot}
use Rattle.view_text.proofs.laws.graphs_are_dot.Goals as goal

pub returns : goal.returns
returns c = graphs_are_dot
