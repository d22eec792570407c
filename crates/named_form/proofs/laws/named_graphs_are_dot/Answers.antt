use Rattle.named_form.proofs.NamedDot.{named_graphs_are_dot}
use Rattle.named_form.proofs.laws.named_graphs_are_dot.Goals as goal

pub returns : goal.returns
returns c = named_graphs_are_dot
