use Rattle.topology_stack.proofs.Lemmas.{one_tree}
use Rattle.topology_stack.proofs.answers.one_tree.Goals as goal

pub returns : goal.returns
returns c = one_tree
