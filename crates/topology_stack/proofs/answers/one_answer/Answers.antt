use Rattle.topology_stack.proofs.Lemmas.{one_of, no_fault, one_fault}
use Rattle.topology_stack.proofs.answers.one_answer.Goals as goal

pub returns-clause-some : goal.returns-clause-some
returns-clause-some c = one_of

pub returns-clause-tree : goal.returns-clause-tree
returns-clause-tree c = no_fault

pub returns-clause-fault : goal.returns-clause-fault
returns-clause-fault c = one_fault
