use Rattle.cable_world.proofs.tables.CountsInActs.{act-keeps}
use Rattle.cable_world.proofs.laws.acts_keep.Goals as goal

pub returns-clause-nodes : goal.returns-clause-nodes
returns-clause-nodes c = λ a w v h. (act-keeps a w v h).nodes

pub returns-clause-turns : goal.returns-clause-turns
returns-clause-turns c = λ a w v h. (act-keeps a w v h).turns

pub returns-clause-delay : goal.returns-clause-delay
returns-clause-delay c = λ a w v h. (act-keeps a w v h).delay

pub returns-clause-longest : goal.returns-clause-longest
returns-clause-longest c = λ a w v h. (act-keeps a w v h).longest
