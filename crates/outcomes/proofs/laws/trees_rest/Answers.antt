use Rattle.outcomes.proofs.numbers.HoldRests.{hold-rests}
use Rattle.outcomes.proofs.numbers.AtRest.{rest-tree, rests-on, stays-tree}
use Rattle.outcomes.proofs.laws.trees_rest.Goals as goal

pub returns-clause-tree : goal.returns-clause-tree
returns-clause-tree c = λ w set core root t q s rest. rest-tree w q.lawful q.acyclic q.identifies set core root t s rest

pub returns-clause-turn : goal.returns-clause-turn
returns-clause-turn c = λ w set core root t q s rest. rests-on w q.lawful q.acyclic q.identifies set core root t s rest

pub returns-clause-after_turns : goal.returns-clause-after_turns
returns-clause-after_turns c = λ holds w set core root j k t f rest. stays-tree holds w f.comes k f.late set core root t f.is rest j

pub returns-clause-hold : goal.returns-clause-hold
returns-clause-hold c = λ end turns w set none l q. hold-rests end turns w none l set q
