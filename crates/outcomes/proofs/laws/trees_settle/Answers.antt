use Rattle.outcomes.proofs.numbers.Settles.{ready-soon}
use Rattle.outcomes.proofs.numbers.Spreads.{rest-soon, tree-soon}
use Rattle.outcomes.proofs.laws.trees_settle.Goals as goal

pub returns-clause-ready : goal.returns-clause-ready
returns-clause-ready c = λ holds w set core root k t f. ready-soon holds w f.comes k f.late set core root t f.is

pub returns-clause-rest : goal.returns-clause-rest
returns-clause-rest c = λ holds w set core root k t f. rest-soon holds w f.comes k f.late set core root t f.is

pub returns-clause-tree : goal.returns-clause-tree
returns-clause-tree c = λ holds w set core root j k t f. tree-soon holds w f.comes k f.late set core root t f.is j
