use Rattle.root_plan.proofs.SomeChoice.{some_reach, some_best}
use Rattle.root_plan.proofs.laws.best_roots_exist.Goals as goal

pub returns-clause-reaches : goal.returns-clause-reaches
returns-clause-reaches c = some_reach c.rows_exist.ensures.paths

pub returns-clause-best : goal.returns-clause-best
returns-clause-best c = some_best c.rows_exist.ensures.paths
