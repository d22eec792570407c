use Rattle.script_text.proofs.SomePlan.{some-plan}
use Rattle.script_text.proofs.laws.plans_exist.Goals as goal

pub returns : goal.returns
returns c = some-plan c.best_roots_exist.ensures.best
