use Rattle.root_plan.specs.codings.Climb.{BestFrom}
use Rattle.root_plan.proofs.choice.best_candidate.Given as goal

abbrev pub invariant-loop-id : goal.invariant-loop-id
invariant-loop-id l = BestFrom l.tree l.id l.best.id l.best.reach
