use Rattle.root_plan.specs.codings.Climb.{ReachSoFar}
use Rattle.root_plan.proofs.reach.reach.Given as goal

abbrev pub invariant-loop-other : goal.invariant-loop-other
invariant-loop-other l = ReachSoFar l.tree l.id l.other l.reach
