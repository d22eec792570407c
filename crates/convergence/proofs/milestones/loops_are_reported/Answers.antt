use Rattle.convergence.proofs.AfterTurns.{reported-after, reported-reached}
use Rattle.convergence.proofs.milestones.loops_are_reported.Goals as goal

pub returns-clause-after : goal.returns-clause-after
returns-clause-after c = reported-after

pub returns-clause-reached : goal.returns-clause-reached
returns-clause-reached c = reported-reached
