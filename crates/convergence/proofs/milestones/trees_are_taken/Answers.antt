use Rattle.convergence.proofs.AfterTurns.{taken-after, taken-turn, taken-reached}
use Rattle.convergence.proofs.milestones.trees_are_taken.Goals as goal

pub returns-clause-after : goal.returns-clause-after
returns-clause-after c = taken-after

pub returns-clause-turn : goal.returns-clause-turn
returns-clause-turn c = taken-turn

pub returns-clause-reached : goal.returns-clause-reached
returns-clause-reached c = taken-reached
