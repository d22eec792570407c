use Rattle.convergence.proofs.AfterTurns.{decided-reached}
use Rattle.convergence.proofs.rounds.IdentifyOrContend.{decided-after, decided-turn}
use Rattle.convergence.proofs.milestones.trees_are_decided.Goals as goal

pub returns-clause-after : goal.returns-clause-after
returns-clause-after c = decided-after

pub returns-clause-turn : goal.returns-clause-turn
returns-clause-turn c = decided-turn

pub returns-clause-reached : goal.returns-clause-reached
returns-clause-reached c = decided-reached
