use Rattle.world_laws.proofs.RestMilestone.{rest-once-decided, rest-by-then}
use Rattle.world_laws.proofs.laws.trees_are_at_rest.Goals as goal

pub returns-clause-once_decided : goal.returns-clause-once_decided
returns-clause-once_decided c = rest-once-decided

pub returns-clause-reached : goal.returns-clause-reached
returns-clause-reached c = rest-by-then
