use Rattle.world_laws.proofs.ReadyPrefix.{ready-first, have-turns}
use Rattle.world_laws.proofs.laws.ready_nodes_are_first.Goals as goal

pub returns-clause-walk : goal.returns-clause-walk
returns-clause-walk c = ready-first

pub returns-clause-reached : goal.returns-clause-reached
returns-clause-reached c = have-turns c.components_exist.ensures
