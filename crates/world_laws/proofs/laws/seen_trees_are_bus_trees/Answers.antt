use Rattle.world_laws.proofs.SeenTrees.{seen-bus, one-list}
use Rattle.world_laws.proofs.laws.seen_trees_are_bus_trees.Goals as goal

pub returns-clause-bus : goal.returns-clause-bus
returns-clause-bus c = seen-bus

pub returns-clause-list : goal.returns-clause-list
returns-clause-list c = one-list
