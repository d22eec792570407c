use Rattle.script_told.proofs.told.ReachedRuns.{reached-runs, converging}
use Rattle.script_told.proofs.laws.script_worlds_are_reached.Goals as goal

pub returns-clause-reached : goal.returns-clause-reached
returns-clause-reached c = reached-runs c.one_tree.ensures c.acts_keep.ensures.nodes

pub returns-clause-converge : goal.returns-clause-converge
returns-clause-converge c = converging c.one_tree.ensures c.acts_keep.ensures.nodes c.every_bus_settles.ensures.settles
