use Rattle.script_told.proofs.SomeManager.{managed-trees}
use Rattle.script_told.proofs.laws.reported_trees_are_managed.Goals as goal

pub returns : goal.returns
returns c = managed-trees c.reports_are_read_back.ensures.lists
