use Rattle.script_told.proofs.told.EntryRuns.{scripts-are-runs}
use Rattle.script_told.proofs.laws.scripts_are_runs.Goals as goal

pub returns : goal.returns
returns c = scripts-are-runs c.one_tree.ensures c.acts_keep.ensures.nodes
