use Rattle.script_told.proofs.told.Lines.{one-run, one-told}
use Rattle.script_told.proofs.laws.scripts_tell_one_thing.Goals as goal

pub returns-clause-run : goal.returns-clause-run
returns-clause-run c = one-run c.one_tree.ensures c.acts_keep.ensures.nodes

pub returns-clause-told : goal.returns-clause-told
returns-clause-told c = one-told c.one_tree.ensures c.acts_keep.ensures.nodes
