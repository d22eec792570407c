use Rattle.wave_laws.proofs.Run.{shows-run}
use Rattle.wave_laws.proofs.laws.dumps_show_the_run.Goals as goal

pub returns : goal.returns
returns c = shows-run c.one_tree.ensures c.acts_keep.ensures.nodes
