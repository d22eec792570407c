use Rattle.script_advice.proofs.OneAdvice.{one-script-advice}
use Rattle.script_advice.proofs.laws.scripts_have_one_advice.Goals as goal

pub returns : goal.returns
returns c = one-script-advice c.one_tree.ensures c.acts_keep.ensures.nodes
