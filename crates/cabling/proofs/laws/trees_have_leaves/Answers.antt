use Rattle.cabling.proofs.Leaves.{has_leaves}
use Rattle.cabling.proofs.laws.trees_have_leaves.Goals as goal

pub returns : goal.returns
returns c = has_leaves c.args.c.now
