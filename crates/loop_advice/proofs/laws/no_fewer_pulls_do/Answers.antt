use Rattle.loop_advice.proofs.Fewest.{no_fewer}
use Rattle.loop_advice.proofs.laws.no_fewer_pulls_do.Goals as goal

pub returns : goal.returns
returns c = no_fewer c.args.old.now c.args.new.now c.cables_are_two_ended-2.ensures c.trees_have_leaves.ensures
