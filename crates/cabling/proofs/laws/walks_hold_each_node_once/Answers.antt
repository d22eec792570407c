use Rattle.cabling.proofs.Whole.{walk_times}
use Rattle.cabling.proofs.laws.walks_hold_each_node_once.Goals as goal

pub returns : goal.returns
returns c = λ root set walk there small k w. walk_times c.args.c.now root set walk c.cables_are_two_ended.ensures there small k w
