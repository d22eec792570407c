use Rattle.settle.proofs.SameHops.{stay}
use Rattle.settle.proofs.laws.hops_stay.Goals as goal

pub returns : goal.returns
returns c = stay c.hops_are_of_node_paths.ensures c.components_exist.ensures c.args.c.now c.cables_are_two_ended.ensures
