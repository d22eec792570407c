use Rattle.script_bus.proofs.EachWaiting.{each-waiting}
use Rattle.script_bus.proofs.laws.each_waiting_node_becomes_root.Goals as goal

pub returns : goal.returns
returns c =
    each-waiting c.components_exist.ensures c.acts_make_fresh.ensures.first c.acts_make_fresh.ensures.settled
    c.waiting_roots_settle.ensures.fresh c.one_tree.ensures c.acts_keep.ensures.nodes
