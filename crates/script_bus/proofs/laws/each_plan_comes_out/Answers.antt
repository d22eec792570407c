use Rattle.script_bus.proofs.EachPlan.{each-plan}
use Rattle.script_bus.proofs.laws.each_plan_comes_out.Goals as goal

pub returns : goal.returns
returns c =
    each-plan c.one_tree.ensures c.acts_keep.ensures.nodes c.trees_stay.ensures.turns c.components_exist.ensures
    c.reported_trees_are_managed.ensures c.forced_roots_settle.ensures.names c.forced_roots_settle.ensures.config
    c.forced_roots_settle.ensures.gaps
