use Rattle.script_bus.proofs.SomePlan.{some-plan}
use Rattle.script_bus.proofs.laws.plans_have_answers.Goals as goal

pub returns : goal.returns
returns c =
    some-plan c.one_tree.ensures c.trees_stay.ensures.turns c.components_exist.ensures c.walks_exist.ensures c.plans_exist.ensures
    c.settled_worlds_have_texts.ensures.quiet c.reported_trees_are_managed.ensures c.forced_roots_settle.ensures.names
    c.forced_roots_settle.ensures.config c.forced_roots_settle.ensures.gaps
