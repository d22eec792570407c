use Rattle.script_bus.proofs.SomeAdvice.{some-advice}
use Rattle.script_bus.proofs.laws.each_script_has_an_advice.Goals as goal

pub returns : goal.returns
returns c =
    some-advice c.one_tree.ensures c.acts_keep.ensures.nodes c.components_exist.ensures c.advices_exist.ensures
    c.commands_have_answers.ensures.settling c.each_script_has_a_run.ensures
