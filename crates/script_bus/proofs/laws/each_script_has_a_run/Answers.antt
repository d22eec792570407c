use Rattle.script_bus.proofs.SomeRun.{some-run}
use Rattle.script_bus.proofs.laws.each_script_has_a_run.Goals as goal

pub returns : goal.returns
returns c =
    some-run c.acts_keep.ensures.nodes c.commands_have_answers.ensures.commands c.plans_have_answers.ensures
    c.commands_have_answers.ensures.settling c.commands_are_in_range.ensures
