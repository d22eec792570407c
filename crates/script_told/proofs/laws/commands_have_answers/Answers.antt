use Rattle.script_told.proofs.SomeAnswer.{some-answer, settles}
use Rattle.script_told.proofs.laws.commands_have_answers.Goals as goal

pub returns-clause-commands : goal.returns-clause-commands
returns-clause-commands c =
    some-answer c.components_exist.ensures c.settled_worlds_have_texts.ensures.quiet c.reported_trees_are_managed.ensures c.maps_have_texts.ensures

pub returns-clause-settling : goal.returns-clause-settling
returns-clause-settling c = settles c.settled_worlds_have_texts.ensures.quiet
