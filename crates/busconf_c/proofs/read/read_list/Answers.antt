use Rattle.busconf_c.specs.Answers.{told, stopped}
use Rattle.busconf_c.proofs.read.read_list.Goals as goal

pub returns-in-Ok-clause-answer : goal.returns-in-Ok-clause-answer
returns-in-Ok-clause-answer c = told c.in-Ok.tree c.in-Ok.ensures.found.0 c.in-Ok.ensures.found.1 c.show.ensures

pub returns-in-Err-clause-answer : goal.returns-in-Err-clause-answer
returns-in-Err-clause-answer c = stopped c.in-Err.ensures.none
