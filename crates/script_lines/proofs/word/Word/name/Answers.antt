use Rattle.std.proofs.Common.{arith}
use Rattle.std.proofs.lemmas.Grind.{common_steps}
use Rattle.script_lines.proofs.Names.{name_of_test, test_of_name}
use Rattle.script_lines.proofs.word.Word.name.Goals as goal

pub returns-clause-fault : goal.returns-clause-fault
returns-clause-fault c = grind (arith, common_steps, name_of_test, test_of_name)
