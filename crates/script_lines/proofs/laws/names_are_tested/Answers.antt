use Rattle.script_lines.proofs.Names.{name_of_test, test_of_name}
use Rattle.script_lines.proofs.laws.names_are_tested.Goals as goal

pub returns : goal.returns
returns c = λ word. (name_of_test word, test_of_name word)
