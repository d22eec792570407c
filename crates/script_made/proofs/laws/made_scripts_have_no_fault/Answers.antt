use Rattle.script_made.proofs.valid.Scripts.{made-scripts-run-through, made-scripts-have-no-fault}
use Rattle.script_made.proofs.laws.made_scripts_have_no_fault.Goals as goal

pub returns-clause-run : goal.returns-clause-run
returns-clause-run c = made-scripts-run-through

pub returns-clause-told : goal.returns-clause-told
returns-clause-told c = made-scripts-have-no-fault
