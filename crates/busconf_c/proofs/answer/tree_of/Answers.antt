use Rattle.std.proofs.Common.{refl, sym, ◌∙◌}
use Rattle.busconf_c.specs.Answers.{refused}
use Rattle.busconf_c.proofs.answer.tree_of.Goals as goal

pub returns-in-Err-Fault-clause-none : goal.returns-in-Err-Fault-clause-none
returns-in-Err-Fault-clause-none c = refused c.in-Some.standard c.in-Err-Fault.found (sym c.standard_of.ensures ∙ c.in-Some.is) (rw c.in-Err-Fault.field-0-is at c.in-Err-Fault.ensures.refused) c.tree_record.ensures refl
