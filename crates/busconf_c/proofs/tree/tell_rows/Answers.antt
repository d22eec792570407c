use Rattle.std.proofs.Common.{sym, subst}
use Rattle.speed_map.specs.Rows.{AreRows}
use Rattle.c_border.specs.Places.{some}
use Rattle.busconf_c.proofs.tree.tell_rows.Goals as goal

pub returns-in-Ok-clause-answer : goal.returns-in-Ok-clause-answer
returns-in-Ok-clause-answer c = some c.as_slice.result.now (subst (AreRows c.args.tree.now) (sym c.as_slice.ensures.value) c.in-Ok.ensures) c.tell_bytes.ensures
