use Rattle.std.proofs.Common.{refl}
use Rattle.bus_cli.proofs.script.answer_to_make.Goals as goal

pub returns : goal.returns
returns c = (refl, c.in_ok-made_summary.ensures)
