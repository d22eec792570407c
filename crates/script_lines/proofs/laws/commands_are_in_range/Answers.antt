use Rattle.script_lines.proofs.Ranged.{in-range}
use Rattle.script_lines.proofs.laws.commands_are_in_range.Goals as goal

pub returns : goal.returns
returns c = in-range
