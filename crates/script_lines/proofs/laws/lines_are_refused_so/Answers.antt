use Rattle.script_lines.proofs.WordFaults.{refused_so}
use Rattle.script_lines.proofs.laws.lines_are_refused_so.Goals as goal

pub returns : goal.returns
returns c = refused_so
