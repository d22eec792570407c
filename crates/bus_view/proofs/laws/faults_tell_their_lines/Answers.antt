use Rattle.bus_view.proofs.TheLine.{tells}
use Rattle.bus_view.proofs.laws.faults_tell_their_lines.Goals as goal

pub returns : goal.returns
returns c = tells
