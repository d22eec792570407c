use Rattle.outcomes.proofs.settled.Unnamed.{loop-outcome}
use Rattle.outcomes.proofs.laws.loops_come_out.Goals as goal

pub returns : goal.returns
returns c = loop-outcome
