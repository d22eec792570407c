use Rattle.cable_world.proofs.OneOutcome.{one-outcome}
use Rattle.cable_world.proofs.laws.outcomes_are_one.Goals as goal

pub returns : goal.returns
returns c = one-outcome
