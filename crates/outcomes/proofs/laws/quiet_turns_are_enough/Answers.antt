use Rattle.outcomes.proofs.settled.QuietTurns.{short-enough, range-enough}
use Rattle.outcomes.proofs.laws.quiet_turns_are_enough.Goals as goal

pub returns-clause-short : goal.returns-clause-short
returns-clause-short c = short-enough

pub returns-clause-in_range : goal.returns-clause-in_range
returns-clause-in_range c = range-enough
