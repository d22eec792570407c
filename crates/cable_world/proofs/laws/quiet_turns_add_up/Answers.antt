use Rattle.cable_world.proofs.QuietTurns.{holds-are-calls, no-quiet, plain-quiet, one-quiet, quiet-then}
use Rattle.cable_world.proofs.laws.quiet_turns_add_up.Goals as goal

pub returns-clause-holds : goal.returns-clause-holds
returns-clause-holds c = holds-are-calls

pub returns-clause-plain : goal.returns-clause-plain
returns-clause-plain c = plain-quiet

pub returns-clause-none : goal.returns-clause-none
returns-clause-none c = no-quiet

pub returns-clause-more : goal.returns-clause-more
returns-clause-more c = one-quiet

pub returns-clause-add : goal.returns-clause-add
returns-clause-add c = quiet-then
