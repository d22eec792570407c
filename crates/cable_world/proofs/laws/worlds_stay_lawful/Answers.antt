use Rattle.cable_world.proofs.StaysLawful.{power-on-lawful, turns-lawful, hold-lawful, act-lawful, comes-lawful, reached-lawful}
use Rattle.cable_world.proofs.QuietTurns.{quiet-lawful}
use Rattle.cable_world.proofs.laws.worlds_stay_lawful.Goals as goal

pub returns-clause-power_on : goal.returns-clause-power_on
returns-clause-power_on c = power-on-lawful

pub returns-clause-turns : goal.returns-clause-turns
returns-clause-turns c = turns-lawful

pub returns-clause-quiet : goal.returns-clause-quiet
returns-clause-quiet c = quiet-lawful

pub returns-clause-hold : goal.returns-clause-hold
returns-clause-hold c = hold-lawful

pub returns-clause-act : goal.returns-clause-act
returns-clause-act c = act-lawful

pub returns-clause-comes : goal.returns-clause-comes
returns-clause-comes c = comes-lawful

pub returns-clause-reached : goal.returns-clause-reached
returns-clause-reached c = reached-lawful
