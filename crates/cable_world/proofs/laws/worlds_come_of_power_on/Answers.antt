use Rattle.cable_world.proofs.StaysReached.{power-on-comes, turns-come, hold-comes, act-comes}
use Rattle.cable_world.proofs.QuietTurns.{quiet-comes}
use Rattle.cable_world.proofs.laws.worlds_come_of_power_on.Goals as goal

pub returns-clause-power_on : goal.returns-clause-power_on
returns-clause-power_on c = power-on-comes

pub returns-clause-turns : goal.returns-clause-turns
returns-clause-turns c = turns-come

pub returns-clause-quiet : goal.returns-clause-quiet
returns-clause-quiet c = quiet-comes

pub returns-clause-hold : goal.returns-clause-hold
returns-clause-hold c = hold-comes

pub returns-clause-act : goal.returns-clause-act
returns-clause-act c = act-comes
