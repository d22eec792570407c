use Rattle.cable_world.proofs.StaysReached.{reached-comes, power-on-reached, turns-reached, hold-reached, act-reached}
use Rattle.cable_world.proofs.QuietTurns.{quiet-reached}
use Rattle.cable_world.proofs.StaysLawful.{reached-runs}
use Rattle.cable_world.proofs.laws.worlds_stay_reached.Goals as goal

pub returns-clause-power_on : goal.returns-clause-power_on
returns-clause-power_on c = power-on-reached

pub returns-clause-turns : goal.returns-clause-turns
returns-clause-turns c = turns-reached

pub returns-clause-quiet : goal.returns-clause-quiet
returns-clause-quiet c = quiet-reached

pub returns-clause-hold : goal.returns-clause-hold
returns-clause-hold c = hold-reached

pub returns-clause-act : goal.returns-clause-act
returns-clause-act c = act-reached

pub returns-clause-comes : goal.returns-clause-comes
returns-clause-comes c = reached-comes

pub returns-clause-runs : goal.returns-clause-runs
returns-clause-runs c = reached-runs
