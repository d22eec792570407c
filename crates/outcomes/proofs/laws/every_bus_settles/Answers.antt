use Rattle.outcomes.proofs.settled.LeftAlone.{every-bus, can-be-left-alone}
use Rattle.outcomes.proofs.laws.every_bus_settles.Goals as goal

pub returns-clause-settles : goal.returns-clause-settles
returns-clause-settles c = every-bus c.components_settle.ensures.runs

pub returns-clause-can_be_left_alone : goal.returns-clause-can_be_left_alone
returns-clause-can_be_left_alone c = can-be-left-alone
