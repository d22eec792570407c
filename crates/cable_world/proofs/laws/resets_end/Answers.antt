use Rattle.cable_world.proofs.resets.Entries.{steady}
use Rattle.cable_world.proofs.resets.ResetsEnd.{counts-stand}
use Rattle.cable_world.proofs.laws.resets_end.Goals as goal

pub returns-clause-entered : goal.returns-clause-entered
returns-clause-entered c = λ holds w k node x y lawful late at_x at_y. steady holds w lawful k late node x y at_x at_y

pub returns-clause-counted : goal.returns-clause-counted
returns-clause-counted c = λ holds w k node x y lawful late at_x at_y. counts-stand holds w lawful k late node x y at_x at_y
