use Rattle.cable_world.proofs.turns.ByNumber.{no-turns, one-more, turns-then}
use Rattle.cable_world.proofs.laws.turns_add_up.Goals as goal

pub returns-clause-none : goal.returns-clause-none
returns-clause-none c = no-turns

pub returns-clause-more : goal.returns-clause-more
returns-clause-more c = one-more

pub returns-clause-add : goal.returns-clause-add
returns-clause-add c = turns-then
