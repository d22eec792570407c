use Rattle.cable_world.proofs.turns.ByNumber.{cabling-after, delay-after, longest-after, turns-counted, nodes-after}
use Rattle.cable_world.proofs.laws.turn_keeps.Goals as goal

pub returns-clause-cables : goal.returns-clause-cables
returns-clause-cables c = cabling-after

pub returns-clause-delay : goal.returns-clause-delay
returns-clause-delay c = delay-after

pub returns-clause-counted : goal.returns-clause-counted
returns-clause-counted c = turns-counted

pub returns-clause-nodes : goal.returns-clause-nodes
returns-clause-nodes c = nodes-after

pub returns-clause-longest : goal.returns-clause-longest
returns-clause-longest c = longest-after
