use Rattle.cable_world.proofs.turns.ByNumber.{node-after, wire-after}
use Rattle.cable_world.proofs.laws.turn_by_number.Goals as goal

pub returns-clause-node : goal.returns-clause-node
returns-clause-node c = node-after

pub returns-clause-wire : goal.returns-clause-wire
returns-clause-wire c = wire-after
