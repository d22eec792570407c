use Rattle.std.proofs.Common.{◌≡◌, drop}
use Rattle.topology_stack.specs.Elect.{highest_from}
use Rattle.topology_stack.proofs.Highest.{highest_or}
use Rattle.topology_stack.proofs.manager.elect.Given as goal

abbrev pub invariant-loop-id : goal.invariant-loop-id
invariant-loop-id l = highest_or l.manager l.id (drop l.id l.node-items) ≡ highest_from 0 l.node-items
