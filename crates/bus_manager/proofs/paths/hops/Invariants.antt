use Rattle.bus_manager.proofs.Waiting.{Waiting}
use Rattle.bus_manager.proofs.paths.hops.Given as goal

abbrev pub invariant-loop-id : goal.invariant-loop-id
invariant-loop-id l = Waiting l.tree l.id l.waiting.items
