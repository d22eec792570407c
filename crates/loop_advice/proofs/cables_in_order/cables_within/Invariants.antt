use Rattle.loop_advice.specs.codings.Collected.{Collected}
use Rattle.loop_advice.proofs.cables_in_order.cables_within.Given as goal

abbrev pub invariant-loop-node : goal.invariant-loop-node
invariant-loop-node l = Collected l.cabling l.fn.set l.node 0 l.list
