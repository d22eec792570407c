use Rattle.loop_advice.specs.codings.Collected.{Collected}
use Rattle.loop_advice.proofs.cables_in_order.push_cables.Given as goal

abbrev pub invariant-loop-port : goal.invariant-loop-port
invariant-loop-port l = Collected l.cabling l.fn.set l.node l.port l.list
