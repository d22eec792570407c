use Rattle.settle.specs.Report.{LastChanged}
use Rattle.settle.proofs.Greatest.{Highest}
use Rattle.settle.proofs.part.last_change_of.Given as goal

abbrev pub invariant-loop-node : goal.invariant-loop-node
invariant-loop-node g l = Highest l.set (LastChanged (g.W.WorldRun.world l.world)) l.node l.most
