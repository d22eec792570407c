use Rattle.settle.specs.Report.{Drew}
use Rattle.settle.proofs.Greatest.{Highest}
use Rattle.settle.proofs.part.rounds_of.Given as goal

abbrev pub invariant-loop-node : goal.invariant-loop-node
invariant-loop-node g l = Highest l.set (Drew (g.W.WorldRun.world l.world)) l.node l.most
