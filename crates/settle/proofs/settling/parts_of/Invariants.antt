use Rattle.settle.proofs.PartsSoFar.{PartsBefore}
use Rattle.settle.proofs.settling.parts_of.Given as goal

abbrev pub invariant-loop-node : goal.invariant-loop-node
invariant-loop-node g l = PartsBefore (g.W.WorldRun.world l.world) l.node l.parts
