use Rattle.settle.proofs.SlackTold.{AreEven}
use Rattle.settle.proofs.quiet.slack_in.Given as goal

-- the clocks of the nodes so far are even
abbrev pub invariant-loop-node : goal.invariant-loop-node
invariant-loop-node g l = AreEven (g.W.WorldRun.world l.world).nodes l.node
