use Rattle.std.proofs.Common.{subst}
use Rattle.topology_stack.specs.Elect.{IsHighest}
use Rattle.topology_stack.proofs.Highest.{at_end}
use Rattle.topology_stack.proofs.manager.elect.Goals as goal

pub returns-clause-highest : goal.returns-clause-highest
returns-clause-highest c = subst (λ ns. IsHighest ns c.loop-id.manager) c.nodes-node-items.ensures.value (at_end c.nodes-node-items.result.now c.loop-id.id c.loop-id.manager c.loop-id-test.false c.loop-id.invariant)
