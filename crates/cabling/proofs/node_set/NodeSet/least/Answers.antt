use Rattle.std.proofs.Common.{arith}
use Rattle.cabling.proofs.Bits.{below, some_node, lowest}
use Rattle.cabling.proofs.node_set.NodeSet.least.Goals as goal

pub returns-else-self-eq0-clause-holds : goal.returns-else-self-eq0-clause-holds
returns-else-self-eq0-clause-holds c = rw (← c.self.view_is) (some_node c.self.inside.bits (omega arith) c.self.invariant)

pub returns-else-self-eq0-clause-small : goal.returns-else-self-eq0-clause-small
returns-else-self-eq0-clause-small c = below c.self.inside.bits _ c.self.invariant (some_node c.self.inside.bits (omega arith) c.self.invariant)

pub returns-else-self-eq0-clause-lowest : goal.returns-else-self-eq0-clause-lowest
returns-else-self-eq0-clause-lowest c = rw (← c.self.view_is) (lowest c.self.inside.bits (omega arith) c.self.invariant)
