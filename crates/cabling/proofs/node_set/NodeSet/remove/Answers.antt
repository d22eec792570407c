use Rattle.std.proofs.Common.{arith}
use Rattle.cabling.proofs.Bits.{removed, removed-gone, removed-others, removed-small}
use Rattle.cabling.proofs.node_set.NodeSet.remove.Goals as goal

pub invariant_of-self : goal.invariant_of-self
invariant_of-self c = removed-small c.self.inside.bits _ c.self.invariant

pub returns-clause-gone : goal.returns-clause-gone
returns-clause-gone c = removed-gone c.self.inside.bits c.args.node (omega (arith, c.requires.small))

pub returns-clause-others : goal.returns-clause-others
returns-clause-others c = rw (← c.self.view_is) (removed-others c.self.inside.bits c.args.node (omega (arith, c.self.invariant)) (omega (arith, c.requires.small)))

pub returns-clause-value : goal.returns-clause-value
returns-clause-value c = rw (← c.self.view_is) (removed c.self.inside.bits c.args.node (omega (arith, c.self.invariant)) (omega (arith, c.requires.small)) (rw c.self.view_is c.requires.held))
