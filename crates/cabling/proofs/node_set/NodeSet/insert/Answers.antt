use Rattle.std.proofs.Common.{arith}
use Rattle.cabling.proofs.Bits.{inserted, inserted-holds, inserted-others, inserted-small}
use Rattle.cabling.proofs.node_set.NodeSet.insert.Goals as goal

pub invariant_of-self : goal.invariant_of-self
invariant_of-self c = inserted-small c.self.inside.bits c.args.node c.self.invariant c.requires

pub returns-clause-holds : goal.returns-clause-holds
returns-clause-holds c = inserted-holds c.self.inside.bits c.args.node (omega (arith, c.requires))

pub returns-clause-others : goal.returns-clause-others
returns-clause-others c = rw (← c.self.view_is) (inserted-others c.self.inside.bits c.args.node (omega (arith, c.requires)))

pub returns-clause-value : goal.returns-clause-value
returns-clause-value c = rw (← c.self.view_is) (λ free. inserted c.self.inside.bits c.args.node (omega (arith, c.requires)) free)

pub returns-clause-small : goal.returns-clause-small
returns-clause-small c = inserted-small c.self.inside.bits c.args.node c.self.invariant c.requires
