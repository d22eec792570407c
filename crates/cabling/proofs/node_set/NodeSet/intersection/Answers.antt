use Rattle.cabling.proofs.Bits.{in_both, removed-small}
use Rattle.cabling.proofs.node_set.NodeSet.intersection.Goals as goal

pub invariant_of-result : goal.invariant_of-result
invariant_of-result c = removed-small c.self.inside.bits c.other.inside.bits c.self.invariant

pub returns-clause-members : goal.returns-clause-members
returns-clause-members c = rw (← c.self.view_is, ← c.other.view_is) (λ k. in_both c.self.inside.bits c.other.inside.bits k)
