use Rattle.cabling.proofs.Bits.{in_union, union-small}
use Rattle.cabling.proofs.node_set.NodeSet.union.Goals as goal

pub invariant_of-result : goal.invariant_of-result
invariant_of-result c = union-small c.self.inside.bits c.other.inside.bits c.self.invariant c.other.invariant

pub returns-clause-members : goal.returns-clause-members
returns-clause-members c = rw (← c.self.view_is, ← c.other.view_is) (λ k. in_union c.self.inside.bits c.other.inside.bits k)

pub returns-clause-small : goal.returns-clause-small
returns-clause-small c = union-small c.self.inside.bits c.other.inside.bits c.self.invariant c.other.invariant
