use Rattle.std.proofs.Common.{◌-◌}
use Rattle.cabling.proofs.Bits.{in_first, removed-small}
use Rattle.cabling.proofs.node_set.NodeSet.minus.Goals as goal

pub invariant_of-result : goal.invariant_of-result
invariant_of-result c = removed-small c.self.inside.bits (18446744073709551615 - c.other.inside.bits) c.self.invariant

pub returns-clause-members : goal.returns-clause-members
returns-clause-members c = rw (← c.self.view_is, ← c.other.view_is) (λ k. in_first c.self.inside.bits c.other.inside.bits k c.self.invariant c.other.invariant)
