use Rattle.std.proofs.Common.{arith}
use Rattle.cabling.proofs.Bits.{below, lowest, some_node, removed-gone, removed-less, removed-others, removed-small}
use Rattle.cabling.proofs.node_set.NodeSet.take_least.Goals as goal

pub invariant_of-self : goal.invariant_of-self
invariant_of-self c = removed-small c.self.inside.bits _ c.self.invariant

pub returns-clause-held : goal.returns-clause-held
returns-clause-held c = rw (← c.self.view_is) (some_node c.self.inside.bits (omega arith) c.self.invariant)

pub returns-clause-gone : goal.returns-clause-gone
returns-clause-gone c =
    let small : _ = below c.self.inside.bits _ c.self.invariant (some_node c.self.inside.bits (omega arith) c.self.invariant) in
    removed-gone c.self.inside.bits _ (omega (arith, small))

pub returns-clause-others : goal.returns-clause-others
returns-clause-others c =
    let small : _ = below c.self.inside.bits _ c.self.invariant (some_node c.self.inside.bits (omega arith) c.self.invariant) in
    rw (← c.self.view_is) (removed-others c.self.inside.bits _ (omega (arith, c.self.invariant)) (omega (arith, small)))

pub returns-clause-fewer : goal.returns-clause-fewer
returns-clause-fewer c =
    let held = some_node c.self.inside.bits (omega arith) c.self.invariant in
    let small : _ = below c.self.inside.bits _ c.self.invariant held in
    rw (← c.self.view_is) (removed-less c.self.inside.bits _ (omega (arith, c.self.invariant)) (omega (arith, small)) held)

pub returns-clause-lowest : goal.returns-clause-lowest
returns-clause-lowest c = rw (← c.self.view_is) (lowest c.self.inside.bits (omega arith) c.self.invariant)
