use Rattle.std.proofs.Common.{arith}
use Rattle.std.specs.Int.{bit_not, w16}
use Rattle.std.proofs.lemmas.Nat.{and_le_l}
use Rattle.port_state.proofs.PortBits.{in-minus}
use Rattle.port_state.proofs.port_set.PortSet.minus.Goals as goal

pub invariant_of-result : goal.invariant_of-result
invariant_of-result c = omega (arith, and_le_l c.self.inside.bits (bit_not w16 c.other.inside.bits))

pub returns : goal.returns
returns c = rw (← c.self.view_is, ← c.other.view_is) (λ k. in-minus c.self.inside.bits c.other.inside.bits k c.other.invariant)
