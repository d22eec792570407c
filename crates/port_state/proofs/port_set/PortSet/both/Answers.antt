use Rattle.std.proofs.lemmas.Nat.{and_le_l}
use Rattle.std.proofs.Common.{arith}
use Rattle.port_state.proofs.PortBits.{in-both}
use Rattle.port_state.proofs.port_set.PortSet.both.Goals as goal

pub invariant_of-result : goal.invariant_of-result
invariant_of-result c = omega (arith, and_le_l c.self.inside.bits c.other.inside.bits)

pub returns : goal.returns
returns c = rw (← c.self.view_is, ← c.other.view_is) (in-both c.self.inside.bits c.other.inside.bits)
