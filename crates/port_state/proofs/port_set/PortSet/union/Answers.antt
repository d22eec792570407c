use Rattle.std.proofs.lemmas.Nat.{or_lt}
use Rattle.port_state.proofs.PortBits.{in-union}
use Rattle.port_state.proofs.port_set.PortSet.union.Goals as goal

pub invariant_of-result : goal.invariant_of-result
invariant_of-result c = or_lt 16 c.self.inside.bits c.other.inside.bits c.self.invariant c.other.invariant

pub returns : goal.returns
returns c = rw (← c.self.view_is, ← c.other.view_is) (in-union c.self.inside.bits c.other.inside.bits)
