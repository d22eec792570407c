use Rattle.std.proofs.Common.{arith}
use Rattle.flawed_capture.proofs.Bits.{xor_moves}
use Rattle.flawed_capture.proofs.change.other_byte.Goals as goal

pub returns-clause-other : goal.returns-clause-other
returns-clause-other c = λ e. let none = xor_moves c.args.byte _ e in omega (arith, none)
