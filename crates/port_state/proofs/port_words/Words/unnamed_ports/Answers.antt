use Rattle.std.proofs.Common.{arith}
use Rattle.port_state.proofs.WordBits.{has_bit-unnamed}
use Rattle.port_state.proofs.port_words.Words.unnamed_ports.Goals as goal

pub returns-clause-bits : goal.returns-clause-bits
returns-clause-bits c k = has_bit-unnamed c.args.self.now k (omega arith) (omega arith)
