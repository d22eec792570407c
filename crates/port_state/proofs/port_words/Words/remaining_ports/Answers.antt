use Rattle.std.proofs.Common.{arith}
use Rattle.port_state.proofs.WordBits.{has_bit-remaining}
use Rattle.port_state.proofs.port_words.Words.remaining_ports.Goals as goal

pub returns-clause-bits : goal.returns-clause-bits
returns-clause-bits c k = has_bit-remaining c.args.self.now k (omega arith) (omega arith) (omega arith)
