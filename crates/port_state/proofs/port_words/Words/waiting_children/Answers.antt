use Rattle.std.proofs.Common.{arith}
use Rattle.port_state.proofs.WordBits.{has_bit-waiting}
use Rattle.port_state.proofs.port_words.Words.waiting_children.Goals as goal

pub returns-clause-bits : goal.returns-clause-bits
returns-clause-bits c k = has_bit-waiting c.args.self.now k (omega arith) (omega arith) (omega arith)
