use Rattle.std.proofs.Common.{arith}
use Rattle.cabling.proofs.Bits.{first-nodes}
use Rattle.cabling.proofs.node_set.NodeSet.first.Goals as goal

pub returns : goal.returns
returns c = λ k. first-nodes c.args.count k (omega (arith, c.requires))
