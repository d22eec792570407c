use Rattle.std.proofs.Common.{◌≡◌, ℕ, subst, arith}
use Rattle.cabling.specs.NodeSet.{size_below}
use Rattle.cabling.proofs.node_set.NodeSet.len.Goals as goal

counted : (set n count : ℕ) → n ≡ 63 → count ≡ size_below set n → count ≡ size_below set 63
counted set n count e h = subst (λ (m : ℕ). count ≡ size_below set m) e h

pub returns : goal.returns
returns c = counted c.args.self.now c.loop-node.node c.loop-node.count (omega arith) c.loop-node.invariant.0
