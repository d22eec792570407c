use Rattle.std.proofs.Common.{◌≡◌, ◌<◌, ℕ, get_or, length}
use Rattle.loop_advice.proofs.groups.Groups.new.Given as goal

abbrev pub invariant-loop-node : goal.invariant-loop-node
invariant-loop-node l = ((k : ℕ) → k < l.node → get_or l.of k 0 ≡ k) × (length l.of ≡ 63)
