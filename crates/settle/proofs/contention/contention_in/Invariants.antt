use Rattle.std.proofs.Common.{ℕ, ◌<◌}
use Rattle.cabling.specs.NodeSet.{Holds}
use Rattle.settle.specs.codings.Reading.{HasNoRival}
use Rattle.settle.proofs.contention.contention_in.Given as goal

abbrev pub invariant-loop-node : goal.invariant-loop-node
invariant-loop-node g l = (a : ℕ) → a < l.node → Holds l.set a → HasNoRival (g.W.WorldRun.world l.world) a
