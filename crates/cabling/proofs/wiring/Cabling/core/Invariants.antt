use Rattle.std.proofs.Common.{◌^◌, ◌+◌, ◌*◌}
use Rattle.cabling.proofs.Stripping.{Stripped}
use Rattle.cabling.proofs.wiring.Cabling.core.Given as goal

abbrev pub invariant-loop-node : goal.invariant-loop-node
invariant-loop-node l = Stripped l.self l.fn.set l.core l.doubtful

abbrev pub decreases-loop-node : goal.decreases-loop-node
decreases-loop-node l = l.core * 2 ^ 64 + l.doubtful
