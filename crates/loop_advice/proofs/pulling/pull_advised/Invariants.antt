use Rattle.std.proofs.Common.{take}
use Rattle.loop_advice.specs.Pulled.{ArePulled}
use Rattle.loop_advice.proofs.pulling.pull_advised.Given as goal

-- the first of the pulls were taken out
abbrev pub invariant-loop-cable : goal.invariant-loop-cable
invariant-loop-cable l = ArePulled l.initial.cabling l.cabling (take l.cable-index l.cable-items)
