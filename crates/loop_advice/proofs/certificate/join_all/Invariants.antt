use Rattle.std.proofs.Common.{◌≡◌, ◌<◌, ℕ, take}
use Rattle.cabling.specs.NodeSet.{Holds}
use Rattle.loop_advice.specs.codings.Groups.{group}
use Rattle.loop_advice.proofs.Grouping.{Grouped}
use Rattle.loop_advice.proofs.certificate.join_all.Given as goal

abbrev pub invariant-loop-cable : goal.invariant-loop-cable
invariant-loop-cable l = Grouped l.groups (take l.cable-index l.cables)

abbrev pub invariant-loop-other : goal.invariant-loop-other
invariant-loop-other l = (k : ℕ) → k < l.other → Holds l.set k → group l.groups l.node ≡ group l.groups k
