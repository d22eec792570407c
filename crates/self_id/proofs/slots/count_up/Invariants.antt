use Rattle.std.proofs.Common.{◌≡◌, ◌+◌, ◌≤◌, drop}
use Rattle.self_id.specs.Node.{ups}
use Rattle.self_id.proofs.slots.count_up.Given as goal

-- what was counted and what the slots after it have make the whole
abbrev pub invariant-loop-slot : goal.invariant-loop-slot
invariant-loop-slot l = (l.count + ups (drop l.slot-index l.slots) ≡ ups l.slots) × (l.count ≤ l.slot-index)
