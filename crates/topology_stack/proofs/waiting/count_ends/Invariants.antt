use Rattle.std.proofs.Common.{◌≡◌, ◌+◌, ◌≤◌, drop}
use Rattle.self_id.specs.Node.{ups, downs}
use Rattle.topology_stack.proofs.waiting.count_ends.Given as goal

-- what was counted and what the slots after it have make the whole
abbrev pub invariant-loop-slot : goal.invariant-loop-slot
invariant-loop-slot l = record {
  downs : l.downs + downs (drop l.slot-index l.slots) ≡ downs l.slots;
  ups : l.ups + ups (drop l.slot-index l.slots) ≡ ups l.slots;
  few : l.downs ≤ l.slot-index;
  fits : l.ups ≤ l.slot-index;
}
