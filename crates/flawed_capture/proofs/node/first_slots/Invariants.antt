use Rattle.std.proofs.Common.{◌≡◌}
use Rattle.flawed_capture.specs.SeededNode.{first_slots}
use Rattle.flawed_capture.proofs.node.first_slots.Given as goal

-- what the first slots are, and which links and words they leave
abbrev pub invariant-loop-slot : goal.invariant-loop-slot
invariant-loop-slot l = record {
  slots : l.slots.items ≡ (first_slots l.ports l.fn.start l.initial.words l.slot).slots;
  links : l.links ≡ (first_slots l.ports l.fn.start l.initial.words l.slot).links;
  words : l.words ≡ (first_slots l.ports l.fn.start l.initial.words l.slot).words;
}
