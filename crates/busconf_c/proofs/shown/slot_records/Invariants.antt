use Rattle.std.proofs.Common.{◌≡◌, ℕ, ◌<◌, ◌≤◌, length, get_or}
use Rattle.c_records.specs.Shown.{no_slot, IsSlotOf}
use Rattle.c_records.specs.declared.records.SlotRecord.{SlotRecord}
use Rattle.busconf_c.proofs.shown.slot_records.Given as goal

abbrev pub invariant-loop-slot : goal.invariant-loop-slot
invariant-loop-slot l = record {
  whole : length l.slots ≡ 27;
  below : (k : ℕ) (d : SlotRecord) → k < l.slot → IsSlotOf l.tree l.id k (get_or l.slots k d);
  above : (k : ℕ) → l.slot ≤ k → get_or l.slots k no_slot ≡ no_slot;
}
