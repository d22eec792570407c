use Rattle.std.proofs.Common.{◌≡◌, ◌+◌, ◌-◌, ◌≤◌, ℕ, List, ◌++◌, length, take}
use Rattle.nosy_dump.specs.Record.{IsOpen}
use Rattle.nosy_dump.specs.codings.Going.{Knows, GathersAsJson}
use Rattle.nosy_dump.proofs.dump.DumpReader.gather.Given as goal

abbrev pub invariant-loop-at : goal.invariant-loop-at
invariant-loop-at l =
    ((done text : List ℕ) → length done + length l.bytes ≤ 9223372036854775807 →
    Knows IsOpen l.initial.self done (text ++ l.initial.out.items) →
    Knows IsOpen l.self (done ++ take l.at l.bytes) (text ++ l.out.items))
    × (l.self.form ≡ l.initial.self.form)
    × (l.at ≤ length l.bytes)
    × GathersAsJson l.initial.self.form l.initial.out.items l.out.items

abbrev pub decreases-loop-at : goal.decreases-loop-at
decreases-loop-at l = length l.bytes - l.at
