use Rattle.std.proofs.Common.{ℕ, ◌-◌, ◌*◌, ◌^◌, ◌<◌, ◌≤◌, List, ◌++◌}
use Rattle.topology_stack.specs.Hex.{hex}
use Rattle.trace_event.specs.Stands.{Stands}
use Rattle.trace_event.proofs.words.quad_at.Given as goal

-- so many digits are read, and of eight digits the others are left
abbrev pub invariant-loop-count : goal.invariant-loop-count
invariant-loop-count l = record {
  few : l.count ≤ 8;
  value : l.value < 2 ^ (4 * l.count);
  found : Stands l.text l.at (hex l.count l.value) l.next;
  only :
      (q : ℕ) (w : List ℕ) (end : ℕ) → Stands l.text l.at (hex 8 q ++ w) end →
      Stands l.text l.next (hex (8 - l.count) q ++ w) end;
}
