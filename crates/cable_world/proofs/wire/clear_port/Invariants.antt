use Rattle.std.proofs.Common.{◌≡◌, ◌==◌, ◌≤◌, ℕ, [], take, drop, if◌then◌else◌}
use Rattle.cable_world.specs.running.Rows.{on_port}
use Rattle.cable_world.proofs.wire.clear_port.Given as goal

abbrev pub invariant-loop-at : goal.invariant-loop-at
invariant-loop-at l = record {
  left : drop l.at l.sent ≡ drop l.at l.initial.sent;
  done : (p n : ℕ) → n ≤ l.at → on_port p (take n l.sent) ≡ (if p == l.port then [] else on_port p (take n l.initial.sent));
}
