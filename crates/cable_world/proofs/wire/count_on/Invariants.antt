use Rattle.std.proofs.Common.{◌≡◌, ◌+◌, ◌≤◌, length, drop}
use Rattle.cable_world.specs.running.Rows.{on_port}
use Rattle.cable_world.proofs.wire.count_on.Given as goal

abbrev pub invariant-loop-entry : goal.invariant-loop-entry
invariant-loop-entry l = record {
  few : l.count ≤ l.entry-index;
  left : l.count + length (on_port l.port (drop l.entry-index l.sent)) ≡ length (on_port l.port l.sent);
}
