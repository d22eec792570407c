use Rattle.std.proofs.Common.{◌≡◌, drop}
use Rattle.cable_world.specs.running.Rows.{on_port}
use Rattle.cable_world.proofs.wire.is_due.Given as goal

abbrev pub invariant-loop-entry : goal.invariant-loop-entry
invariant-loop-entry l = on_port l.port (drop l.entry-index l.sent) ≡ on_port l.port l.sent
