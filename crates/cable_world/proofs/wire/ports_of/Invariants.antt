use Rattle.std.proofs.Common.{◌≡◌, ℕ, false, [], take}
use Rattle.std.specs.Prelude.{◌↔◌}
use Rattle.port_state.specs.PortSet.{has_port}
use Rattle.cable_world.specs.running.Rows.{on_port}
use Rattle.cable_world.proofs.wire.ports_of.Given as goal

abbrev pub invariant-loop-entry : goal.invariant-loop-entry
invariant-loop-entry l = (p : ℕ) → (has_port l.ports p ≡ false) ↔ (on_port p (take l.entry-index l.sent) ≡ [])
