use Rattle.std.proofs.Common.{◌≡◌, ℕ, ◌&&◌, replicate}
use Rattle.std.specs.Prelude.{nat_lt}
use Rattle.port_state.specs.PortSet.{has_port}
use Rattle.cable_world.proofs.rows.WireRow.new.Given as goal

abbrev pub invariant-loop-port : goal.invariant-loop-port
invariant-loop-port l = record {
  held : l.held.items ≡ replicate l.port 0;
  row : (k : ℕ) → has_port l.row k ≡ (nat_lt k 16 && nat_lt k l.port);
}
