use Rattle.std.proofs.Common.{◌≡◌, ℕ, ◌<◌, true}
use Rattle.port_state.specs.PortSet.{has_port}
use Rattle.cable_world.proofs.all_nodes.all_ports.Given as goal

abbrev pub invariant-loop-port : goal.invariant-loop-port
invariant-loop-port l = (k : ℕ) → k < l.port → has_port l.ports k ≡ true
