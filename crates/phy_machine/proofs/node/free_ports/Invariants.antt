use Rattle.std.proofs.Common.{◌≡◌, replicate}
use Rattle.port_state.specs.PowerOn.{free_port}
use Rattle.phy_machine.proofs.node.free_ports.Given as goal

abbrev pub invariant-loop-port : goal.invariant-loop-port
invariant-loop-port l = l.ports ≡ replicate l._port free_port
