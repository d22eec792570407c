use Rattle.std.proofs.Common.{◌≡◌, map, take}
use Rattle.port_state.specs.Machine.{PortNode}
use Rattle.cable_world.proofs.start.port_counts.Given as goal

abbrev pub invariant-loop-node : goal.invariant-loop-node
invariant-loop-node g l = l.counts.items ≡ map (λ (x : PortNode). x.state.ports) (map g.M.PortMachine.record_of (take l.node l.machines))
