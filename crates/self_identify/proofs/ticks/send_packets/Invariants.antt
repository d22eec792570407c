use Rattle.std.proofs.Common.{◌≡◌, ◌+◌, ◌*◌, ◌≤◌, ◌++◌, length, drop}
use Rattle.port_state.specs.Sends.{packets_on_every}
use Rattle.self_identify.proofs.ticks.send_packets.Given as goal

abbrev pub invariant-loop-quad : goal.invariant-loop-quad
invariant-loop-quad l = record {
  few : length l.out ≤ length l.initial.out + 16 * l.quad-index;
  sent :
      l.out ++ packets_on_every (drop l.quad-index l.quads) l.ports
      ≡ l.initial.out ++ packets_on_every l.quads l.ports;
}
