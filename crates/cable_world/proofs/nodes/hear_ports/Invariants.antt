use Rattle.std.proofs.Common.{◌≡◌, ◌-◌, length, drop}
use Rattle.cabling.specs.Wiring.{ports_of}
use Rattle.cable_world.specs.Turn.{wires_after_sends}
use Rattle.cable_world.specs.running.Hearing.{node_hears, inbox_of}
use Rattle.cable_world.proofs.nodes.hear_ports.Given as goal

abbrev pub invariant-loop-next : goal.invariant-loop-next
invariant-loop-next g l =
    let record_of = g.M.PortMachine.record_of in
    let ports = ports_of l.cabling l.node in
    let rest = node_hears (inbox_of l.arrivals l.port (drop l.port ports)) (record_of l.machine) in
    let whole = node_hears (inbox_of l.arrivals 0 ports) (record_of l.initial.machine) in
    record {
      row : length l.wires ≡ length l.initial.wires;
      ports : (record_of l.machine).state.ports ≡ (record_of l.initial.machine).state.ports;
      node : rest.node ≡ whole.node;
      sent : wires_after_sends 0 rest.sends l.wires ≡ wires_after_sends 0 whole.sends l.initial.wires;
    }

abbrev pub decreases-loop-next : goal.decreases-loop-next
decreases-loop-next g l = 16 - l.port
