use Rattle.std.proofs.Common.{◌≡◌, length, drop}
use Rattle.cable_world.specs.Turn.{wires_after_sends}
use Rattle.cable_world.specs.running.Hearing.{node_hears, on_one}
use Rattle.cable_world.specs.running.Rows.{signals_on}
use Rattle.cable_world.proofs.nodes.hear_port.Given as goal

abbrev pub invariant-loop-entry : goal.invariant-loop-entry
invariant-loop-entry g l =
    let record_of = g.M.PortMachine.record_of in
    let rest = node_hears (on_one l.port (signals_on l.from (drop l.entry-index l.arriving))) (record_of l.machine) in
    let whole = node_hears (on_one l.port (signals_on l.from l.arriving)) (record_of l.initial.machine) in
    record {
      row : length l.wires ≡ length l.initial.wires;
      ports : (record_of l.machine).state.ports ≡ (record_of l.initial.machine).state.ports;
      node : rest.node ≡ whole.node;
      sent : wires_after_sends 0 rest.sends l.wires ≡ wires_after_sends 0 whole.sends l.initial.wires;
    }
