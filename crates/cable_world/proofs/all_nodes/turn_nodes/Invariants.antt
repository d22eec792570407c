use Rattle.std.proofs.Common.{◌≡◌, map}
use Rattle.port_state.specs.Machine.{NodeStep}
use Rattle.cable_world.specs.Turn.{all_wires_after_sends, last_changes}
use Rattle.cable_world.specs.running.Steps.{turns_of}
use Rattle.cable_world.proofs.running.Mixed.{mixed}
use Rattle.cable_world.proofs.all_nodes.turn_nodes.Given as goal

abbrev pub invariant-loop-node : goal.invariant-loop-node
invariant-loop-node g l =
    let record_of = g.M.PortMachine.record_of in
    let old = map record_of l.initial.machines in
    let steps = turns_of l.arrivals l.cabling old in
    let new = map (λ (s : NodeStep). s.node) steps in
    record {
      nodes : map record_of l.machines ≡ mixed l.node new old;
      changes : l.changed ≡ mixed l.node (last_changes l.turns old new l.initial.changed) l.initial.changed;
      wires : l.wires ≡ mixed l.node (all_wires_after_sends steps l.initial.wires) l.initial.wires;
    }
