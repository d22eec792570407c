use Rattle.std.proofs.Common.{◌∙◌, ap, sym}
use Rattle.cabling.specs.Wiring.{ports_of}
use Rattle.port_state.specs.Machine.{node_tick}
use Rattle.cable_world.specs.Turn.{wires_after_sends}
use Rattle.cable_world.specs.running.Hearing.{node_hears, inbox_of}
use Rattle.cable_world.proofs.running.Sending.{sends-then}
use Rattle.cable_world.proofs.nodes.turn_node.Goals as goal

pub returns-clause-sent : goal.returns-clause-sent
returns-clause-sent g c =
    let n = g.M.PortMachine.record_of c.args.machine.now in
    let heard = node_hears (inbox_of c.args.arrivals.now 0 (ports_of c.args.cabling.now c.args.node)) n in
    let first = c.hear.new.wires in
    c.in_ok-send.ensures.sent
    ∙ ap (λ o. wires_after_sends 0 o first) c.tick_into.ensures.sends
    ∙ ap (λ m. wires_after_sends 0 (node_tick m).sends first) c.in_ok-hear.ensures.node
    ∙ ap (λ ws. wires_after_sends 0 (node_tick heard.node).sends ws) c.in_ok-hear.ensures.sent
    ∙ sym (sends-then 0 heard.sends (node_tick heard.node).sends c.args.wires.now)
