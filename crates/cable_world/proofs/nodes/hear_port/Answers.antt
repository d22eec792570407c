use Rattle.std.proofs.Common.{◌∙◌, ◌<◌, ◌+◌, List, length, drop, arith, ap, sym}
use Rattle.std.proofs.lemmas.List.{drop_all}
use Rattle.port_state.specs.declared.signal.Signal.{Signal}
use Rattle.port_state.proofs.Lemmas.{sound-on_signal}
use Rattle.cable_world.specs.Turn.{wires_after_sends}
use Rattle.cable_world.specs.running.Hearing.{node_hears, on_one}
use Rattle.cable_world.specs.running.Rows.{signals_on}
use Rattle.cable_world.proofs.running.Sending.{no-sends}
use Rattle.cable_world.proofs.running.Hearing.{hear-more, hear-more-sent}
use Rattle.cable_world.proofs.running.Rows.{left-has, left-has_not}
use Rattle.cable_world.proofs.nodes.hear_port.Goals as goal

pub loop-entry-preserved-then-not-has : goal.loop-entry-preserved-then-not-has
loop-entry-preserved-then-not-has g c =
    let n = g.M.PortMachine.record_of c.loop-entry.machine in
    let i = c.loop-entry.entry-index in
    let inside : i < length c.args.arriving.now = omega arith in
    let skip = sym (left-has_not c.args.from c.args.arriving.now i c.entry-item.result inside c.entry-item.is (sym c.has.ensures ∙ c.if-not-has.true)) in
    record {
      row = c.loop-entry.invariant.row;
      ports = c.loop-entry.invariant.ports;
      node = ap (λ (ss : List Signal). (node_hears (on_one c.args.port ss) n).node) skip ∙ c.loop-entry.invariant.node;
      sent = ap (λ (ss : List Signal). wires_after_sends 0 (node_hears (on_one c.args.port ss) n).sends c.loop-entry.wires) skip
          ∙ c.loop-entry.invariant.sent;
    }

pub loop-entry-preserved : goal.loop-entry-preserved
loop-entry-preserved g c =
    let m = c.loop-entry.machine in
    let n = g.M.PortMachine.record_of m in
    let next = g.M.PortMachine.record_of c.on_signal_into.new.self in
    let port = c.args.port in
    let i = c.loop-entry.entry-index in
    let inside : i < length c.args.arriving.now = omega arith in
    let e = c.entry-item.result in
    let rest = signals_on c.args.from (drop (i + 1) c.args.arriving.now) in
    let one = sym (left-has c.args.from c.args.arriving.now i e inside c.entry-item.is (sym c.has.ensures ∙ c.if-not-has.false)) in
    record {
      row = c.in_ok-send.ensures.row ∙ c.loop-entry.invariant.row;
      ports =
          ap (λ z. z.state.ports) c.on_signal_into.ensures.node
          ∙ (sound-on_signal port e.signal n.state (g.met.M.PortMachine.valid m)).ports ∙ c.loop-entry.invariant.ports;
      node =
          hear-more port e.signal rest n next c.on_signal_into.ensures.node
          ∙ ap (λ (ss : List Signal). (node_hears (on_one port ss) n).node) one ∙ c.loop-entry.invariant.node;
      sent =
          hear-more-sent port e.signal rest n next c.on_signal_into.new.out c.loop-entry.wires c.send.new.wires
          c.on_signal_into.ensures.node c.on_signal_into.ensures.sends c.in_ok-send.ensures.sent
          ∙ ap (λ (ss : List Signal). wires_after_sends 0 (node_hears (on_one port ss) n).sends c.loop-entry.wires) one
          ∙ c.loop-entry.invariant.sent;
    }

pub returns-clause-sent : goal.returns-clause-sent
returns-clause-sent g c =
    let n = g.M.PortMachine.record_of c.loop-entry.machine in
    sym (no-sends 0 c.loop-entry.wires)
    ∙ ap (λ es. wires_after_sends 0 (node_hears (on_one c.args.port (signals_on c.args.from es)) n).sends c.loop-entry.wires)
    (sym (drop_all c.loop-entry.entry-index c.args.arriving.now (omega arith)))
    ∙ c.loop-entry.invariant.sent
