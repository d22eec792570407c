use Rattle.std.proofs.Common.{◌≡◌, ◌∙◌, ◌<◌, ◌≤◌, None, length, get_or, arith, ap, sym}
use Rattle.cabling.specs.Wiring.{ports_of}
use Rattle.cable_world.specs.Turn.{wires_after_sends}
use Rattle.cable_world.specs.running.Hearing.{node_hears, on_one, arriving_from, inbox_of}
use Rattle.cable_world.proofs.running.Sending.{no-sends}
use Rattle.cable_world.proofs.running.Hearing.{port-more, port-more-sent, quiet-to, quiet-behind}
use Rattle.cable_world.proofs.nodes.hear_ports.Goals as goal

pub loop-next-preserved : goal.loop-next-preserved
loop-next-preserved g c =
    let n = g.M.PortMachine.record_of c.loop-next.machine in
    let next = g.M.PortMachine.record_of c.hear_end.new.machine in
    let table = c.args.arrivals.now in
    let ports = ports_of c.args.cabling.now c.args.node in
    let p = c.in-Some.next in
    let few : length ports ≤ 16 = omega (arith, c.ports-ports.ensures.value, c.ports-ports.ensures.few) in
    let inside : p < length ports = omega (arith, c.ports-ports.ensures.value, c.in-Some.ensures.there) in
    let skip = quiet-to table c.args.cabling.now c.args.node c.args.heard c.loop-next.port p few c.requires.quiet c.in-Some.ensures.up (λ k up less within. c.in-Some.ensures.lowest k up less) in
    let is : arriving_from table c.far-far.result ≡ arriving_from table (get_or ports p None) = ap (arriving_from table) c.far-far.ensures in
    let made = c.in_ok-hear_end.ensures.node ∙ ap (λ ss. (node_hears (on_one p ss) n).node) is in
    record {
      row = c.in_ok-hear_end.ensures.row ∙ c.loop-next.invariant.row;
      ports = c.in_ok-hear_end.ensures.ports ∙ c.loop-next.invariant.ports;
      node = port-more table ports p n inside next made ∙ ap (λ ss. (node_hears ss n).node) skip ∙ c.loop-next.invariant.node;
      sent =
          port-more-sent table ports p n inside next c.loop-next.wires c.hear_end.new.wires made
          (c.in_ok-hear_end.ensures.sent ∙ ap (λ ss. wires_after_sends 0 (node_hears (on_one p ss) n).sends c.loop-next.wires) is)
          ∙ ap (λ ss. wires_after_sends 0 (node_hears ss n).sends c.loop-next.wires) skip
          ∙ c.loop-next.invariant.sent;
    }

pub returns-clause-node : goal.returns-clause-node
returns-clause-node g c =
    let n = g.M.PortMachine.record_of c.loop-next.machine in
    let ports = ports_of c.args.cabling.now c.args.node in
    let few : length ports ≤ 16 = omega (arith, c.ports-ports.ensures.value, c.ports-ports.ensures.few) in
    let behind = quiet-behind c.args.arrivals.now c.args.cabling.now c.args.node c.args.heard c.loop-next.port few c.requires.quiet (λ k up less. c.in_default.ensures.none k up (omega (arith, less, c.ports-ports.ensures.value))) in
    ap (λ ss. (node_hears ss n).node) (sym behind) ∙ c.loop-next.invariant.node

pub returns-clause-sent : goal.returns-clause-sent
returns-clause-sent g c =
    let n = g.M.PortMachine.record_of c.loop-next.machine in
    let ports = ports_of c.args.cabling.now c.args.node in
    let few : length ports ≤ 16 = omega (arith, c.ports-ports.ensures.value, c.ports-ports.ensures.few) in
    let behind = quiet-behind c.args.arrivals.now c.args.cabling.now c.args.node c.args.heard c.loop-next.port few c.requires.quiet (λ k up less. c.in_default.ensures.none k up (omega (arith, less, c.ports-ports.ensures.value))) in
    sym (no-sends 0 c.loop-next.wires)
    ∙ ap (λ ss. wires_after_sends 0 (node_hears ss n).sends c.loop-next.wires) (sym behind)
    ∙ c.loop-next.invariant.sent
