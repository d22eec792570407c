use Rattle.std.proofs.Common.{◌≤◌, ◌∙◌, length, ap, arith, sym}
use Rattle.cabling.specs.Wiring.{ports_of}
use Rattle.cable_world.specs.Turn.{wires_after_sends}
use Rattle.cable_world.specs.running.Hearing.{node_hears}
use Rattle.cable_world.proofs.running.Sending.{no-sends}
use Rattle.cable_world.proofs.running.Hearing.{none-heard}
use Rattle.cable_world.proofs.nodes.hear.Goals as goal

pub returns-then-is_none-clause-node : goal.returns-then-is_none-clause-node
returns-then-is_none-clause-node g c =
    let m = c.args.machine.now in
    let n = g.M.PortMachine.record_of m in
    let few : length (ports_of c.args.cabling.now c.args.node) ≤ 16 = omega (arith, c.requires.ports, (g.met.M.PortMachine.valid m).bounded.few_ports) in
    sym (ap (λ ss. (node_hears ss n).node)
    (none-heard c.args.arrivals.now c.args.cabling.now c.args.node c.args.heard few c.requires.quiet (c.is_none.ensures.0 c.if-is_none.true)))

pub returns-then-is_none-clause-sent : goal.returns-then-is_none-clause-sent
returns-then-is_none-clause-sent g c =
    let m = c.args.machine.now in
    let n = g.M.PortMachine.record_of m in
    let few : length (ports_of c.args.cabling.now c.args.node) ≤ 16 = omega (arith, c.requires.ports, (g.met.M.PortMachine.valid m).bounded.few_ports) in
    sym (ap (λ ss. wires_after_sends 0 (node_hears ss n).sends c.args.wires.now)
    (none-heard c.args.arrivals.now c.args.cabling.now c.args.node c.args.heard few c.requires.quiet (c.is_none.ensures.0 c.if-is_none.true))
    ∙ no-sends 0 c.args.wires.now)
