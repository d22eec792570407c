use Rattle.std.proofs.Common.{◌∙◌, ap, sym}
use Rattle.cable_world.specs.Turn.{wires_after_sends}
use Rattle.cable_world.specs.running.Hearing.{node_hears, on_one, arriving_from}
use Rattle.cable_world.proofs.running.Sending.{no-sends}
use Rattle.cable_world.proofs.nodes.hear_end.Goals as goal

pub returns-in-None-clause-sent : goal.returns-in-None-clause-sent
returns-in-None-clause-sent g c =
    let n = g.M.PortMachine.record_of c.args.machine.now in
    sym (ap (λ far. wires_after_sends 0 (node_hears (on_one c.args.port (arriving_from c.args.arrivals.now far)) n).sends c.args.wires.now) c.in-None.is
    ∙ no-sends 0 c.args.wires.now)
