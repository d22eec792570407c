use Rattle.std.proofs.Common.{◌≡◌, length, ap, arith}
use Rattle.cable_world.proofs.Lemmas.{lawful-now}
use Rattle.script_bus.proofs.bus.Bus.graph.Goals as goal

-- src/viewed.rt:17:29
pub report_graph-requires-clause-nodes : goal.report_graph-requires-clause-nodes
report_graph-requires-clause-nodes c =
    let lawful = lawful-now c.args.self.now.world c.buses_are_sound.ensures.reached in
    omega (arith, ap length c.names.ensures, ap length c.cabling.ensures, c.buses_are_sound.ensures.names, lawful.well_formed.count)
