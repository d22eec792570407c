use Rattle.cable_world.proofs.Lemmas.{lawful-now}
use Rattle.settle.proofs.Lemmas.{from-there, not-refused, packet-fits}
use Rattle.script_bus.proofs.bus.Bus.send_packet.Goals as goal

pub act_done-requires-clause-act : goal.act_done-requires-clause-act
act_done-requires-clause-act c =
    let w = c.args.self.world in
    let l = lawful-now w c.buses_are_sound.ensures.reached in
    let has = c.components_exist.ensures w.cabling c.args.node l.well_formed.cabling (from-there w l c.args.node c.args.plan.now c.requires) in
    packet-fits w l c.args.node c.args.plan.now c.requires has.set has.is has.small

pub act_done-requires-clause-fits : goal.act_done-requires-clause-fits
act_done-requires-clause-fits c =
    not-refused c.args.self.world (lawful-now c.args.self.world c.buses_are_sound.ensures.reached) c.args.node c.args.plan.now c.requires
