use Rattle.std.proofs.Common.{arith}
use Rattle.cable_world.proofs.Lemmas.{lawful-now}
use Rattle.script_bus.specs.Running.{reported}
use Rattle.script_bus.proofs.Standing.{reported-stands}
use Rattle.script_bus.proofs.bus.Bus.stands.Goals as goal

pub returns : goal.returns
returns c =
    let w = c.args.self.now.world in
    let lawful = lawful-now w c.buses_are_sound.ensures.reached in
    let has = c.components_exist.ensures w.cabling c.args.node lawful.well_formed.cabling (omega (arith, c.requires.there, lawful.well_formed.count)) in
    reported-stands c.trees_stay.ensures.turns w c.args.node has.set has.is has.small
    c.args.self.now.notes c.buses_are_sound.ensures.stands (reported c.args.tree) c.requires.settled
