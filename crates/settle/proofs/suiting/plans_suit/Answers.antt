use Rattle.cabling.specs.Existence.{HasComponent}
use Rattle.cable_world.proofs.Lemmas.{lawful-now}
use Rattle.settle.proofs.Chosen.{suits}
use Rattle.settle.proofs.suiting.plans_suit.Goals as goal

pub returns : goal.returns
returns g c =
    let w = g.W.WorldRun.world c.args.world.now in
    let l = lawful-now w (g.met.W.WorldRun.reached c.args.world.now c.requires.sound) in
    let whole : HasComponent w.cabling c.args.from = c.components_exist.ensures w.cabling c.args.from l.well_formed.cabling c.requires.there in
    suits c.one_tree.ensures w l c.args.from whole.set c.requires.there whole.is whole.small
