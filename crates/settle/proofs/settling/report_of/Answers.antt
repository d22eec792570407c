use Rattle.cable_world.proofs.Lemmas.{lawful-now}
use Rattle.settle.proofs.settling.report_of.Goals as goal

pub parts_of-requires-clause-formed : goal.parts_of-requires-clause-formed
parts_of-requires-clause-formed g c =
    (lawful-now (g.W.WorldRun.world c.args.world.now) (g.met.W.WorldRun.reached c.args.world.now c.requires.fine)).well_formed
