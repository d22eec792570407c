use Rattle.std.proofs.Common.{length, ap, arith}
use Rattle.std.proofs.lemmas.Option.{slice_get_within}
use Rattle.cable_world.proofs.Lemmas.{lawful-now}
use Rattle.world_agenda.proofs.still.WorldTellsStillTurns.touched.Goals as goal

-- all nodes are told
pub returns : goal.returns
returns g c fine k x at out =
    let lawful = lawful-now _ (c.args.self.now.reached fine) in
    let inside = slice_get_within _ k x at in
    absurd (out ((c.first.ensures k).1
    (omega (arith, inside, lawful.well_formed.count, c.nodes.ensures.value, ap length c.cabling.ensures))))
