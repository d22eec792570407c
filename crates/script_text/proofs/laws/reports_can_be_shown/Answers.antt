use Rattle.script_text.proofs.NamedReports.{can-be-shown}
use Rattle.script_text.proofs.laws.reports_can_be_shown.Goals as goal

pub returns : goal.returns
returns g c =
    can-be-shown c.reports_are_read_back.ensures.lists (g.W.WorldRun.world c.args.world.now)
    (g.met.W.WorldRun.reached c.args.world.now c.requires)
