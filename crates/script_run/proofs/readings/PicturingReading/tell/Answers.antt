use Rattle.script_run.proofs.Told.{tells-picture}
use Rattle.script_run.proofs.readings.PicturingReading.tell.Goals as goal

pub returns-clause-told : goal.returns-clause-told
returns-clause-told c = λ bytes r. tells-picture _ _ bytes c.args.bus _ _ _ c.in_ok-graph.ensures r
