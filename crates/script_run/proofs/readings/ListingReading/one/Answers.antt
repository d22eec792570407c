use Rattle.script_run.proofs.Told.{one-listed}
use Rattle.script_run.proofs.readings.ListingReading.one.Goals as goal

pub returns : goal.returns
returns c = λ bytes. one-listed c.scripts_tell_one_thing.ensures.run bytes c.args.self.now.name.now
