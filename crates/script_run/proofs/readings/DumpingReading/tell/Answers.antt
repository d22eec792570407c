use Rattle.script_run.proofs.Told.{tells-dump}
use Rattle.script_run.proofs.readings.DumpingReading.tell.Goals as goal

pub returns-clause-told : goal.returns-clause-told
returns-clause-told c = λ bytes r. tells-dump _ bytes c.args.bus _ _ _ c.in_ok-dump.ensures r
