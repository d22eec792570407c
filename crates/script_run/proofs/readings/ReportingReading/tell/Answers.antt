use Rattle.script_run.proofs.Told.{tells-reports, tells-lines}
use Rattle.script_run.proofs.readings.ReportingReading.tell.Goals as goal

pub returns-clause-told : goal.returns-clause-told
returns-clause-told c = λ bytes r. tells-reports _ bytes c.args.bus c.args.text.items _ r

pub returns-clause-shown : goal.returns-clause-shown
returns-clause-shown c = λ bytes r. tells-lines _ bytes c.args.bus c.args.text.items _ r
