use Rattle.script_run.proofs.Told.{tells-text}
use Rattle.script_run.proofs.readings.PrintingReading.tell.Goals as goal

pub returns-clause-told : goal.returns-clause-told
returns-clause-told c = λ bytes r. tells-text _ bytes c.args.bus c.args.text.items _ r

pub returns-clause-shown : goal.returns-clause-shown
returns-clause-shown c = λ bytes r. c.told_texts_are_printed.ensures bytes c.args.text.items (tells-text _ bytes c.args.bus c.args.text.items _ r)
