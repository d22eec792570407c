use Rattle.script_text.specs.Summary.{lines_of}
use Rattle.script_text.proofs.TextLines.{none_begins}
use Rattle.script_text.proofs.last_report.from_last_report.Goals as goal

pub loop-rest-init : goal.loop-rest-init
loop-rest-init c = none_begins (lines_of c.args.text.now)
