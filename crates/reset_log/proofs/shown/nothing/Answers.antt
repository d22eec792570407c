use Rattle.reset_log.proofs.InJson.{no_lines}
use Rattle.reset_log.proofs.shown.nothing.Goals as goal

pub returns-clause-json : goal.returns-clause-json
returns-clause-json c = no_lines c.args.form c.new.result.items c.new.ensures.items
