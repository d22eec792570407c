use Rattle.bus_view.proofs.Told.{no_lines}
use Rattle.bus_view.proofs.explain.said_behind.Goals as goal

pub returns-in-None-clause-json : goal.returns-in-None-clause-json
returns-in-None-clause-json c = λ json. no_lines c.new.result.items c.new.ensures.items
