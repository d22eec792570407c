use Rattle.std.proofs.Common.{subst}
use Rattle.bus_json.specs.Lines.{IsJsonLine}
use Rattle.reset_log.proofs.values.put_cut_off_line.Goals as goal

pub returns-clause-json : goal.returns-clause-json
returns-clause-json c = subst IsJsonLine c.in_ok-line.ensures.line c.in_ok-line.ensures.json
