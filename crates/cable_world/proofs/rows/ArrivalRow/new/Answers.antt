use Rattle.std.proofs.Common.{◌∙◌, ap}
use Rattle.cable_world.specs.running.Rows.{arrivals_from}
use Rattle.cable_world.proofs.running.Rows.{new-arrivals}
use Rattle.cable_world.proofs.rows.ArrivalRow.new.Goals as goal

pub returns : goal.returns
returns c = ap (arrivals_from c.args.ports 0) c.new.ensures.items ∙ new-arrivals c.args.ports 0
