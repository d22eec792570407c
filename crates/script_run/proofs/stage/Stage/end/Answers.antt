use Rattle.script_run.proofs.Going.{ended, prints-report}
use Rattle.script_run.proofs.stage.Stage.end.Goals as goal

pub returns-clause-done : goal.returns-clause-done
returns-clause-done g c =
    let settled = c.in_ok-bus-2.ensures in
    let report = settled.done in
    let bus = c.in_ok-bus-2.bus in
    ended g.R.Hears.Listener.voice g.R.Writes.Writer.writes c.args.self c.of_bus-stage.result c.in_ok-bus.field-0 bus c.in_ok-bus-3.field-0 report.0 _ _ _ _
    c.in_ok-bus.ensures c.of_bus-stage.ensures c.in_ok-bus-3.ensures report.2
    (c.in_ok-write.ensures report.0 (prints-report bus _ _ report.0 c.of_bus-stage.ensures c.new.ensures.items report.1)) settled.heard
