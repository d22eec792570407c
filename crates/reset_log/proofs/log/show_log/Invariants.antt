use Rattle.std.proofs.Common.{◌-◌}
use Rattle.bus_json.specs.Lines.{WritesJsonLines}
use Rattle.reset_log.specs.codings.Going.{ReadsLog}
use Rattle.reset_log.specs.codings.InJson.{IfJson}
use Rattle.reset_log.proofs.log.show_log.Given as goal

abbrev pub invariant-loop-count : goal.invariant-loop-count
invariant-loop-count g l =
    ReadsLog g.K.Sink.written g.K.Sink.faults g.K.Sink.surely_takes l.reader l.fn.form
    (g.S.Source.left l.initial.source) (g.S.Source.left l.source) l.initial.sink l.sink (g.S.Source.faults l.initial.source) (g.S.Source.faults l.source)
    × IfJson l.fn.form (WritesJsonLines (g.K.Sink.written l.initial.sink) (g.K.Sink.written l.sink))

abbrev pub decreases-loop-count : goal.decreases-loop-count
decreases-loop-count g l = 9223372036854775807 - l.reader.taken
