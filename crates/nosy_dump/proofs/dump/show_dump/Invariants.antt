use Rattle.std.proofs.Common.{◌-◌}
use Rattle.nosy_dump.specs.codings.Going.{ReadsDump}
use Rattle.nosy_dump.proofs.dump.show_dump.Given as goal

abbrev pub invariant-loop-count : goal.invariant-loop-count
invariant-loop-count g l = ReadsDump g.K.Sink.written g.K.Sink.faults g.K.Sink.surely_takes l.reader l.fn.form
    (g.S.Source.left l.initial.source) (g.S.Source.left l.source) l.initial.sink l.sink (g.S.Source.faults l.initial.source) (g.S.Source.faults l.source)

abbrev pub decreases-loop-count : goal.decreases-loop-count
decreases-loop-count g l = 9223372036854775807 - l.reader.taken
