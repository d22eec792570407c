use Rattle.std.proofs.Common.{length, ◌-◌}
use Rattle.log_import.proofs.Progress.{Reads}
use Rattle.log_import.proofs.read.read_log.Given as goal

abbrev pub invariant-loop-log : goal.invariant-loop-log
invariant-loop-log g l = Reads (g.S.Source.left l.fn.source) (g.S.Source.left l.source) l.log.items
    (g.S.Source.faults l.fn.source) (g.S.Source.faults l.source)

abbrev pub decreases-loop-log : goal.decreases-loop-log
decreases-loop-log g l = 1073741824 - length l.log.items
