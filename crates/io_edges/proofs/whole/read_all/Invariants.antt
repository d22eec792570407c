use Rattle.std.proofs.Common.{length, ◌-◌}
use Rattle.io_edges.proofs.Progress.{Takes, TakesOn}
use Rattle.io_edges.proofs.whole.read_all.Given as goal

abbrev pub invariant-loop-first : goal.invariant-loop-first
invariant-loop-first g l = Takes (g.S.Source.left l.fn.source) (g.S.Source.left l.source) l.bytes.items
    l.limit (g.S.Source.faults l.fn.source) (g.S.Source.faults l.source)

abbrev pub decreases-loop-first : goal.decreases-loop-first
decreases-loop-first g l = l.limit - length l.bytes.items

abbrev pub invariant-loop-buf : goal.invariant-loop-buf
invariant-loop-buf g l = TakesOn (g.S.Source.left l.fn.source) (g.S.Source.left l.source) l.bytes.items
    l.limit (g.S.Source.faults l.fn.source) (g.S.Source.faults l.source) (length l.buf.items)

abbrev pub decreases-loop-buf : goal.decreases-loop-buf
decreases-loop-buf g l = l.limit - length l.bytes.items
