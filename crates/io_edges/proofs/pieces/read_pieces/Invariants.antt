use Rattle.io_edges.proofs.Progress.{Gives}
use Rattle.io_edges.proofs.pieces.read_pieces.Given as goal

abbrev pub invariant-loop-count : goal.invariant-loop-count
invariant-loop-count g l = Gives (g.S.Source.left l.initial.source) (g.S.Source.left l.source) l.limit l.room
    (g.S.Source.faults l.initial.source) (g.S.Source.faults l.source) (g.T.Taker.stands_for l.initial.taker) (g.T.Taker.stands_for l.taker)

abbrev pub decreases-loop-count : goal.decreases-loop-count
decreases-loop-count g l = l.room
