use Rattle.std.proofs.Common.{◌≡◌, length, take, sym, arith}
use Rattle.io_edges.proofs.Progress.{Consumes-then, gives_on}
use Rattle.io_edges.proofs.pieces.read_pieces.Goals as goal

pub returns-then-count-room-clause-rest : goal.returns-then-count-room-clause-rest
returns-then-count-room-clause-rest g c =
    (_, Consumes-then _ _ _ _ _ c.loop-count.invariant.takes.told c.loop-count.invariant.takes.came c.in_ok-count.ensures.bytes.0)

pub loop-count-preserved : goal.loop-count-preserved
loop-count-preserved g c =
    let size : length (take c.in_ok-count.count c.read.new.buf) ≡ c.in_ok-count.count = sym c.in_ok-count.ensures.bound.1 in
    let on = gives_on _ _ _ _ _ _ _ _ _ _ (g.T.Taker.stands_for c.take.new.self) (take c.in_ok-count.count c.read.new.buf) c.loop-count.invariant c.in_ok-count.ensures.bytes.0 c.in_ok-count.ensures.told (omega (arith, size, c.if-count-room.false)) c.in_ok-count.ensures.later (λ b m. c.take.ensures b m) in
    rw size at on
