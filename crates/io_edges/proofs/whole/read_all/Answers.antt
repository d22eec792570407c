use Rattle.io_edges.proofs.Progress.{Consumes-then}
use Rattle.io_edges.proofs.whole.read_all.Goals as goal

pub returns-then-count-limit-clause-rest : goal.returns-then-count-limit-clause-rest
returns-then-count-limit-clause-rest g c = (
  _,
  Consumes-then _ _ _ _ _ c.loop-first.invariant.told c.loop-first.invariant.came
      c.in_ok-count.ensures.bytes.0,
)

pub returns-in_err-extend_from_slice-clause-rest : goal.returns-in_err-extend_from_slice-clause-rest
returns-in_err-extend_from_slice-clause-rest g c = (
  _,
  Consumes-then _ _ _ _ _ c.loop-first.invariant.told c.loop-first.invariant.came
      c.in_ok-count.ensures.bytes.0,
)

pub returns-then-count-room-clause-rest : goal.returns-then-count-room-clause-rest
returns-then-count-room-clause-rest g c = (
  _,
  Consumes-then _ _ _ _ _ c.loop-buf.invariant.told c.loop-buf.invariant.came
      c.in_ok-count-2.ensures.bytes.0,
)

pub returns-in_err-extend_from_slice-2-clause-rest :
    goal.returns-in_err-extend_from_slice-2-clause-rest
returns-in_err-extend_from_slice-2-clause-rest g c = (
  _,
  Consumes-then _ _ _ _ _ c.loop-buf.invariant.told c.loop-buf.invariant.came
      c.in_ok-count-2.ensures.bytes.0,
)
