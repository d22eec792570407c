use Rattle.std.proofs.Common.{arith}
use Rattle.topology_stack.proofs.Streaming.{may_end, may_end_within}
use Rattle.topology_stack.proofs.reader.fault_of_more.Goals as goal

pub returns-then-at-quads-clause-none : goal.returns-then-at-quads-clause-none
returns-then-at-quads-clause-none c = λ quad. may_end_within c.args.quads.now quad c.args.place c.requires (omega (arith, c.if-at-quads.true))

pub returns-else-place-eq-MAX_NODES-clause-none : goal.returns-else-place-eq-MAX_NODES-clause-none
returns-else-place-eq-MAX_NODES-clause-none c = λ quad. may_end c.args.quads.now quad c.args.place c.requires (omega (arith, c.if-place-eq-MAX_NODES.false, c.requires.place.few)) c.if-place.false
