use Rattle.std.proofs.Common.{◌∙◌, arith}
use Rattle.topology_map.proofs.Division.{next_quad, all_quads, one_crc}
use Rattle.topology_map.proofs.crc.crc16.Goals as goal

pub loop-quad-preserved : goal.loop-quad-preserved
loop-quad-preserved c = (
  omega arith,
  next_quad c.args.quads.now c.loop-quad.quad-index c.loop-quad.crc c.with_quad-crc.result c.loop-quad-test.true c.with_quad-crc.ensures ∙ c.loop-quad.invariant.1,
)

pub returns-clause-remainder : goal.returns-clause-remainder
returns-clause-remainder c = all_quads c.args.quads.now c.loop-quad.quad-index c.loop-quad.crc (omega arith) c.loop-quad.invariant.0 c.loop-quad.invariant.1

pub returns-clause-only : goal.returns-clause-only
returns-clause-only c = λ crc h.
    one_crc c.args.quads.now crc c.loop-quad.crc h (all_quads c.args.quads.now c.loop-quad.quad-index c.loop-quad.crc (omega arith) c.loop-quad.invariant.0 c.loop-quad.invariant.1)
