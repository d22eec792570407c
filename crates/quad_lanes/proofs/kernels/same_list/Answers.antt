use Rattle.std.proofs.Common.{arith}
use Rattle.quad_lanes.proofs.Steps.{same_step}
use Rattle.quad_lanes.proofs.kernels.same_list.Goals as goal

pub loop-at-preserved : goal.loop-at-preserved
loop-at-preserved c =
    (omega (arith, c.loop-at-test.true), same_step c.args.a.now c.args.b.now c.loop-at.at 16 c.loop-at.invariant.1 (c.same_16.ensures.0 c.if-not-same_16.false))
