use Rattle.std.proofs.Common.{◌≤◌, ◌+◌, length, arith}
use Rattle.quad_lanes.proofs.Steps.{capped_step}
use Rattle.quad_lanes.proofs.kernels.min_row.Goals as goal

pub loop-at-preserved : goal.loop-at-preserved
loop-at-preserved c =
    let room : c.loop-at.at + 64 ≤ length c.args.src.now = omega (arith, c.loop-at-test.true) in
    (room, capped_step _ c.args.src.now _ _ _ c.loop-at.at 64 c.args.cap room c.loop-at.invariant.1 c.min_of_64.ensures)
