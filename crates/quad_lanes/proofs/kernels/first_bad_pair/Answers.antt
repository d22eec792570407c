use Rattle.quad_lanes.proofs.FirstBad.{past_start}
use Rattle.quad_lanes.proofs.kernels.first_bad_pair.Goals as goal

pub loop-rest-init : goal.loop-rest-init
loop-rest-init c = past_start _
