use Rattle.quad_lanes.proofs.Lanes.{mask_of_pairs}
use Rattle.quad_lanes.proofs.kernels.bad_of_eight.Goals as goal

pub returns : goal.returns
returns c = mask_of_pairs _ c.requires
