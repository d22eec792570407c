use Rattle.quad_lanes.proofs.Lanes.{same_mask}
use Rattle.quad_lanes.proofs.kernels.same_16.Goals as goal

pub returns : goal.returns
returns c = same_mask _ _ c.requires.of_a c.requires.of_b
