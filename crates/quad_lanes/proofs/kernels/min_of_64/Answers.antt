use Rattle.quad_lanes.proofs.Lanes.{min_stored}
use Rattle.quad_lanes.proofs.kernels.min_of_64.Goals as goal

pub returns : goal.returns
returns c = min_stored _ _ c.args.cap c.requires.to c.requires.from
