use Rattle.quad_lanes.proofs.Captured.{capture_of_pairs}
use Rattle.quad_lanes.proofs.capture.good_pairs_are_a_capture.Goals as goal

pub returns : goal.returns
returns c = capture_of_pairs
