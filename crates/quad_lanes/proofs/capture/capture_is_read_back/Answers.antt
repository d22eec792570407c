use Rattle.quad_lanes.proofs.Captured.{first_bad_pair-capture, firsts-capture, length-capture}
use Rattle.quad_lanes.proofs.capture.capture_is_read_back.Goals as goal

pub returns-clause-whole : goal.returns-clause-whole
returns-clause-whole c = length-capture

pub returns-clause-good : goal.returns-clause-good
returns-clause-good c = first_bad_pair-capture

pub returns-clause-same : goal.returns-clause-same
returns-clause-same c = firsts-capture
