use Rattle.std.proofs.Common.{◌≡◌, ◌++◌, drop}
use Rattle.quad_lanes.specs.Capture.{capture}
use Rattle.quad_lanes.proofs.capture.capture_of.Given as goal

-- what was written and the capture of the quadlets that are left are the whole
abbrev pub invariant-loop-quad : goal.invariant-loop-quad
invariant-loop-quad l = l.bytes.items ++ capture (drop l.quad-index l.list) ≡ capture l.list
