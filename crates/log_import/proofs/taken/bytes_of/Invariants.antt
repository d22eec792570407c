use Rattle.std.proofs.Common.{◌≡◌, ◌++◌, drop}
use Rattle.quad_lanes.specs.Pairs.{bytes_of}
use Rattle.log_import.proofs.taken.bytes_of.Given as goal

-- what was written and the bytes of the quadlets that are left are the whole
abbrev pub invariant-loop-quad : goal.invariant-loop-quad
invariant-loop-quad l = l.bytes.items ++ bytes_of (drop l.quad-index l.list) ≡ bytes_of l.list
