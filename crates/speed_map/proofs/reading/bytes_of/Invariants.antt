use Rattle.std.proofs.Common.{◌≡◌, ◌++◌, drop}
use Rattle.quad_lanes.specs.Pairs.{bytes_of}
use Rattle.speed_map.proofs.reading.bytes_of.Given as goal

-- the bytes so far, and then those of the quadlets that are left, are the bytes of all
abbrev pub invariant-loop-quad : goal.invariant-loop-quad
invariant-loop-quad l = l.bytes.items ++ bytes_of (drop l.quad-index l.quads) ≡ bytes_of l.quads
