use Rattle.std.proofs.Common.{◌≡◌, ◌++◌, length}
use Rattle.quad_lanes.specs.Pairs.{quads_of}
use Rattle.quad_lanes.proofs.pairs.quads_of.Given as goal

-- the quadlets so far, and then those of the rest, are the quadlets of all
abbrev pub invariant-loop-rest : goal.invariant-loop-rest
invariant-loop-rest l = l.quads ++ quads_of l.rest ≡ quads_of l.bytes

abbrev pub decreases-loop-rest : goal.decreases-loop-rest
decreases-loop-rest l = length l.rest
