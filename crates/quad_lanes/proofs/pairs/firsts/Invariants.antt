use Rattle.std.proofs.Common.{◌≡◌, ◌++◌, length}
use Rattle.quad_lanes.specs.Pairs.{firsts}
use Rattle.quad_lanes.proofs.pairs.firsts.Given as goal

-- the firsts so far, and then those of the rest, are the firsts of all
abbrev pub invariant-loop-rest : goal.invariant-loop-rest
invariant-loop-rest l = l.list ++ firsts l.rest ≡ firsts l.quads

abbrev pub decreases-loop-rest : goal.decreases-loop-rest
decreases-loop-rest l = length l.rest
