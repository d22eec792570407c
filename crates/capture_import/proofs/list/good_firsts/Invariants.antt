use Rattle.std.proofs.Common.{◌≡◌, ◌≤◌, ◌+◌, ◌*◌, ◌++◌, length}
use Rattle.capture_import.specs.List.{good_firsts}
use Rattle.capture_import.proofs.list.good_firsts.Given as goal

-- the firsts so far, and then those of the rest, are the firsts of all
abbrev pub invariant-loop-rest : goal.invariant-loop-rest
invariant-loop-rest l =
    (l.list ++ good_firsts l.rest ≡ good_firsts l.quads)
    × (2 * length l.list + length l.rest ≤ length l.quads)

abbrev pub decreases-loop-rest : goal.decreases-loop-rest
decreases-loop-rest l = length l.rest
