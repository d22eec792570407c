use Rattle.std.proofs.Common.{◌≡◌, ◌++◌, length, false}
use Rattle.capture_import.specs.List.{up_to_root}
use Rattle.capture_import.proofs.list.up_to_root.Given as goal

abbrev pub invariant-loop-rest : goal.invariant-loop-rest
invariant-loop-rest l =
    l.list ++ up_to_root l.up l.rest ≡ up_to_root false l.quads

abbrev pub decreases-loop-rest : goal.decreases-loop-rest
decreases-loop-rest l = length l.rest
