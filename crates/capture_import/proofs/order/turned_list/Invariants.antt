use Rattle.std.proofs.Common.{◌≡◌, ◌++◌, length, map}
use Rattle.capture_import.specs.Order.{turned}
use Rattle.capture_import.proofs.order.turned_list.Given as goal

abbrev pub invariant-loop-rest : goal.invariant-loop-rest
invariant-loop-rest l =
    l.list ++ map (turned l.order) l.rest ≡ map (turned l.order) l.quads

abbrev pub decreases-loop-rest : goal.decreases-loop-rest
decreases-loop-rest l = length l.rest
