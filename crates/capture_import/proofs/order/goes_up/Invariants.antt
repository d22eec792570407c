use Rattle.std.proofs.Common.{◌≡◌, ◌<◌, length}
use Rattle.capture_import.specs.Order.{goes_up}
use Rattle.capture_import.proofs.order.goes_up.Given as goal

abbrev pub invariant-loop-rest : goal.invariant-loop-rest
invariant-loop-rest l =
    (goes_up l.order l.before l.rest ≡ goes_up l.order l.first l.list) × (l.before < 256)

abbrev pub decreases-loop-rest : goal.decreases-loop-rest
decreases-loop-rest l = length l.rest
