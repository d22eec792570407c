use Rattle.std.proofs.Common.{◌≡◌}
use Rattle.bus_diff.specs.Along.{best_with}
use Rattle.bus_diff.proofs.along.try_node.Given as goal

abbrev pub invariant-loop-other : goal.invariant-loop-other
invariant-loop-other l =
    l.best.items ≡ best_with l.old l.new l.far l.over l.initial.best.items l.id l.other
