use Rattle.std.proofs.Common.{◌≡◌}
use Rattle.bus_diff.specs.Along.{best_of}
use Rattle.bus_diff.proofs.along.best_of.Given as goal

abbrev pub invariant-loop-id : goal.invariant-loop-id
invariant-loop-id l = l.best.items ≡ best_of l.old l.new l.far l.over l.id
