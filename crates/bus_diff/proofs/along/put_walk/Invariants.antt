use Rattle.std.proofs.Common.{◌≡◌, drop}
use Rattle.bus_diff.specs.Along.{walked}
use Rattle.bus_diff.proofs.along.put_walk.Given as goal

abbrev pub invariant-loop-cable : goal.invariant-loop-cable
invariant-loop-cable l =
    walked l.old l.new l.far l.pairs.items (drop l.cable-index l.over) ≡ walked l.old l.new l.far l.initial.pairs.items l.over
