use Rattle.std.proofs.Common.{◌≡◌, ◌++◌, map, drop}
use Rattle.bus_diff.specs.Along.{turned}
use Rattle.bus_diff.proofs.along.turned_all.Given as goal

abbrev pub invariant-loop-cable : goal.invariant-loop-cable
invariant-loop-cable l = l.list.items ++ map turned (drop l.cable-index l.cables) ≡ map turned l.cables
