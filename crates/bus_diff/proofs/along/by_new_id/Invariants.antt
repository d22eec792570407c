use Rattle.std.proofs.Common.{◌≡◌}
use Rattle.bus_diff.specs.Along.{by_new_id}
use Rattle.bus_diff.proofs.along.by_new_id.Given as goal

abbrev pub invariant-loop-id : goal.invariant-loop-id
invariant-loop-id l = l.list.items ≡ by_new_id l.pairs l.id
