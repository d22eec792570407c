use Rattle.std.proofs.Common.{◌≡◌}
use Rattle.bus_diff.specs.Same.{same_below}
use Rattle.bus_diff.proofs.matching.same_ids.Given as goal

abbrev pub invariant-loop-id : goal.invariant-loop-id
invariant-loop-id l = l.pairs.items ≡ same_below l.old l.new l.id
