use Rattle.bus_diff.specs.Matching.{IsMatching}
use Rattle.bus_diff.proofs.matching.pairs_of.Given as goal

abbrev pub invariant-loop-id : goal.invariant-loop-id
invariant-loop-id l = IsMatching l.old l.new l.pairs.items
