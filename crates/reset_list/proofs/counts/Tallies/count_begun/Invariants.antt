use Rattle.std.proofs.Common.{◌≡◌, drop}
use Rattle.topology_stack.specs.Tree.{walk}
use Rattle.reset_list.specs.Counts.{tallied}
use Rattle.reset_list.proofs.counts.Tallies.count_begun.Given as goal

abbrev pub invariant-loop-id : goal.invariant-loop-id
invariant-loop-id l = tallied l.card l.id (drop l.id (walk l.tree)) l.self ≡ tallied l.card 0 (walk l.tree) l.fn.self
