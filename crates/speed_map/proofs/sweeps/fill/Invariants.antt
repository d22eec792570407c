use Rattle.std.proofs.Common.{◌+◌, ◌≤◌, length}
use Rattle.topology_stack.specs.Tree.{walk}
use Rattle.speed_map.specs.codings.Sweep.{Rising, Falling, KeepFirsts}
use Rattle.speed_map.proofs.sweeps.fill.Given as goal

abbrev pub invariant-loop-id : goal.invariant-loop-id
invariant-loop-id l = Rising l.tree l.rows l.id × KeepFirsts l.tree l.firsts l.id

abbrev pub invariant-loop-id-2 : goal.invariant-loop-id-2
invariant-loop-id-2 l = Falling l.tree l.rows l.id × (l.id + 1 ≤ length (walk l.tree))

abbrev pub decreases-loop-id-2 : goal.decreases-loop-id-2
decreases-loop-id-2 l = l.id
