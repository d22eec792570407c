use Rattle.std.proofs.Common.{◌≡◌, ◌++◌}
use Rattle.bus_diff.specs.Listed.{come}
use Rattle.bus_diff.proofs.comparing.put_all_new.Given as goal

abbrev pub invariant-loop-id : goal.invariant-loop-id
invariant-loop-id l = l.out.items ≡ l.initial.out.items ++ come l.cables l.pairs l.id
