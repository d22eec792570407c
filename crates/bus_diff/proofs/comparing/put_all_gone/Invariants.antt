use Rattle.std.proofs.Common.{◌≡◌, ◌++◌}
use Rattle.bus_diff.specs.Listed.{gone}
use Rattle.bus_diff.proofs.comparing.put_all_gone.Given as goal

abbrev pub invariant-loop-id : goal.invariant-loop-id
invariant-loop-id l = l.out.items ≡ l.initial.out.items ++ gone l.cables l.pairs l.id
