use Rattle.std.proofs.Common.{◌≡◌, ◌++◌, drop}
use Rattle.bus_diff.specs.Listed.{moved}
use Rattle.bus_diff.proofs.comparing.put_moves.Given as goal

abbrev pub invariant-loop-pair : goal.invariant-loop-pair
invariant-loop-pair l =
    l.out.items ++ moved l.pairs l.old l.new (drop l.pair-index l.pairs) ≡ l.initial.out.items ++ moved l.pairs l.old l.new l.pairs
