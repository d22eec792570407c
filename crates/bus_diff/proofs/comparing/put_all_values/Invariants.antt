use Rattle.std.proofs.Common.{◌≡◌, ◌++◌, drop}
use Rattle.bus_diff.specs.Listed.{values}
use Rattle.bus_diff.proofs.comparing.put_all_values.Given as goal

abbrev pub invariant-loop-pair : goal.invariant-loop-pair
invariant-loop-pair l =
    l.out.items ++ values l.old l.new (drop l.pair-index l.pairs) ≡ l.initial.out.items ++ values l.old l.new l.pairs
