use Rattle.std.proofs.Common.{◌≡◌, replicate, None}
use Rattle.script_bus.proofs.looks.Looks.none.Given as goal

abbrev pub invariant-loop : goal.invariant-loop
invariant-loop l = l.list.items ≡ replicate l.counter None
