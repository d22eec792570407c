use Rattle.std.proofs.Common.{◌≡◌, replicate}
use Rattle.cable_world.proofs.start.no_changes.Given as goal

abbrev pub invariant-loop : goal.invariant-loop
invariant-loop l = l.changed.items ≡ replicate l.counter 0
