use Rattle.std.proofs.Common.{◌≡◌, None}
use Rattle.std.proofs.Math.ListN.{replicate}
use Rattle.cabling.proofs.wiring.Ports.new.Given as goal

abbrev pub invariant-loop : goal.invariant-loop
invariant-loop l = l.ends.items ≡ replicate l.counter None
