use Rattle.std.proofs.Common.{◌≡◌, length}
use Rattle.bus_tests.proofs.steps.take_all.Given as goal

-- there are as many nodes
abbrev pub invariant-loop-step : goal.invariant-loop-step
invariant-loop-step g l = length (g.W.WorldRun.world l.world).nodes ≡ l.nodes
