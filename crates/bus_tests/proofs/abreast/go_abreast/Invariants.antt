use Rattle.std.proofs.Common.{◌≡◌, length}
use Rattle.bus_tests.proofs.abreast.go_abreast.Given as goal

-- there are as many nodes
abbrev pub invariant-loop : goal.invariant-loop
invariant-loop g l = record {
  plain : length (g.V.WorldRun.world l.plain).nodes ≡ 6;
  agenda : length (g.W.WorldRun.world l.agenda).nodes ≡ 6;
}
