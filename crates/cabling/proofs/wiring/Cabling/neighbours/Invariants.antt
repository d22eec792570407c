use Rattle.std.proofs.Common.{◌<◌, ◌^◌}
use Rattle.cabling.proofs.Near.{Near}
use Rattle.cabling.proofs.wiring.Cabling.neighbours.Given as goal

abbrev pub invariant-loop-end : goal.invariant-loop-end
invariant-loop-end l = record {
  near : Near l.self l.node l.end-index l.found;
  small : l.found < 2 ^ 63;
}
