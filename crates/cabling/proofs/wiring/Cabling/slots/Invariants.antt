use Rattle.std.proofs.Common.{◌≡◌, ◌-◌, ◌++◌, drop, length}
use Rattle.std.proofs.Math.ListN.{replicate}
use Rattle.self_id.specs.declared.node.PortStatus.TheVariants.{Absent}
use Rattle.cabling.specs.Wiring.{ports_of}
use Rattle.cabling.specs.codings.Shown.{statuses_from}
use Rattle.cabling.proofs.wiring.Cabling.slots.Given as goal

abbrev pub invariant-loop-port : goal.invariant-loop-port
invariant-loop-port l = record {
  rest : l.slots ++ statuses_from l.visit.from l.port (drop l.port (ports_of l.self l.visit.node)) ≡ statuses_from l.visit.from 0 (ports_of l.self l.visit.node);
  count : length l.slots ≡ l.port;
}

abbrev pub invariant-loop : goal.invariant-loop
invariant-loop l = l.slots ≡ statuses_from l.fn.visit.from 0 (ports_of l.fn.self l.fn.visit.node) ++ replicate (l.counter - length (ports_of l.fn.self l.fn.visit.node)) Absent
