use Rattle.std.proofs.Common.{◌≡◌, ◌++◌, drop}
use Rattle.cabling.specs.Wiring.{ports_of}
use Rattle.cabling.specs.codings.Visits.{next_visits}
use Rattle.cabling.proofs.wiring.Cabling.go_on.Given as goal

abbrev pub invariant-loop-port : goal.invariant-loop-port
invariant-loop-port l = l.waiting ++ next_visits l.visit.from l.port (drop l.port (ports_of l.self l.visit.node)) ≡ l.initial.waiting ++ next_visits l.visit.from 0 (ports_of l.self l.visit.node)
