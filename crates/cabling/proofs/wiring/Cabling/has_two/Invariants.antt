use Rattle.cabling.proofs.Stripping.{Counted}
use Rattle.cabling.proofs.wiring.Cabling.has_two.Given as goal

abbrev pub invariant-loop-end : goal.invariant-loop-end
invariant-loop-end l = Counted l.self l.set l.node l.end-index l.one
