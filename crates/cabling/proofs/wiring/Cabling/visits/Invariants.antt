use Rattle.std.proofs.Common.{◌-◌, length}
use Rattle.cabling.proofs.Waiting.{AllGoing}
use Rattle.cabling.proofs.wiring.Cabling.visits.Given as goal

abbrev pub invariant-loop-visit : goal.invariant-loop-visit
invariant-loop-visit l = AllGoing l.self l.root l.waiting l.done

abbrev pub decreases-loop-visit : goal.decreases-loop-visit
decreases-loop-visit l = 63 - length l.done
