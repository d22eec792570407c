use Rattle.std.proofs.Common.{◌≡◌}
use Rattle.cabling.proofs.visits.VisitList.in_reverse.Given as goal

abbrev pub invariant-loop-visit : goal.invariant-loop-visit
invariant-loop-visit l = l.list ≡ l.yielded
