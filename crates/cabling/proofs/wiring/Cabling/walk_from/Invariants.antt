use Rattle.std.proofs.Common.{◌≡◌, take, map}
use Rattle.cabling.proofs.Waiting.{node_of}
use Rattle.cabling.proofs.wiring.Cabling.walk_from.Given as goal

abbrev pub invariant-loop-visit : goal.invariant-loop-visit
invariant-loop-visit l = l.walk ≡ map node_of (take l.visit-index l.visit-items)
