use Rattle.std.proofs.Common.{◌≡◌, take}
use Rattle.cabling.specs.Wiring.{without_cables}
use Rattle.cabling.proofs.wiring.Cabling.new.Given as goal

abbrev pub invariant-loop-count : goal.invariant-loop-count
invariant-loop-count l = l.nodes.items ≡ without_cables (take l.count-index l.ports)
