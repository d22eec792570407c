use Rattle.std.proofs.Common.{◌≡◌, ℕ, ◌<◌, Some}
use Rattle.cabling.specs.declared.cable.End.{End}
use Rattle.cabling.specs.Wiring.{far}
use Rattle.settle.proofs.contention.are_neighbours.Given as goal

abbrev pub invariant-loop-port : goal.invariant-loop-port
invariant-loop-port l =
    (p : ℕ) (end : End) → p < l.port → far l.cabling (record { node = l.node; port = p }) ≡ Some end → end.node ≡ l.other → ⊥
