-- A part of a set without a core has a node with at most one cable into the part.
use Rattle.std.proofs.Common.{inl, inr, arith}
use Rattle.cabling.specs.Wiring.{Wiring}
use Rattle.cabling.specs.Looped.{HasLeaves}
use Rattle.cabling.proofs.Bits.{below}
use Rattle.cabling.proofs.Cascade.{weak_or_all}

pub has_leaves : (c : Wiring) → HasLeaves c
has_leaves c set core part node is empty small within h = elim (weak_or_all c part 63 small) [
  | inl found ↦ (found.0, found.1.here, found.1.weak)
  | inr looped ↦ absurd (empty node ((is node).1 (part, within, (λ x k. looped x k (λ same. omega (arith, below part x small k))), h)))
]
