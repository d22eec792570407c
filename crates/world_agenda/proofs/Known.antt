-- What an agenda says.
use Rattle.std.proofs.Common.{◌≡◌, ℕ, ◌≤◌, List, All, map, subst, arith}
use Rattle.std.proofs.lemmas.List.{get_or-map, length-map}
use Rattle.cabling.specs.NodeSet.{Holds, IsEmpty}
use Rattle.cabling.proofs.Lemmas.{none_of_zero}
use Rattle.world_agenda.specs.Agenda.{Knows, IdlesBut}

-- nothing
pub known-nothing : (soon next : ℕ) (ends : List ℕ) → soon ≡ 0 → next ≡ 0 → Knows soon next ends
known-nothing soon next ends s z = record {
  near = λ k has. absurd (none_of_zero k (subst (λ (m : ℕ). Holds m k) s has));
  idles = λ k inside out. omega (arith, z);
}

-- where no node is due soon, all are idle to the end of a turn
pub all-idle :
    {N : Type 0} → (end : N → ℕ) (soon next turn : ℕ) (nodes : List N) → IsEmpty soon → turn ≤ next → IdlesBut soon next (map end nodes) →
    All (λ n. turn ≤ end n) nodes
all-idle end soon next turn nodes none few h = λ k d inside.
    let there = h k (omega (arith, length-map nodes end, inside)) (none k) in
    omega (arith, there, few, get_or-map end nodes k d 0 inside)
