use Rattle.std.proofs.Common.{◌≡◌, ℕ, zero, suc, ◌<◌, ◌^◌, IsTrue, eqb, subst, refl, arith}
use Rattle.std.specs.Int.{w64, trailing_zeros}
use Rattle.std.proofs.lemmas.Bool.Decides.{nat_tests}
use Rattle.cabling.specs.NodeSet.{Holds}
use Rattle.cabling.proofs.Bits.{none_of_zero, some_node}
use Rattle.cabling.proofs.node_set.NodeSet.is_empty.Goals as goal

empty : (node n : ℕ) → IsTrue (eqb n 0) → Holds n node → ⊥
empty node n is h = let e : n ≡ 0 = grind (arith, nat_tests) in none_of_zero node (subst (λ (m : ℕ). Holds m node) e h)

full : (n : ℕ) → n < 2 ^ 63 → ((node : ℕ) → Holds n node → ⊥) → IsTrue (eqb n 0)
full zero small none = refl
full (suc n) small none = absurd (none (trailing_zeros w64 (suc n)) (some_node (suc n) (omega arith) small))

pub returns : goal.returns
returns c = rw (← c.self.view_is) (λ is node h. empty node c.self.inside.bits is h, λ none. full c.self.inside.bits c.self.invariant none)
