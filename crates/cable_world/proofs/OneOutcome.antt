-- A component has one outcome at most.
use Rattle.std.proofs.Common.{◌≡◌, inl, inr, ◌↔◌, ℕ, Option, Some, None, slice_get, refl, sym, ◌∙◌, subst, arith}
use Rattle.std.specs.Prelude.{IsSome, IsSomeAnd}
use Rattle.std.proofs.lemmas.Bool.{cases_eq}
use Rattle.std.proofs.lemmas.Nat.Bits.{same_from_bits}
use Rattle.topology_stack.specs.Tree.{Tree}
use Rattle.port_state.specs.Machine.{PortNode}
use Rattle.cabling.specs.Wiring.{Wiring}
use Rattle.cabling.specs.NodeSet.{Holds}
use Rattle.cabling.specs.Labels.{labels}
use Rattle.cabling.specs.Looped.{IsCore}
use Rattle.cabling.specs.Sees.{Sees}
use Rattle.cabling.proofs.Lemmas.{clear_bit, holds_or_not, one-tree}
use Rattle.cable_world.specs.World.{CableWorld}
use Rattle.cable_world.specs.Outcome.{HasNoLoop, IsLoop, IsTree, IsContention, IsFirstPair, Ending, IsOutcome, attrs_now, loop, tree, contention}

-- ---- sets and cores

pub same-set : (a b : ℕ) → ((k : ℕ) → Holds a k ↔ Holds b k) → a ≡ b
same-set a b h = same_from_bits a b (λ k. elim (holds_or_not a k) [
  | inl is ↦ is ∙ sym ((h k).0 is)
  | inr out ↦ clear_bit a k out ∙ sym (clear_bit b k (λ is. out ((h k).1 is)))
])

-- what is in one core of a set is in the other
in-core : (c : Wiring) (set a b k : ℕ) → IsCore c set a → IsCore c set b → Holds a k → Holds b k
in-core c set a b k x y h = (y k).1 ((x k).0 h)

same-core : (c : Wiring) (set a b : ℕ) → IsCore c set a → IsCore c set b → a ≡ b
same-core c set a b x y = same-set a b (λ k. (in-core c set a b k x y, in-core c set b a k y x))

no-loop-there : (w : CableWorld) (set core : ℕ) → IsLoop w set core → HasNoLoop w set → ⊥
no-loop-there w set core h n = n.empty h.node (in-core w.cabling set core n.core h.node h.is_core n.is_core h.in_core)

-- ---- trees

-- the root has no parent, and every other node has one
apart :
    (o : Option PortNode) → IsSomeAnd o (λ x. x.state.view.parent ≡ None) →
    IsSomeAnd o (λ x. IsSome x.state.view.parent) → ⊥
apart None n s = n
apart (Some x) n s = none-some x.state.view.parent n s
  where
    none-some : (p : Option ℕ) → p ≡ None → IsSome p → ⊥
    none-some None n s = absurd cc
    none-some (Some p) n s = absurd cc

same-root :
    (w : CableWorld) (set a b : ℕ) (t u : Tree) → IsTree w set a t → IsTree w set b u → b ≡ a
same-root w set a b t u x y = elim (cases_eq b a) [
  | inl is ↦ is
  | inr ne ↦ absurd (apart (slice_get w.nodes b) y.no_parent (x.parents b y.holds_root ne))
]

same-tree :
    (w : CableWorld) (set a b : ℕ) (t u : Tree) → IsTree w set a t → IsTree w set b u →
    tree a t ≡ tree b u
same-tree w set a b t u x y =
    let root : b ≡ a = same-root w set a b t u x y in
    let whole : t ≡ u = one-tree w.cabling (labels (attrs_now w)) a None t u x.seen (subst (λ (r : ℕ). Sees w.cabling (labels (attrs_now w)) r None u) root y.seen) in
    rw (whole, root) refl

-- ---- contentions

same-pair :
    (w : CableWorld) (set a b c d : ℕ) → IsContention w set a b → IsContention w set c d →
    IsFirstPair w set a b → IsFirstPair w set c d → (a ≡ c) × (b ≡ d)
same-pair w set a b c d x y f g = elim (f c d y) [
  | inl less ↦ elim (g a b x) [
    | inl more ↦ absurd (omega (arith, less, more))
    | inr same ↦ absurd (omega (arith, less, same.0))
  ]
  | inr at_most ↦ elim (g a b x) [
    | inl more ↦ absurd (omega (arith, more, at_most.0))
    | inr same ↦ (at_most.0, omega (arith, at_most.1, same.1))
  ]
]

pub one-outcome :
    (w : CableWorld) (set : ℕ) (o p : Ending) → IsOutcome w set o → IsOutcome w set p → o ≡ p
one-outcome w set (loop a) (loop b) x y = rw (same-core w.cabling set a b x.is_core y.is_core) refl
one-outcome w set (loop a) (tree r t) x y = absurd (no-loop-there w set a x y.no_loop)
one-outcome w set (loop a) (contention c d) x y = absurd (no-loop-there w set a x y.0.no_loop)
one-outcome w set (tree r t) (loop b) x y = absurd (no-loop-there w set b y x.no_loop)
one-outcome w set (tree r t) (tree q u) x y = same-tree w set r q t u x y
one-outcome w set (tree r t) (contention c d) x y = absurd (y.1 r t x)
one-outcome w set (contention a b) (loop e) x y = absurd (no-loop-there w set e y x.0.no_loop)
one-outcome w set (contention a b) (tree r t) x y = absurd (x.1 r t y)
one-outcome w set (contention a b) (contention c d) x y =
    let s = same-pair w set a b c d x.0 y.0 x.2 y.2 in
    rw (s.0, s.1) refl
