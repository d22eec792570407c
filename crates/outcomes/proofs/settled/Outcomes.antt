-- Whichever way a component without loop is decided, it has an outcome.
use Rattle.std.proofs.Common.{◌≡◌, ◌⊎◌, inl, inr, ℕ, ◌<◌, ◌≤◌, Bool, true, false, not, ◌&&◌, ◌==◌, is_some, Option, Some, None, IsSome, List, [], ◌∷◌, slice_get, refl, sym, ◌∙◌, ap, subst, arith, true≢false, eq-eqb}
use Rattle.std.proofs.lemmas.Bool.{cases_eq, eqb-true, and_parts, and_from, not-false}
use Rattle.outcomes.proofs.Common.{Tree, emits, Holds, IsComponent, labels, PortNode, CableWorld, IsLawful, IsTree, IsSettled, attrs_now, tree, contention, some-of, some-same, IsAcyclic, ResetsAreOver, HasContention, search-set, IsIdentifying, is_ready, IsSettling, contrary}
use Rattle.cabling.proofs.Lemmas.{one-tree}
use Rattle.cable_world.specs.Outcome.{IsContention, IsFirstPair}
use Rattle.convergence.specs.Drawers.{HasDrawn}
use Rattle.convergence.specs.Rivals.{IsContested}
use Rattle.convergence.proofs.Lemmas.{no-third}
use Rattle.outcomes.proofs.settled.Beginnings.{IsUnfinished}
use Rattle.outcomes.proofs.identify.MarksKept.{ready-hears}
use Rattle.outcomes.proofs.roots.Calm.{calm-in}
use Rattle.outcomes.proofs.roots.Named.{named-tree}
use Rattle.std.proofs.lemmas.Bool.{not-true}

-- ---- tests

same_numbers : List ℕ → List ℕ → Bool
same_numbers [] [] = true
same_numbers (x ∷ xs) (y ∷ ys) = (x == y) && same_numbers xs ys
same_numbers xs ys = false

same-if : (xs ys : List ℕ) → same_numbers xs ys ≡ true → xs ≡ ys
unfolding same_numbers
same-if [] [] h = refl
same-if (x ∷ xs) (y ∷ ys) h =
    let p = and_parts (x == y) (same_numbers xs ys) h in
    let e : x ≡ y = eqb-true x y p.0 in
    ap (λ (z : ℕ). z ∷ xs) e ∙ ap (λ (zs : List ℕ). y ∷ zs) (same-if xs ys p.1)
same-if [] (y ∷ ys) h = absurd (true≢false (sym h))
same-if (x ∷ xs) [] h = absurd (true≢false (sym h))

same-self : (xs : List ℕ) → same_numbers xs xs ≡ true
unfolding same_numbers
same-self [] = refl
same-self (x ∷ xs) = and_from (x == x) (same_numbers xs xs) (eq-eqb x x refl) (same-self xs)

-- ---- a tree, or none

-- in a tree each node has an ID
tree-some :
    (w : CableWorld) (set root : ℕ) (t : Tree) → IsTree w set root t → (k : ℕ) (x : PortNode) →
    Holds set k → slice_get w.nodes k ≡ Some x → is_some x.state.view.id ≡ true
tree-some w set root t h k x inside at =
    let s = some-of (slice_get w.nodes k) _ (h.ids k inside) in
    let i = some-of s.0.state.view.id _ s.2 in
    ap (λ (y : PortNode). is_some y.state.view.id) (some-same x s.0 (sym at ∙ s.1)) ∙ ap is_some i.1

-- and is in A0
pub tree-ready :
    (w : CableWorld) (set root : ℕ) (t : Tree) → IsIdentifying w → IsTree w set root t →
    (k : ℕ) (x : PortNode) → Holds set k → slice_get w.nodes k ≡ Some x →
    is_ready x.state.view.phase ≡ true
tree-ready w set root t i h k x inside at = sym (i.nodes k x at).id ∙ tree-some w set root t h k x inside at

pub no-tree-yet :
    (w : CableWorld) (set : ℕ) → IsIdentifying w → IsUnfinished w set → (root : ℕ) (t : Tree) →
    IsTree w set root t → ⊥
no-tree-yet w set i u root t h =
    contrary (ready-hears u.node.state.view.phase (tree-ready w set root t i h u.number u.node u.holds u.at)) u.out

module _
    (w : CableWorld) (l : IsLawful w) (acyclic : IsAcyclic w) (i : IsIdentifying w)
    (set core root : ℕ) (t : Tree) (s : IsSettling w set core root t) where
  -- whatever tree it has come to is the tree of its root
  pub same-root : (other : ℕ) (u : Tree) → IsTree w set other u → other ≡ root
  same-root other u h = elim (cases_eq root other) [
    | inl same ↦ sym same
    | inr ne ↦
        let p = some-of (slice_get w.nodes root) _ (h.parents root s.inside ne) in
        absurd (no-some p.0.state.view.parent p.2 (ap (λ (x : PortNode). x.state.view.parent) (some-same p.0 s.is_root.node (sym p.1 ∙ s.is_root.at)) ∙ s.is_root.parentless))
  ]
    where
      no-some : (o : Option ℕ) → IsSome o → o ≡ None → ⊥
      no-some None h e = true≢false (sym h)
      no-some (Some p) h e = absurd cc

  pub same-tree : (other : ℕ) (u : Tree) → IsTree w set other u → u ≡ t
  same-tree other u h =
      let seen = subst (λ (k : ℕ). IsTree w set k u) (same-root other u h) h in
      one-tree w.cabling (labels (attrs_now w)) root None u t seen.seen s.walk.seen

  pub tree-or-none :
      IsTree w set root t ⊎ ((other : ℕ) (u : Tree) → IsTree w set other u → ⊥)
  tree-or-none = elim (search-set set (λ x. not (is_ready x.state.view.phase)) w) [
    | inr f ↦ inr (λ other u h. contrary (tree-ready w set other u i h f.0 f.1.node f.1.holds f.1.at) (not-true (is_ready f.1.node.state.view.phase) f.1.passes))
    | inl ready ↦ elim (search-set set (λ x. not (same_numbers x.state.list.items (emits t))) w) [
      | inr f ↦ inr (λ other u h. contrary (listed f.0 f.1.node f.1.holds f.1.at other u h) (not-true (same_numbers f.1.node.state.list.items (emits t)) f.1.passes))
      | inl same ↦ inl (named-tree w l acyclic root set (calm-in w l set s.component.closed s.all) core root s.component s.is_core s.small s.inside s.is_root t s.walk (record {
        ids = λ k x h at. s.numbered.ids k x h at (not-false (is_ready x.state.view.phase) (ready k x h at));
        lists = λ k x h at. same-if x.state.list.items (emits t) (not-false (same_numbers x.state.list.items (emits t)) (same k x h at));
      }))
    ]
  ]
    where
      listed :
          (k : ℕ) (x : PortNode) → Holds set k → slice_get w.nodes k ≡ Some x → (other : ℕ)
          (u : Tree) → IsTree w set other u → same_numbers x.state.list.items (emits t) ≡ true
      listed k x inside at other u h =
          let q = some-of (slice_get w.nodes k) _ (h.lists k inside) in
          let is : x.state.list.items ≡ emits t =
          ap (λ (y : PortNode). y.state.list.items) (some-same x q.0 (sym at ∙ q.1)) ∙ q.2 ∙ ap emits (same-tree other u h) in
          subst (λ (xs : List ℕ). same_numbers xs (emits t) ≡ true) (sym is) (same-self (emits t))

-- ---- a contention

module _
    (w : CableWorld) (l : IsLawful w) (contested : IsContested w) (over : ResetsAreOver w)
    (node set : ℕ) (comp : IsComponent w.cabling node set) where
  drawn-low : (a b : ℕ) → IsContention w set a b → HasDrawn w a
  drawn-low a b c =
      let x = some-of (slice_get w.nodes a) _ c.draws in
      let y = some-of (slice_get w.nodes b) _ x.2 in
      record { node = x.0; at = x.1; some = omega (arith, y.2.many) }

  drawn-high : (a b : ℕ) → IsContention w set a b → HasDrawn w b
  drawn-high a b c =
      let x = some-of (slice_get w.nodes a) _ c.draws in
      let y = some-of (slice_get w.nodes b) _ x.2 in
      record { node = y.0; at = y.1; some = omega (arith, y.2.many_too) }

  -- who drew is one of the two
  one-of-two :
      (a b k : ℕ) → IsContention w set a b → Holds set k → HasDrawn w k → (k ≡ a) ⊎ (k ≡ b)
  one-of-two a b k c inside d = elim (cases_eq k a) [
    | inl e ↦ inl e
    | inr ne ↦ elim (cases_eq k b) [
      | inl e ↦ inr e
      | inr nf ↦ absurd (no-third w l contested over node set k a b comp inside c.holds_a c.holds_b ne nf (λ e. omega (arith, e, c.rising)) d (drawn-low a b c) (drawn-high a b c))
    ]
  ]

  first-pair : (a b : ℕ) → IsContention w set a b → IsFirstPair w set a b
  first-pair a b c e f g =
      go (one-of-two a b e c g.holds_a (drawn-low e f g)) (one-of-two a b f c g.holds_b (drawn-high e f g))
    where
      go : (e ≡ a) ⊎ (e ≡ b) → (f ≡ a) ⊎ (f ≡ b) → (a < e) ⊎ ((a ≡ e) × (b ≤ f))
      go (inl p) (inr q) = inr (sym p, omega (arith, q))
      go (inl p) (inl q) = absurd (omega (arith, p, q, g.rising))
      go (inr p) (inl q) = absurd (omega (arith, p, q, g.rising, c.rising))
      go (inr p) (inr q) = absurd (omega (arith, p, q, g.rising))

  pub contention-outcome :
      HasContention w set → ((root : ℕ) (t : Tree) → IsTree w set root t → ⊥) → IsSettled w set
  contention-outcome h none = (contention h.low h.high, (h.is, none, first-pair h.low h.high h.is))

pub tree-outcome :
    (w : CableWorld) (set root : ℕ) (t : Tree) → IsTree w set root t → IsSettled w set
tree-outcome w set root t h = (tree root t, h)
