-- A node whose clock is even misses no turn, and another one of two turns in a row at most.
use Rattle.std.proofs.Common.{◌≡◌, ◌⊎◌, inl, inr, ℕ, zero, suc, ◌+◌, ◌≤◌, Bool, true, false, List, [], ◌∷◌, Some, slice_get, if◌then◌else◌, refl, sym, ◌∙◌, ap, subst, arith}
use Rattle.convergence.proofs.Common.{PortNode, CableWorld, turn, turn_at, IsLawful, node-after, some-same, before, one-quiet, quiet-lawful, HoldSchedule, quiet_after}
use Rattle.port_state.specs.Clock.{Clock, even, is_even, misses, clock_after, TicksFor}
use Rattle.port_state.proofs.Lemmas.{ticks-fewer, still-even}
use Rattle.cable_world.specs.Times.{Suits}
use Rattle.cable_world.proofs.Lemmas.{even-slack, misses-slowly}
use Rattle.convergence.specs.Turns.{slack_of, slack}
use Rattle.convergence.proofs.turns.Clocks.{ticks-missed, misses-none}

-- ---- even clocks

abbrev AreEven : List PortNode → Type 0
AreEven nodes = (k : ℕ) (x : PortNode) → slice_get nodes k ≡ Some x → is_even x.clock ≡ true

even-or : (nodes : List PortNode) → (AreEven nodes × (slack_of nodes ≡ 0)) ⊎ (slack_of nodes ≡ 1)
even-or [] = inl ((λ k x e. absurd cc), refl)
even-or (n ∷ ns) = go (is_even n.clock) refl (even-or ns)
  where
    go :
        (b : Bool) → is_even n.clock ≡ b → (AreEven ns × (slack_of ns ≡ 0)) ⊎ (slack_of ns ≡ 1) →
        (AreEven (n ∷ ns) × (slack_of (n ∷ ns) ≡ 0)) ⊎ (slack_of (n ∷ ns) ≡ 1)
    go false e h = inr (ap (λ b. if b then slack_of ns else 1) e)
    go true e (inr h) = inr (ap (λ b. if b then slack_of ns else 1) e ∙ h)
    go true e (inl h) = inl (all, ap (λ b. if b then slack_of ns else 1) e ∙ h.1)
      where
        all : AreEven (n ∷ ns)
        all zero x at = ap (λ (z : PortNode). is_even z.clock) (sym (some-same n x at)) ∙ e
        all (suc k) x at = h.0 k x at

pub slack-most : (w : CableWorld) → slack w ≤ 1
slack-most w = elim (even-or w.nodes) [ inl a ↦ omega (arith, a.1) | inr a ↦ omega (arith, a) ]

even-ticks : (c : Clock) → is_even c ≡ true → misses c ≡ true → ⊥
even-ticks even h m = cc
even-ticks c h m = cc

even-turn : (w : CableWorld) → IsLawful w → AreEven w.nodes → AreEven (turn w).nodes
even-turn w l h k y at =
    let x = before w k y l.well_formed at in
    ap (λ (z : PortNode). is_even z.clock) x.2 ∙ still-even x.0.clock (h k x.0 x.1)

even-later :
    (hs : HoldSchedule) (v : CableWorld) → IsLawful v → AreEven v.nodes → (i : ℕ) →
    AreEven (quiet_after hs i v).nodes
unfolding quiet_after
even-later hs v l h zero = h
even-later hs v l h (suc i) = even-turn (quiet_after hs i v) (quiet-lawful hs i v l) (even-later hs v l h i)

pub slack-later : (hs : HoldSchedule) (v : CableWorld) → IsLawful v → (i : ℕ) → slack (quiet_after hs i v) ≤ slack v
slack-later hs v l i = elim (even-or v.nodes) [
  | inl a ↦ omega (arith, even-slack (quiet_after hs i v).nodes (even-later hs v l a.0 i))
  | inr a ↦ omega (arith, a, slack-most (quiet_after hs i v))
]

-- ---- missed turns

pub misses-slack :
    (w : CableWorld) (k : ℕ) (x : PortNode) → slice_get w.nodes k ≡ Some x → misses x.clock ≡ true →
    slack w ≡ 1
misses-slack w k x at m = elim (even-or w.nodes) [ inl a ↦ absurd (even-ticks x.clock (a.0 k x at) m) | inr a ↦ a ]

pub slack-turn : (w : CableWorld) → IsLawful w → slack (turn w) ≤ slack w
slack-turn w l = elim (even-or w.nodes) [
  | inl a ↦ omega (arith, even-slack (turn w).nodes (even-turn w l a.0))
  | inr a ↦ omega (arith, a, slack-most (turn w))
]

-- the clock of a node misses the turn after so many
pub record Misses (hs : HoldSchedule) (v : CableWorld) (i k : ℕ) : Type 0 where
  pub node : PortNode
  pub at : slice_get (quiet_after hs i v).nodes k ≡ Some node
  pub missed : misses node.clock ≡ true

module _ (hs : HoldSchedule) (v : CableWorld) (l : IsLawful v) where
  pub some-slack : (i k : ℕ) → Misses hs v i k → slack v ≡ 1
  some-slack i k m = elim (even-or v.nodes) [
    | inl a ↦ absurd (even-ticks m.node.clock (even-later hs v l a.0 i k m.node m.at) m.missed)
    | inr a ↦ a
  ]

  pub not-twice : (i k : ℕ) → Misses hs v i k → Misses hs v (i + 1) k → ⊥
  not-twice i k m n =
      let u : CableWorld = quiet_after hs i v in
      let s : IsLawful u = quiet-lawful hs i v l in
      let is : (turn_at u k m.node).node ≡ n.node = some-same (turn_at u k m.node).node n.node (sym (node-after u k m.node s.well_formed.count m.at) ∙ ap (λ (t : CableWorld). slice_get t.nodes k) (sym (one-quiet hs i v)) ∙ n.at) in
      let fits : Suits u.delay u.longest m.node.state.timing = (s.well_formed.nodes k m.node m.at).timing in
      let pace = (misses-slowly u.longest m.node.state.timing m.node.clock m.missed (s.paced k m.node m.at)).0 in
      let rests : TicksFor 1 (clock_after m.node.clock) = ticks-fewer 1 m.node.state.timing.long (clock_after m.node.clock) (omega (arith, fits.long_least, fits.short_most, fits.short_least)) (ticks-missed m.node.state.timing.long m.node.clock m.missed pace) in
      misses-none 0 n.node.clock (subst (λ (t : PortNode). TicksFor 1 t.clock) is rests) n.missed

  -- so of one turn, or of two where a clock may miss one, one isn't missed
  pub not-missed :
      (i k : ℕ) → Misses hs v (i + slack v) k → (slack v ≡ 1 → Misses hs v i k) → ⊥
  not-missed i k m n =
      let one : slack v ≡ 1 = some-slack (i + slack v) k m in
      not-twice i k (n one) (subst (λ j. Misses hs v (i + j) k) one m)
