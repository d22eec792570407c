-- A set of nodes, closed under cables, whose nodes know their tree, in a world in which resets are
-- done. It stays so; its
-- child cables stay.
use Rattle.std.proofs.Common.{◌≡◌, inl, inr, ℕ, zero, suc, ◌+◌, ◌≤◌, true, false, not, List, Option, Some, None, slice_get, refl, sym, ◌∙◌, ap, subst, arith, add-one}
use Rattle.convergence.proofs.Common.{End, Wiring, far, Holds, IsClosed, NodeState, beat, is_resetting, is_port, IsValid, PortNode, CableWorld, turn_at, turn, is_before_tree, leads_down, IsLawful, cabling-after, node-after, came, side, side-node, child-if, cable-connected, hearing, ticking, late-roles, turn-lawful, not-both, NoEntry, no-quiet, one-quiet, PlacedHold, HoldSchedule, with_holds, quiet_after, IsChildCable, IsAcyclic, IsContested, ResetsAreDone}
use Rattle.cable_world.proofs.Lemmas.{holds-lawful}
use Rattle.convergence.proofs.turns.Cables.{joined-of}
use Rattle.convergence.specs.Rivals.{IsBelow}
use Rattle.convergence.proofs.turns.CalmTurns.{Calmly, calmly, heard_by, turn-done, done-calm}
use Rattle.convergence.proofs.coins.StaysContested.{rivals-of, turn-contested, holds-contested}
use Rattle.convergence.proofs.coins.ContestsInTurns.{down-after}
use Rattle.convergence.proofs.turns.Moves.{beat-late}
use Rattle.convergence.proofs.resets.ResetsDone.{no-resets}
use Rattle.convergence.proofs.coins.Rivals.{Rivals}
use Rattle.convergence.proofs.turns.Roles.{parent-late, child-late}
use Rattle.convergence.proofs.ranks.RanksInTurns.{turn-acyclic}
use Rattle.convergence.proofs.ranks.StaysAcyclic.{holds-acyclic}
use Rattle.convergence.proofs.turns.Weights.{weight, beat-weight}

pub record Grown (w : CableWorld) (set : ℕ) : Type 0 where
  pub lawful : IsLawful w
  pub acyclic : IsAcyclic w
  pub contested : IsContested w
  pub done : ResetsAreDone w
  pub closed : IsClosed w.cabling set
  pub late :
      (k : ℕ) (x : PortNode) → Holds set k → slice_get w.nodes k ≡ Some x →
      is_before_tree x.state.view.phase ≡ false

abbrev pub weight_in : Option PortNode → ℕ
weight_in None = 0
weight_in (Some x) = weight x.state

module _ (w : CableWorld) (set : ℕ) (g : Grown w set) where
  l : IsLawful w
  l = g.lawful

  pub there-back : (a b : End) → far w.cabling a ≡ Some b → far w.cabling b ≡ Some a
  there-back a b e = l.well_formed.cabling.both_ways a b e

  pub valid-at : (k : ℕ) (x : PortNode) → slice_get w.nodes k ≡ Some x → IsValid x.state
  valid-at k x at = (l.well_formed.nodes k x at).valid

  -- a cable from a child port is a child cable
  pub child-cable :
      (a b : End) (x : PortNode) → far w.cabling a ≡ Some b → slice_get w.nodes a.node ≡ Some x →
      leads_down x.state.view.ports a.port ≡ true → IsChildCable w a b
  child-cable a b x e at c =
      let j = joined-of w a b l.well_formed e in
      record {
        joined = e;
        above = x;
        above_at = at;
        child = c;
        below = j.other;
        below_at = j.other_at;
        parent = ((l.coupled.cables a b x j.other e at j.other_at).child c (no-resets w b a l g.done (there-back a b e))).0;
      }

  pub below-cable :
      (a b : End) → (e : IsChildCable w a b) → IsBelow e.above.state a.port e.below.state
  below-cable a b e = (g.contested.cables a b e.above e.below e.joined e.above_at e.below_at).below e.child (no-resets w b a l g.done (there-back a b e.joined))

  -- a parent port is no child port
  pub parent-only :
      (a b : End) (x : PortNode) → far w.cabling a ≡ Some b → slice_get w.nodes a.node ≡ Some x →
      is_port x.state.view.parent a.port ≡ true → leads_down x.state.view.ports a.port ≡ false
  parent-only a b x e at u =
      child-if x.state.view.parent x.state.view.ports a.port (late-roles x.state (valid-at a.node x at) (parent-late x.state (valid-at a.node x at) a.port u)) (cable-connected w a b x l.well_formed e at) ∙ ap not u

  -- ---- a turn

  pub calm-turn : (k : ℕ) (y : PortNode) → slice_get (turn w).nodes k ≡ Some y → Calmly w k y.state
  calm-turn k y at = calmly w l (done-calm w g.done) k y at

  late-turn :
      (k : ℕ) (y : PortNode) → Holds set k → slice_get (turn w).nodes k ≡ Some y →
      is_before_tree y.state.view.phase ≡ false
  late-turn k y h at =
      let c = calm-turn k y at in
      ap (λ (s : NodeState). is_before_tree s.view.phase) c.is ∙ beat-late (beat c.node) (heard_by w k c.node) (ap is_before_tree c.heard.phase ∙ g.late k c.node h c.at)

  pub grown-turn : Grown (turn w) set
  grown-turn = record {
    lawful = turn-lawful w l;
    acyclic = turn-acyclic w l g.acyclic;
    contested = turn-contested w l g.contested;
    done = turn-done w l g.done;
    closed = subst (λ c. IsClosed c set) (sym (cabling-after w)) g.closed;
    late = late-turn;
  }

  -- nobody gets heavier
  pub weight-turn :
      (k : ℕ) → Holds set k → weight_in (slice_get (turn w).nodes k)
      ≤ weight_in (slice_get w.nodes k)
  weight-turn k h = go (slice_get (turn w).nodes k) refl
    where
      go :
          (o : Option PortNode) → slice_get (turn w).nodes k ≡ o →
          weight_in o ≤ weight_in (slice_get w.nodes k)
      go None e = omega arith
      go (Some y) e =
          let c = calm-turn k y e in
          let less = beat-weight (beat c.node) (heard_by w k c.node) (ap is_before_tree c.heard.phase ∙ g.late k c.node h c.at) in
          omega (arith, less, ap weight c.is, ap weight_in c.at, same (heard_by w k c.node) c.node.state c.heard.phase c.heard.parent)
        where
          same :
              (x y : NodeState) → x.view.phase ≡ y.view.phase → x.view.parent ≡ y.view.parent →
              weight x ≡ weight y
          same x y e f = rw (e, f) refl

  -- no Reset comes
  pub hears-on :
      (a b : End) (x y : PortNode) → Rivals w.delay (side w a x) (side w b y) →
      slice_get w.nodes a.node ≡ Some x → NoEntry x.state (hearing (side w a x))
  hears-on a b x y r at = elim r.pair.near.hears.cases [
    | inl h ↦ h
    | inr h ↦ absurd (not-both (is_resetting (ticking (side w a x)).state.view.phase) (came w.delay (side w a x) (side w b y) r.pair h).0
        (ap (λ (s : NodeState). is_resetting s.view.phase) (sym (side-node w a x)) ∙ done-calm (turn w) (turn-done w l g.done) a.node (turn_at w a.node x).node (node-after w a.node x l.well_formed.count at)))
  ]

  -- child cables stay
  pub cable-turn : (a b : End) → IsChildCable w a b → IsChildCable (turn w) a b
  cable-turn a b e = go
    where
      r : Rivals w.delay (side w a e.above) (side w b e.below)
      r = rivals-of w l g.contested a b e.above e.below e.joined e.above_at e.below_at

      child : leads_down (turn_at w a.node e.above).node.state.view.ports a.port ≡ true
      child = ap (λ (s : NodeState). leads_down s.view.ports a.port) (side-node w a e.above)
          ∙ down-after w.delay (side w a e.above) (side w b e.below) r (hears-on a b e.above e.below r e.above_at) (child-late e.above.state (valid-at a.node e.above e.above_at) a.port e.child) e.child

      joined : far (turn w).cabling a ≡ Some b
      joined = ap (λ (c : Wiring). far c a) (cabling-after w) ∙ e.joined

      above-at : slice_get (turn w).nodes a.node ≡ Some (turn_at w a.node e.above).node
      above-at = node-after w a.node e.above l.well_formed.count e.above_at

      below-at : slice_get (turn w).nodes b.node ≡ Some (turn_at w b.node e.below).node
      below-at = node-after w b.node e.below l.well_formed.count e.below_at

      go : IsChildCable (turn w) a b
      go = record {
        joined = joined;
        above = (turn_at w a.node e.above).node;
        above_at = above-at;
        child = child;
        below = (turn_at w b.node e.below).node;
        below_at = below-at;
        parent = (((turn-lawful w l).coupled.cables a b (turn_at w a.node e.above).node (turn_at w b.node e.below).node joined above-at below-at).child child
            (no-resets (turn w) b a (turn-lawful w l) (turn-done w l g.done) (ap (λ (c : Wiring). far c b) (cabling-after w) ∙ there-back a b e.joined))).0;
      }

-- ---- holds

pub grown-held :
    (holds : List PlacedHold) (w : CableWorld) (set : ℕ) → Grown w set →
    Grown (with_holds holds w) set
grown-held holds w set g = record {
  lawful = holds-lawful holds w g.lawful;
  acyclic = holds-acyclic holds w g.lawful g.acyclic;
  contested = holds-contested holds w g.lawful g.contested;
  done = g.done;
  closed = g.closed;
  late = g.late;
}

cable-held :
    (holds : List PlacedHold) (w : CableWorld) (a b : End) → IsChildCable w a b →
    IsChildCable (with_holds holds w) a b
cable-held holds w a b e = record {
  joined = e.joined;
  above = e.above;
  above_at = e.above_at;
  child = e.child;
  below = e.below;
  below_at = e.below_at;
  parent = e.parent;
}

-- ---- quiet turns

module _ (hs : HoldSchedule) (v : CableWorld) (set : ℕ) (g : Grown v set) where
  abbrev later : ℕ → CableWorld
  later i = quiet_after hs i v

  pub grown-after : (i : ℕ) → Grown (later i) set
  unfolding quiet_after
  grown-after zero = grown-held (hs 0) v set g
  grown-after (suc i) =
      grown-held (hs (suc i)) (turn (later i)) set
      (grown-turn (later i) set (grown-after i))

  pub cable-after : (a b : End) → IsChildCable v a b → (i : ℕ) → IsChildCable (later i) a b
  unfolding quiet_after
  cable-after a b e zero = cable-held (hs 0) v a b e
  cable-after a b e (suc i) =
      cable-held (hs (suc i)) (turn (later i)) a b
      (cable-turn (later i) set (grown-after i) a b (cable-after a b e i))

  pub weight-step :
      (k : ℕ) → Holds set k → (i : ℕ) → weight_in (slice_get (later (i + 1)).nodes k)
      ≤ weight_in (slice_get (later i).nodes k)
  weight-step k h i = subst (λ (u : CableWorld). weight_in (slice_get u.nodes k) ≤ weight_in (slice_get (later i).nodes k)) (sym (one-quiet hs i v)) (weight-turn (later i) set (grown-after i) k h)

  pub weight-after :
      (k : ℕ) → Holds set k → (i : ℕ) → weight_in (slice_get (later i).nodes k)
      ≤ weight_in (slice_get v.nodes k)
  weight-after k h zero = omega (arith, ap (λ (u : CableWorld). weight_in (slice_get u.nodes k)) (no-quiet hs v))
  weight-after k h (suc i) =
      subst (λ n. weight_in (slice_get (later n).nodes k) ≤ weight_in (slice_get v.nodes k)) (add-one i) (omega (arith, weight-step k h i, weight-after k h i))

  -- a node after one turn more
  pub calm-at :
      (i k : ℕ) (y : PortNode) → slice_get (later (i + 1)).nodes k ≡ Some y →
      Calmly (later i) k y.state
  calm-at i k y at = calm-turn (later i) set (grown-after i) k y (ap (λ (u : CableWorld). slice_get u.nodes k) (sym (one-quiet hs i v)) ∙ at)
