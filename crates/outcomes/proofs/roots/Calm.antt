-- In a component all of whose nodes are in self identify or A0 no Reset is under way, nor was one
-- in the turn before.
use Rattle.std.proofs.Common.{◌≡◌, inl, inr, ℕ, Bool, true, false, Some, slice_get, refl, sym, ◌∙◌, ap}
use Rattle.std.proofs.lemmas.Bool.{false_from_ne_true}
use Rattle.outcomes.proofs.Common.{contrary, ports_of, Holds, IsClosed, Phase, ParentShake, NodeState, is_resetting, hears_packets, PortNode, CableWorld, inbox, turn_at, turn, hear_all, IsLawful, node-after, turn-state, no-packets, joined-of, ResetsAreOverIn, AreIdentifying}
use Rattle.cable_world.proofs.Lemmas.{hears}
use Rattle.outcomes.proofs.identify.LinedTicks.{beat-arrives}
use Rattle.port_state.specs.Machine.{beat}

pub calm-in :
    (w : CableWorld) → IsLawful w → (set : ℕ) → IsClosed w.cabling set → AreIdentifying w set →
    ResetsAreOverIn w set
calm-in w l set closed all a b y h e at r =
    let n = joined-of w a b l.well_formed e in
    let h_a : Holds set a.node = closed b a (l.well_formed.cabling.both_ways a b e) h in
    absurd (no-packets n.near.state.view.phase ((l.coupled.cables a b n.near y e n.near_at at).reset r) (all a.node n.near h_a n.near_at))

-- a node in R0 isn't in self identify or A0 after the turn
module _
    (w : CableWorld) (l : IsLawful w) (k : ℕ) (x : PortNode) (at : slice_get w.nodes k ≡ Some x)
    (r : is_resetting x.state.view.phase ≡ true) where
  abbrev y : NodeState
  y = (hear_all (inbox w 0 (ports_of w.cabling k)) x.state).state

  resets : is_resetting y.view.phase ≡ true
  resets = elim (hears w k x l.well_formed at).cases [
    | inl s ↦ ap is_resetting s.phase ∙ r
    | inr c ↦ ap is_resetting c.phase
  ]

  mute : (h : Phase) → is_resetting h ≡ true → hears_packets h ≡ false
  mute h e = false_from_ne_true _ (λ f. no-packets h e f)

  not-shaking : (h : Phase) → is_resetting h ≡ true → h ≡ ParentShake → ⊥
  not-shaking h e f = contrary e (ap is_resetting f)

  pub still-out : hears_packets (turn_at w k x).node.state.view.phase ≡ false
  still-out = go (hears_packets (turn_at w k x).node.state.view.phase) refl
    where
      go :
          (b : Bool) → hears_packets (turn_at w k x).node.state.view.phase ≡ b → b ≡ false
      go false e = refl
      go true e = absurd (not-shaking y.view.phase resets (beat-arrives (beat x) y (mute y.view.phase resets) (sym (ap (λ (u : NodeState). hears_packets u.view.phase) (turn-state (inbox w 0 (ports_of w.cabling k)) x)) ∙ e)).shakes)

pub calm-before :
    (w : CableWorld) → IsLawful w → (set : ℕ) → IsClosed w.cabling set →
    AreIdentifying (turn w) set → ResetsAreOverIn w set
calm-before w l set closed all a b y h e at r =
    let n = joined-of w a b l.well_formed e in
    let h_a : Holds set a.node = closed b a (l.well_formed.cabling.both_ways a b e) h in
    let out = still-out w l a.node n.near n.near_at ((l.coupled.cables a b n.near y e n.near_at at).reset r) in
    contrary (all a.node (turn_at w a.node n.near).node h_a (node-after w a.node n.near l.well_formed.count n.near_at)) out
