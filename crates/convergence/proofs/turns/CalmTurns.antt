-- A turn of a world without a node in R0: no node enters a reset, and each comes from where it was.
use Rattle.std.proofs.Common.{◌≡◌, inl, inr, ℕ, true, false, List, Some, slice_get, sym, ◌∙◌, ap, arith}
use Rattle.std.proofs.lemmas.Bool.{false_from_ne_true}
use Rattle.convergence.proofs.Common.{Signal, Phase, NodeState, beat, is_resetting, on_beat, PortNode, ports_of, CableWorld, inbox, turn, hear_all, is_before_tree, is_in_bus_reset, IsLawful, before, hears, ticks, NoEntry, HearsWell, TicksWell, turn-state, NoneIn, ResetsAreDone, contrary}
use Rattle.cable_world.proofs.Lemmas.{Recent, comes-from, hear-came}
use Rattle.convergence.proofs.turns.BeforeTree.{was-waiting, was-early}

abbrev pub signals : CableWorld → ℕ → List (ℕ × Signal)
signals w k = inbox w 0 (ports_of w.cabling k)

-- what a node has heard in a turn before its clock ticks
abbrev pub heard_by : CableWorld → ℕ → PortNode → NodeState
heard_by w k x = (hear_all (inbox w 0 (ports_of w.cabling k)) x.state).state

-- a node after a turn comes of one before it, which heard no Reset
pub record Calmly (w : CableWorld) (k : ℕ) (y : NodeState) : Type 0 where
  pub node : PortNode
  pub at : slice_get w.nodes k ≡ Some node
  pub hears : HearsWell (signals w k) node.state
  pub ticks : TicksWell (beat node) (heard_by w k node)
  pub heard : NoEntry node.state (hear_all (signals w k) node.state)
  pub is : y ≡ (on_beat (beat node) (heard_by w k node)).state

pub calmly :
    (w : CableWorld) → IsLawful w → NoneIn is_resetting w → (k : ℕ) (y : PortNode) →
    slice_get (turn w).nodes k ≡ Some y → Calmly w k y.state
calmly w l calm k y at_y =
    let x = before w k y l.well_formed at_y in
    let h : HearsWell (signals w k) x.0.state = hears w k x.0 l.well_formed x.1 in
    record {
      node = x.0;
      at = x.1;
      hears = h;
      ticks = ticks w k x.0 l.well_formed x.1;
      heard = elim h.cases [
        | inl s ↦ s
        | inr c ↦
            let port = hear-came (signals w k) x.0.state c.before (ap is_resetting c.phase) in
            let r : Recent w = comes-from w l k x.0 x.1 port.0 port.1 port.2 in
            contrary r.resets (calm r.number r.node r.at)
      ];
      is = ap (λ (u : PortNode). u.state) x.2 ∙ turn-state (signals w k) x.0;
    }

pub waiting-before :
    (w : CableWorld) (k : ℕ) (y : NodeState) → (c : Calmly w k y) →
    is_in_bus_reset y.view.phase ≡ true → is_in_bus_reset c.node.state.view.phase ≡ true
waiting-before w k y c h = sym (ap is_in_bus_reset c.heard.phase) ∙ was-waiting (beat c.node) (heard_by w k c.node) (sym (ap (λ (s : NodeState). is_in_bus_reset s.view.phase) c.is) ∙ h)

pub early-before :
    (w : CableWorld) (k : ℕ) (y : NodeState) → (c : Calmly w k y) →
    is_before_tree y.view.phase ≡ true → is_before_tree c.node.state.view.phase ≡ true
early-before w k y c h = sym (ap is_before_tree c.heard.phase) ∙ was-early (beat c.node) (heard_by w k c.node) (sym (ap (λ (s : NodeState). is_before_tree s.view.phase) c.is) ∙ h)

pub not-waiting : (p : Phase) → is_in_bus_reset p ≡ false → is_resetting p ≡ false
not-waiting p h = grind arith

pub done-calm : (w : CableWorld) → ResetsAreDone w → NoneIn is_resetting w
done-calm w done k x at = not-waiting x.state.view.phase (done k x at)

-- once resets are done they stay so
pub turn-done : (w : CableWorld) → IsLawful w → ResetsAreDone w → ResetsAreDone (turn w)
turn-done w l done k y at = false_from_ne_true _ (λ e.
    let d : Calmly w k y.state = calmly w l (done-calm w done) k y at in
    contrary (waiting-before w k y.state d e) (done k d.node d.at))
  where
    c : Calmly w k y.state
    c = calmly w l (done-calm w done) k y at
