-- Nodes become ready in turn along each child cable, and so in the order of the walk.
use Rattle.std.proofs.Common.{◌≡◌, ℕ, Bool, true, false, Option, Some, None, slice_get, sym, ◌∙◌, ap, length, ◌<◌, ◌^◌, arith}
use Rattle.cabling.specs.declared.cable.End.{End}
use Rattle.cabling.specs.NodeSet.{Holds}
use Rattle.topology_stack.specs.Tree.{Tree}
use Rattle.cabling.proofs.Lemmas.{end_at}
use Rattle.port_state.specs.Machine.{PortNode}
use Rattle.cable_world.specs.World.{CableWorld, wire_of}
use Rattle.cable_world.specs.Signals.{signals_of}
use Rattle.cable_world.specs.Lawful.{IsLawful}
use Rattle.cabling.specs.Existence.{ComponentsExist}
use Rattle.cable_world.proofs.Lemmas.{some-same, comes-lawful}
use Rattle.convergence.specs.Acyclic.{IsChildCable}
use Rattle.outcomes.specs.Identify.{Lined}
use Rattle.outcomes.specs.InTurn.{InTurn, ReadyFirst}
use Rattle.outcomes.specs.Intervals.{LeadsToChild}
use Rattle.outcomes.specs.NodeMarks.{is_ready, is_asked, is_named, IsMarked}
use Rattle.outcomes.specs.Numbered.{IsSound, IsSettling, IsNumbering}
use Rattle.outcomes.specs.RootWalk.{parent_now}
use Rattle.outcomes.specs.WalkMarks.{mark}
use Rattle.outcomes.proofs.Lemmas.{comes-numbering, component-small}
use Rattle.world_laws.specs.ReadyPrefix.{ReadyNodesAreFirst, IdentifyingNodesHaveTurns}

abbrev if_there : (PortNode → Bool) → Option PortNode → Bool
if_there test None = false
if_there test (Some x) = test x

abbrev ready : PortNode → Bool
ready x = is_ready x.state.view.phase

abbrev granted : PortNode → Bool
granted x = x.state.view.granted

abbrev at-node : (PortNode → Bool) → CableWorld → ℕ → Bool
at-node test w k = if_there test (slice_get w.nodes k)

passes :
    (test : PortNode → Bool) (w : CableWorld) (k : ℕ) (x : PortNode) → slice_get w.nodes k ≡ Some x →
    at-node test w k ≡ true → test x ≡ true
passes test w k x at h = sym (ap (if_there test) at) ∙ h

shows :
    (test : PortNode → Bool) (w : CableWorld) (k : ℕ) (x : PortNode) → slice_get w.nodes k ≡ Some x →
    test x ≡ true → at-node test w k ≡ true
shows test w k x at h = ap (if_there test) at ∙ h

there :
    (test : PortNode → Bool) (w : CableWorld) (k : ℕ) → at-node test w k ≡ true →
    (x : PortNode) × (slice_get w.nodes k ≡ Some x)
there test w k = go (slice_get w.nodes k)
  where
    go : (o : Option PortNode) → if_there test o ≡ true → (x : PortNode) × (o ≡ Some x)
    go None h = absurd cc
    go (Some x) h = (x, cc)

module _
    (w : CableWorld) (sound : IsSound w) (set core root : ℕ) (t : Tree)
    (s : IsSettling w set core root t) where
  abbrev Leads : ℕ → ℕ → End → Type 0
  Leads k p b = LeadsToChild w.cabling (parent_now w) k p b

  cable : (k p : ℕ) (b : End) → Holds set k → Leads k p b → IsChildCable w (end_at k p) b
  cable k p b h leads = s.walk.children k p b h leads

  line :
      (k p : ℕ) (b : End) (h : Holds set k) (leads : Leads k p b) →
      Lined (cable k p b h leads).above.state p (signals_of (wire_of w (end_at k p)).signals) (cable k p b h leads).below.state (signals_of (wire_of w b).signals)
  line k p b h leads =
      let c : IsChildCable w (end_at k p) b = cable k p b h leads in
      (sound.identifies.cables (end_at k p) b c.above c.below c.joined c.above_at c.below_at).line c.child c.parent (s.all k c.above h c.above_at)

  marked : (k p : ℕ) (b : End) (h : Holds set k) (leads : Leads k p b) →
      IsMarked (cable k p b h leads).above.state
  marked k p b h leads = let c : IsChildCable w (end_at k p) b = cable k p b h leads in sound.identifies.nodes k c.above c.above_at

  same-above :
      (k p q : ℕ) (b d : End) (h : Holds set k) (leads : Leads k p b) (also : Leads k q d) →
      (cable k p b h leads).above ≡ (cable k q d h also).above
  same-above k p q b d h leads also =
      let c : IsChildCable w (end_at k p) b = cable k p b h leads in
      let e : IsChildCable w (end_at k q) d = cable k q d h also in
      some-same c.above e.above (sym c.above_at ∙ e.above_at)

  in-turn : InTurn w.cabling (parent_now w) set (at-node granted w) (at-node ready w)
  in-turn = record {
    own = λ k h r.
        let x = there ready w k r in
        shows granted w k x.0 x.1 ((sound.identifies.nodes k x.0 x.1).ready (passes ready w k x.0 x.1 r));
    down = λ k p b h leads r.
        let c : IsChildCable w (end_at k p) b = cable k p b h leads in
        let named : is_named c.above.state p ≡ true = (marked k p b h leads).all_named (passes ready w k c.above c.above_at r) p c.child in
        shows ready w b.node c.below c.below_at ((line k p b h leads).names named);
    up = λ k p b h leads g.
        let c : IsChildCable w (end_at k p) b = cable k p b h leads in
        let asked : is_asked c.above.state p ≡ true = (line k p b h leads).grants (passes granted w b.node c.below c.below_at g) in
        shows granted w k c.above c.above_at ((marked k p b h leads).asks p asked);
    left = λ k p q b d h leads also less g.
        let c : IsChildCable w (end_at k p) b = cable k p b h leads in
        let e : IsChildCable w (end_at k q) d = cable k q d h also in
        let asked : is_asked e.above.state q ≡ true = (line k q d h also).grants (passes granted w d.node e.below e.below_at g) in
        let here : is_asked c.above.state q ≡ true = ap (λ (z : PortNode). is_asked z.state q) (same-above k p q b d h leads also) ∙ asked in
        let named : is_named c.above.state p ≡ true = (marked k p b h leads).order p q less here c.child in
        shows ready w b.node c.below c.below_at ((line k p b h leads).names named);
  }

  first : ReadyFirst w.cabling set (mark w.cabling root t 0) (at-node granted w) (at-node ready w)
  first = s.walk.in_turn (at-node granted w) (at-node ready w) in-turn

pub ready-first : ReadyNodesAreFirst
ready-first w set core root t sound s j k x y in_j in_k at_x at_y le r =
    passes ready w j x at_x ((first w sound set core root t s).first j k in_j in_k (shows ready w k y at_y r) le)

pub have-turns : ComponentsExist → IdentifyingNodesHaveTurns
have-turns exist w node set core comes there comp is_core all =
    let l : IsLawful w = comes-lawful w comes in
    let n : IsNumbering w = comes-numbering w comes in
    let small = component-small exist w.cabling node set l.well_formed.cabling (omega (arith, there, l.well_formed.count)) comp in
    let s = n.walks node set core there comp is_core small all in
    let sound : IsSound w = record { lawful = l; acyclic = n.acyclic; identifies = n.identifies } in
    record {
      root = s.root;
      inside = s.is.inside;
      is_root = s.is.is_root;
      tree = s.tree;
      seen = s.is.walk.seen;
      in_turn = ready-first w set core s.root s.tree sound s.is;
    }
