-- A component that identifies itself begins with empty lists, and goes on by its walk.
use Rattle.std.proofs.Common.{◌≡◌, ◌⊎◌, inl, inr, ℕ, zero, suc, ◌-◌, ◌^◌, ◌<◌, ◌≤◌, Bool, true, false, [], Option, Some, None, slice_get, get_or, option_map, refl, sym, ◌∙◌, ap, subst, arith}
use Rattle.std.proofs.lemmas.Bool.{eq-eqb, false_from_ne_true, true_from_ne_false}
use Rattle.std.proofs.lemmas.Option.{slice_get-map, get_or_from_slice_get}
use Rattle.outcomes.proofs.Common.{contrary, Attrs, Tree, End, Wiring, far, ports_of, Holds, IsComponent, IsCore, labels, mark, emit, Alike, Phase, ResetStart, ParentShake, NodeState, is_port, is_resetting, hears_packets, shown_attrs, PortNode, CableWorld, wire_of, inbox, turn_at, turn, hear_all, signals_of, has_reset, leads_down, IsLawful, attrs_now, cabling-after, node-after, before, some-same, turn-lawful, turn-state, no-packets, joined-of, turn-acyclic, IsAcyclic, ResetsAreOverIn, AreIdentifying, IsRoot, is_ready, is_asked, is_named, IsMarked, has_grant, has_done, IsIdentifying, RootWalk, StandsAt, IsNumbered, IsSettling, end_at}
use Rattle.cabling.specs.Labels.{no_attrs}
use Rattle.cable_world.proofs.Lemmas.{hears}
use Rattle.convergence.proofs.Lemmas.{Down, all-under, one-root}
use Rattle.outcomes.proofs.identify.Lines.{no-grant-up, no-done-down}
use Rattle.outcomes.proofs.identify.OneMessage.{end-of, two-parts}
use Rattle.outcomes.proofs.identify.Hearing.{parent-connected}
use Rattle.outcomes.proofs.identify.HearAll.{hear-marked}
use Rattle.outcomes.proofs.identify.IdentifyingTurn.{turn-identifying}
use Rattle.outcomes.proofs.identify.LinedTicks.{Arrives, beat-arrives, beat-ticks-parent}
use Rattle.outcomes.proofs.identify.ListsFollow.{IsAbove, one-above, parent-below}
use Rattle.outcomes.proofs.identify.MarksKept.{hears-late, none-asked}
use Rattle.outcomes.proofs.roots.Calm.{calm-in, calm-before}
use Rattle.outcomes.proofs.roots.Named.{same-walk}
use Rattle.outcomes.proofs.numbers.NumberedTurn.{turn-numbered, Stayed, stayed}
use Rattle.outcomes.proofs.roots.RootWalk.{root-walk, node-at}
use Rattle.port_state.specs.Machine.{beat, on_beat}

-- ---- up a component all of whose nodes are in self identify or A0

module _
    (w : CableWorld) (l : IsLawful w) (acyclic : IsAcyclic w) (i : IsIdentifying w) (set root : ℕ)
    (comp : IsComponent w.cabling root set) (inside : Holds set root)
    (r : IsRoot w root) (all : AreIdentifying w set) where
  over : ResetsAreOverIn w set
  over = calm-in w l set comp.closed all

  -- the node above
  pub record Up (k : ℕ) (x : PortNode) : Type 0 where
    pub port : ℕ
    pub end : End
    pub joined : far w.cabling end ≡ Some (end_at k port)
    pub is : PortNode
    pub at : slice_get w.nodes end.node ≡ Some is
    pub inside_too : Holds set end.node
    pub above : IsAbove w end (end_at k port) is x
    pub falls : acyclic.rank k < acyclic.rank end.node

  pub up-or-root :
      (k : ℕ) (x : PortNode) → Holds set k → slice_get w.nodes k ≡ Some x → (k ≡ root) ⊎ Up k x
  up-or-root k x h at = go x.state.view.parent refl
    where
      go : (o : Option ℕ) → x.state.view.parent ≡ o → (k ≡ root) ⊎ Up k x
      go None e =
          inl (one-root w l set over root k root comp h inside
          (record {
            node = x;
            at = at;
            late = hears-late x.state.view.phase (all k x h at);
            parentless = e;
          }) r)
      go (Some q) e =
          let a : End = end_at k q in
          let p : is_port x.state.view.parent q ≡ true =
          ap (λ o. is_port o q) e ∙ eq-eqb q q refl in
          let on = parent-connected x.state q (l.well_formed.nodes k x at).valid (all k x h at) p in
          let b = end-of (far w.cabling a) (sym ((l.well_formed.nodes k x at).connected q) ∙ on) in
          let n = joined-of w a b.0 l.well_formed b.1 in
          let back : far w.cabling b.0 ≡ Some a = l.well_formed.cabling.both_ways a b.0 b.1 in
          let h_b : Holds set b.0.node = comp.closed a b.0 b.1 h in
          let u =
          parent-below w l i a b.0 x n.other b.1 at n.other_at (all k x h at)
          (all b.0.node n.other h_b n.other_at) p in
          inr (record {
            port = q;
            end = b.0;
            joined = back;
            is = n.other;
            at = n.other_at;
            inside_too = h_b;
            above = u;
            falls =
                acyclic.falls b.0 a (record {
                  joined = back;
                  above = n.other;
                  above_at = n.other_at;
                  child = u.child;
                  below = x;
                  below_at = at;
                  parent = u.parent;
                });
          })

  -- what goes up each child cable from a node comes to the root
  pub climbs :
      (P : ℕ → PortNode → Type 0) →
      ((k : ℕ) (x : PortNode) (u : Up k x) → Holds set k → slice_get w.nodes k ≡ Some x → P k x →
      P u.end.node u.is)
      →
      (n k : ℕ) (x : PortNode) → acyclic.most - acyclic.rank k ≤ n → Holds set k →
      slice_get w.nodes k ≡ Some x → P k x → P root r.node
  climbs P ups zero k x low h at p = elim (up-or-root k x h at) [
    | inl same ↦
        subst (P root) (some-same x r.node (sym at ∙ ap (slice_get w.nodes) same ∙ r.at))
        (subst (λ (j : ℕ). P j x) same p)
    | inr u ↦ absurd (omega (arith, low, u.falls, acyclic.bounded u.end.node))
  ]
  climbs P ups (suc n) k x low h at p = elim (up-or-root k x h at) [
    | inl same ↦
        subst (P root) (some-same x r.node (sym at ∙ ap (slice_get w.nodes) same ∙ r.at))
        (subst (λ (j : ℕ). P j x) same p)
    | inr u ↦
        climbs P ups n u.end.node u.is (omega (arith, low, u.falls, acyclic.bounded u.end.node))
        u.inside_too u.at (ups k x u h at p)
  ]

  -- ---- where the root has asked nobody yet

  module _
      (empty : r.node.state.list.items ≡ []) (unasked : (q : ℕ) → is_asked r.node.state q ≡ false)
      (unready : is_ready r.node.state.view.phase ≡ false) where
    at-root : (k : ℕ) (x : PortNode) → slice_get w.nodes k ≡ Some x → k ≡ root → x ≡ r.node
    at-root k x at same = some-same x r.node (sym at ∙ ap (slice_get w.nodes) same ∙ r.at)

    -- a granted node below another was asked, and so the root asked somebody
    granted-below :
        (k : ℕ) (x : PortNode) → Holds set k → slice_get w.nodes k ≡ Some x →
        x.state.view.granted ≡ true → k ≡ root
    granted-below k x h at g = elim (up-or-root k x h at) [
      | inl same ↦ same
      | inr u ↦
          let found =
          climbs (λ j y. (q : ℕ) × (is_asked y.state q ≡ true))
          (λ j y v h_j at_j p. (v.end.port, v.above.line.grants ((i.nodes j y at_j).asks p.0 p.1)))
          (acyclic.most - acyclic.rank u.end.node) u.end.node u.is (omega arith) u.inside_too u.at
          (u.end.port, u.above.line.grants g) in
          contrary found.1 (unasked found.0)
    ]

    none-ready :
        (k : ℕ) (x : PortNode) → Holds set k → slice_get w.nodes k ≡ Some x →
        is_ready x.state.view.phase ≡ true → ⊥
    none-ready k x h at e =
        let same = at-root k x at (granted-below k x h at ((i.nodes k x at).ready e)) in
        contrary e (ap (λ (y : PortNode). is_ready y.state.view.phase) same ∙ unready)

    none-asked-there :
        (k q : ℕ) (x : PortNode) → Holds set k → slice_get w.nodes k ≡ Some x →
        is_asked x.state q ≡ true → ⊥
    none-asked-there k q x h at e =
        let same = at-root k x at (granted-below k x h at ((i.nodes k x at).asks q e)) in
        contrary e (ap (λ (y : PortNode). is_asked y.state q) same ∙ unasked q)

    no-grants :
        (a b : End) (x : PortNode) → Holds set b.node → far w.cabling b ≡ Some a →
        slice_get w.nodes b.node ≡ Some x → has_grant (signals_of (wire_of w a).signals) ≡ true → ⊥
    no-grants a b x h e at g =
        let n = joined-of w b a l.well_formed e in
        let h_a : Holds set a.node = comp.closed b a e h in
        elim (one-above w l i b a x n.other e at n.other_at (all b.node x h at)
        (all a.node n.other h_a n.other_at)) [
          | inl u ↦ contrary g (no-grant-up u.line)
          | inr u ↦
              none-asked-there a.node a.port n.other h_a n.other_at
              (two-parts (is_asked n.other.state a.port) x.state.view.granted
              (sym u.line.granting ∙ g)).0
        ]

    no-dones :
        (a b : End) (x : PortNode) → Holds set b.node → far w.cabling b ≡ Some a →
        slice_get w.nodes b.node ≡ Some x → has_done (signals_of (wire_of w a).signals) ≡ true → ⊥
    no-dones a b x h e at g =
        let n = joined-of w b a l.well_formed e in
        let h_a : Holds set a.node = comp.closed b a e h in
        elim (one-above w l i b a x n.other e at n.other_at (all b.node x h at)
        (all a.node n.other h_a n.other_at)) [
          | inl u ↦
              none-ready a.node n.other h_a n.other_at
              (two-parts (is_ready n.other.state.view.phase) (is_named x.state b.port)
              (sym u.line.naming ∙ g)).0
          | inr u ↦ contrary g (no-done-down u.line)
        ]

    pub begins-numbered : (t : Tree) → RootWalk w set root t → IsNumbered w set root t
    begins-numbered t walk = record {
      ids = λ k x h at e. absurd (none-ready k x h at e);
      turns = λ k p x h at g u le st.
          let here = granted-below k x h at g in
          let same = at-root k x at here in
          let flat : mark w.cabling root t 0 k p ≡ mark w.cabling root t 0 k 0 =
          walk.flat k 0 p x h at (omega arith) le (λ j low high. childless k x h at p st j high) in
          ap (λ (y : PortNode). y.state.list.items) same ∙ empty
          ∙ sym (ap (emit t) (flat ∙ ap (λ (j : ℕ). mark w.cabling root t 0 j 0) here
          ∙ walk.marked.first) ∙ walk.none);
      grants = λ a b x h e at g. absurd (no-grants a b x h e at g);
      dones = λ a b x h e at g. absurd (no-dones a b x h e at g);
      last = λ k x h at e o. absurd (none-ready k x h at e);
    }
      where
        childless :
            (k : ℕ) (x : PortNode) → Holds set k → slice_get w.nodes k ≡ Some x → (p : ℕ) →
            StandsAt x.state p → (j : ℕ) → j < p → leads_down x.state.view.ports j ≡ false
        childless k x h at p st j high =
            false_from_ne_true _ (λ e. none-asked-there k j x h at
            ((i.nodes k x at).named j (st.named j high e)))

-- ---- a turn after which all are there, and the root comes in it

module _
    (w : CableWorld) (l : IsLawful w) (i : IsIdentifying w) (root : ℕ) (x z : PortNode)
    (at : slice_get w.nodes root ≡ Some x) (at_z : slice_get (turn w).nodes root ≡ Some z)
    (out : hears_packets x.state.view.phase ≡ false)
    (here : hears_packets z.state.view.phase ≡ true) where
  y : NodeState
  y = (hear_all (inbox w 0 (ports_of w.cabling root)) x.state).state

  same :
      z.state
      ≡ (on_beat (beat x) (hear_all (inbox w 0 (ports_of w.cabling root)) x.state).state).state
  same =
      ap (λ (u : PortNode). u.state)
      (some-same z (turn_at w root x).node (sym at_z ∙ node-after w root x l.well_formed.count at))
      ∙ turn-state (inbox w 0 (ports_of w.cabling root)) x

  mute :
      hears_packets (hear_all (inbox w 0 (ports_of w.cabling root)) x.state).state.view.phase
      ≡ false
  mute = elim (hears w root x l.well_formed at).cases [
    | inl s ↦ ap hears_packets s.phase ∙ out
    | inr c ↦ ap hears_packets c.phase
  ]

  marked : IsMarked (hear_all (inbox w 0 (ports_of w.cabling root)) x.state).state
  marked =
      hear-marked (inbox w 0 (ports_of w.cabling root)) x.state
      (l.well_formed.nodes root x at).valid (i.nodes root x at) (λ h. contrary h out)

  comes-in :
      Arrives (hear_all (inbox w 0 (ports_of w.cabling root)) x.state).state
      (on_beat (beat x) (hear_all (inbox w 0 (ports_of w.cabling root)) x.state).state).state
  comes-in =
      beat-arrives (beat x) (hear_all (inbox w 0 (ports_of w.cabling root)) x.state).state mute
      (sym (ap (λ (u : NodeState). hears_packets u.view.phase) same) ∙ here)

  pub comes-empty : z.state.list.items ≡ []
  comes-empty = ap (λ (u : NodeState). u.list.items) same ∙ comes-in.list ∙ marked.unheard mute

  pub comes-unasked : (q : ℕ) → is_asked z.state q ≡ false
  comes-unasked q = go (is_asked z.state q) refl
    where
      go : (b : Bool) → is_asked z.state q ≡ b → b ≡ false
      go false e = refl
      go true e =
          absurd (none-asked (hear_all (inbox w 0 (ports_of w.cabling root)) x.state).state marked
          mute q (sym (ap (λ (u : NodeState). is_asked u q) same ∙ asked-so) ∙ e))
        where
          asked-so :
              is_asked (on_beat (beat x)
              (hear_all (inbox w 0 (ports_of w.cabling root)) x.state).state).state q
              ≡ is_asked (hear_all (inbox w 0 (ports_of w.cabling root)) x.state).state q
          asked-so = rw comes-in.ports refl

  pub comes-unready : is_ready z.state.view.phase ≡ false
  comes-unready =
      ap (λ (u : NodeState). is_ready u.view.phase) same ∙ ap is_ready comes-in.identifies

-- ---- the component in a turn

pub attrs-same :
    (w v : CableWorld) (k : ℕ) (x z : PortNode) → slice_get w.nodes k ≡ Some x →
    slice_get v.nodes k ≡ Some z → shown_attrs z.state ≡ shown_attrs x.state → labels (attrs_now w)
    k ≡ labels (attrs_now v) k
attrs-same w v k x z at at_z e =
    ap (λ (a : Attrs). record { attrs = a; kept_a = 0; kept_b = 0 })
    (read w x at ∙ sym e ∙ sym (read v z at_z))
  where
    read :
        (u : CableWorld) (y : PortNode) → slice_get u.nodes k ≡ Some y → get_or (attrs_now u)
        k no_attrs ≡ shown_attrs y.state
    read u y at =
        get_or_from_slice_get (attrs_now u) k (shown_attrs y.state) no_attrs
        (slice_get-map (λ (y : PortNode). shown_attrs y.state) u.nodes k
        ∙ ap (λ (o : Option PortNode). option_map (λ (y : PortNode). shown_attrs y.state) o) at)

module _
    (w : CableWorld) (l : IsLawful w) (acyclic : IsAcyclic w) (i : IsIdentifying w)
    (set core root : ℕ) (t : Tree) (s : IsSettling w set core root t) where
  calm : ResetsAreOverIn w set
  calm = calm-in w l set s.component.closed s.all

  v-lawful : IsLawful (turn w)
  v-lawful = turn-lawful w l

  v-acyclic : IsAcyclic (turn w)
  v-acyclic = turn-acyclic w l acyclic

  same-wires : (turn w).cabling ≡ w.cabling
  same-wires = cabling-after w

  stayed-so :
      (k : ℕ) (x z : PortNode) → Holds set k → slice_get w.nodes k ≡ Some x →
      slice_get (turn w).nodes k ≡ Some z →
      Stayed w l i set root t s.component.closed s.walk s.all s.numbered k x z
  stayed-so = stayed w l i set root t s.component.closed s.walk s.all s.numbered

  all-after : AreIdentifying (turn w) set
  all-after k z h at = let x = before w k z l.well_formed at in (stayed-so k x.0 z h x.1 at).hears

  comp-after : IsComponent (turn w).cabling root set
  comp-after = subst (λ (d : Wiring). IsComponent d root set) (sym same-wires) s.component

  core-after : IsCore (turn w).cabling set core
  core-after = subst (λ (d : Wiring). IsCore d set core) (sym same-wires) s.is_core

  abbrev root-node : PortNode
  root-node = (turn_at w root s.is_root.node).node

  root-at : slice_get (turn w).nodes root ≡ Some (turn_at w root s.is_root.node).node
  root-at = node-after w root s.is_root.node l.well_formed.count s.is_root.at

  pub root-after : IsRoot (turn w) root
  root-after = record {
    node = root-node;
    at = root-at;
    late = hears-late root-node.state.view.phase (all-after root root-node s.inside root-at);
    parentless =
        (stayed-so root s.is_root.node root-node s.inside s.is_root.at root-at).parent
        ∙ s.is_root.parentless;
  }

  alike : Alike w.cabling (turn w).cabling (labels (attrs_now w)) (labels (attrs_now (turn w))) set
  alike = record {
    ports = λ k h. ap (λ (d : Wiring). ports_of d k) (sym same-wires);
    labels = λ k h.
        let x =
        node-at w l acyclic root set calm core root s.component s.is_core s.small s.inside s.is_root
        k h in
        let at : slice_get (turn w).nodes k ≡ Some (turn_at w k x.0).node =
        node-after w k x.0 l.well_formed.count x.1 in
        attrs-same w (turn w) k x.0 (turn_at w k x.0).node x.1 at
        (stayed-so k x.0 (turn_at w k x.0).node h x.1 at).attrs;
  }

  later : ResetsAreOverIn (turn w) set
  later = calm-in (turn w) v-lawful set comp-after.closed all-after

  -- the walk stays
  pub walk-after : RootWalk (turn w) set root t
  walk-after =
      let u =
      root-walk (turn w) v-lawful v-acyclic root set later core root comp-after core-after s.small
      s.inside root-after in
      let same =
      same-walk w l acyclic root set calm core root s.component s.is_core s.small s.inside s.is_root
      t s.walk (turn w) u.0 u.1 alike in
      subst (RootWalk (turn w) set root) (sym same.tree) u.1

  pub settles-on : IsSettling (turn w) set core root t
  settles-on = record {
    component = comp-after;
    is_core = core-after;
    small = s.small;
    inside = s.inside;
    is_root = root-after;
    walk = walk-after;
    all = all-after;
    numbered = turn-numbered w l i set root t s.component.closed s.walk s.all s.numbered v-lawful;
  }

-- ---- the beginning

-- below a root in self identify all nodes are there
module _
    (w : CableWorld) (l : IsLawful w) (i : IsIdentifying w) (set root : ℕ)
    (comp : IsComponent w.cabling root set) (inside : Holds set root) (over : ResetsAreOverIn w set)
    (r : IsRoot w root) (here : hears_packets r.node.state.view.phase ≡ true) where
  hears-down :
      (n k : ℕ) → Down w l set over root n k → Holds set k → (x : PortNode) →
      slice_get w.nodes k ≡ Some x →
      hears_packets x.state.view.phase ≡ true
  hears-down zero k d h x at =
      ap (λ (y : PortNode). hears_packets y.state.view.phase)
      (some-same x r.node (sym at ∙ ap (slice_get w.nodes) d ∙ r.at)) ∙ here
  hears-down (suc n) k d h x at =
      let c = d.2 in
      let in_b : Holds set d.1.node = subst (Holds set) (sym d.3) h in
      let in_a : Holds set d.0.node =
      comp.closed d.1 d.0 (l.well_formed.cabling.both_ways d.0 d.1 c.joined) in_b in
      let up : hears_packets c.above.state.view.phase ≡ true =
      hears-down n d.0.node d.4 in_a c.above c.above_at in
      let same : x ≡ c.below =
      some-same x c.below (sym at ∙ sym (ap (slice_get w.nodes) d.3) ∙ c.below_at) in
      elim ((i.greets d.0 d.1 c.above c.below c.joined c.above_at c.below_at).both c.child
      (calm (has_reset (signals_of (wire_of w d.1).signals)) c.above.state.view.phase up
      (over d.1 d.0 c.above in_a (l.well_formed.cabling.both_ways d.0 d.1 c.joined) c.above_at))) [
        | inl s ↦ contrary up (ap hears_packets s)
        | inr s ↦ ap (λ (y : PortNode). hears_packets y.state.view.phase) same ∙ s
      ]
    where
      calm :
          (b : Bool) (h : Phase) → hears_packets h ≡ true → (b ≡ true → is_resetting h ≡ true) →
          b ≡ false
      calm true h e f = absurd (no-packets h (f refl) e)
      calm false h e f = refl

  pub all-below : AreIdentifying w set
  all-below k x h at =
      true_from_ne_false _ (λ e. all-under w l set over root r comp k h
      (λ u. contrary (hears-down u.0 k u.1 h x at) e))

module _
    (w : CableWorld) (l : IsLawful w) (acyclic : IsAcyclic w) (i : IsIdentifying w)
    (set core root : ℕ) (t : Tree) (comp : IsComponent w.cabling root set)
    (is_core : IsCore w.cabling set core)
    (small : set < 2 ^ 63) (inside : Holds set root) (r : IsRoot (turn w) root)
    (walk : RootWalk (turn w) set root t) (all : AreIdentifying (turn w) set)
    (not-yet : AreIdentifying w set → ⊥) where
  calm-first : ResetsAreOverIn w set
  calm-first = calm-before w l set comp.closed all

  was : (x : PortNode) × (slice_get w.nodes root ≡ Some x) × (r.node ≡ (turn_at w root x).node)
  was = before w root r.node l.well_formed r.at

  -- were the root there before, all nodes were
  root-out : hears_packets was.0.state.view.phase ≡ false
  root-out =
      false_from_ne_true _ (λ e.
      not-yet (all-below w l i set root comp inside calm-first
      (record {
        node = was.0;
        at = was.1;
        late = hears-late was.0.state.view.phase e;
        parentless = parent e;
      }) e))
    where
      x : PortNode
      x = was.0

      here : hears_packets r.node.state.view.phase ≡ true
      here = all root r.node inside r.at

      y : NodeState
      y = (hear_all (inbox w 0 (ports_of w.cabling root)) was.0.state).state

      same :
          r.node.state
          ≡ (on_beat (beat was.0)
          (hear_all (inbox w 0 (ports_of w.cabling root)) was.0.state).state).state
      same =
          ap (λ (u : PortNode). u.state) was.2 ∙ turn-state (inbox w 0 (ports_of w.cabling root))
          was.0

      -- a node that a Reset came to isn't there after the turn
      no-reset : (h : Phase) → h ≡ ResetStart → hears_packets h ≡ false
      no-reset h e = ap hears_packets e

      parent : hears_packets was.0.state.view.phase ≡ true → was.0.state.view.parent ≡ None
      parent e = elim (hears w root was.0 l.well_formed was.1).cases [
        | inl s ↦
            sym (ap (λ (u : NodeState). u.view.parent) same ∙ beat-ticks-parent (beat was.0)
            (hear_all (inbox w 0 (ports_of w.cabling root)) was.0.state).state
            (ap hears_packets s.phase ∙ e) ∙ s.parent) ∙ r.parentless
        | inr c ↦
            absurd (off-start (beat-arrives (beat was.0)
            (hear_all (inbox w 0 (ports_of w.cabling root)) was.0.state).state
            (no-reset (hear_all (inbox w 0 (ports_of w.cabling root)) was.0.state).state.view.phase
            c.phase) (sym (ap (λ (u : NodeState). hears_packets u.view.phase) same) ∙ here)).shakes
            c.phase)
      ]
        where
          off-start : {h : Phase} → h ≡ ParentShake → h ≡ ResetStart → ⊥
          off-start a b = let c : ParentShake ≡ ResetStart = sym a ∙ b in absurd cc

  pub settles-first : IsSettling (turn w) set core root t
  settles-first =
      let at : slice_get (turn w).nodes root ≡ Some r.node = r.at in
      let comp-v : IsComponent (turn w).cabling root set =
      subst (λ (d : Wiring). IsComponent d root set) (sym (cabling-after w)) comp in
      record {
        component = comp-v;
        is_core = subst (λ (d : Wiring). IsCore d set core) (sym (cabling-after w)) is_core;
        small = small;
        inside = inside;
        is_root = r;
        walk = walk;
        all = all;
        numbered =
            begins-numbered (turn w) (turn-lawful w l) (turn-acyclic w l acyclic)
            (turn-identifying w l i) set root comp-v inside r all
            (comes-empty w l i root was.0 r.node was.1 at root-out (all root r.node inside r.at))
            (comes-unasked w l i root was.0 r.node was.1 at root-out (all root r.node inside r.at))
            (comes-unready w l i root was.0 r.node was.1 at root-out (all root r.node inside r.at))
            t walk;
      }
