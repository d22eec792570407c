-- An act leaves a component alone in which no node enters R0, and what is so of its self identify.
use Rattle.std.proofs.Common.{◌≡◌, inl, inr, ℕ, ◌+◌, Bool, false, is_some, Option, Some, None, List, slice_get, slice_index_or, refl, sym, ◌∙◌, ap, subst, arith, true≢false, bit_and}
use Rattle.std.proofs.lemmas.List.{ext_get_or}
use Rattle.outcomes.proofs.Common.{contrary, Signal, Tree, End, Wiring, far, ports_of, Holds, IsComponent, IsCore, HasTwo, labels, end_at, NodeState, PortView, port_is, hears_packets, shown_attrs, PortNode, node_set_config, Act, Travelling, CableWorld, wire_of, Acted, change_in_set, note_changes, leads_down, IsLawful, attrs_now, is_before_tree, signals_of, acting, some-same, IsAcyclic, AreIdentifying, IsRoot, Alike, emit, kept, quads_in, has_grant, has_done, is_ready, StandsAt, IsNumbered, IsSettling, place_now, RootWalk, mark}
use Rattle.cabling.specs.NodeSet.{IsWithin}
use Rattle.cabling.specs.Looped.{IsLooped, LeadsInto}
use Rattle.cabling.proofs.Lemmas.{in_both}
use Rattle.port_state.specs.Config.{ConfigPacket}
use Rattle.cable_world.proofs.Lemmas.{Stayed, Acting, HasBegun, as_before, altered, was}
use Rattle.outcomes.specs.RootWalk.{SameWalk}
use Rattle.outcomes.proofs.numbers.NodeMessages.{Owes}
use Rattle.outcomes.proofs.numbers.Settling.{attrs-same}
use Rattle.outcomes.proofs.roots.Calm.{calm-in}
use Rattle.outcomes.proofs.roots.Named.{same-walk}
use Rattle.outcomes.proofs.roots.RootWalk.{root-walk}

-- ---- cablings that are the same for the nodes of a set

module _
    (c d : Wiring) (set : ℕ) (same : (k : ℕ) → Holds set k → ports_of c k ≡ ports_of d k) where
  pub same-far : (a : End) → Holds set a.node → far c a ≡ far d a
  same-far a h = ap (λ (row : List (Option End)). slice_index_or row a.port None) (same a.node h)

  pub same-component : (node : ℕ) → IsComponent c node set → IsComponent d node set
  same-component node comp = record {
    holds = comp.holds;
    closed = λ a b e h. comp.closed a b (same-far a h ∙ e) h;
    least = λ other has closed k h.
        let both : IsWithin set (bit_and set other) =
        comp.least (bit_and set other) ((in_both set other node).1 (comp.holds, has)) (λ a b e in_a.
        let p = (in_both set other a.node).0 in_a in
        (in_both set other b.node).1 (
          comp.closed a b e p.0,
          closed a b (sym (same-far a p.0) ∙ e) p.1,
        )) in
        ((in_both set other k).0 (both k h)).1;
  }

  same-looped : (part : ℕ) → IsWithin part set → IsLooped c part → IsLooped d part
  same-looped part within looped k h =
      let two : HasTwo c part k = looped k h in
      record {
        low = two.low;
        high = two.high;
        apart = two.apart;
        low_leads = leads two.low two.low_leads;
        high_leads = leads two.high two.high_leads;
      }
    where
      leads : (p : ℕ) → LeadsInto c part (end_at k p) → LeadsInto d part (end_at k p)
      leads p into = (into.0, sym (same-far (end_at k p) (within k h)) ∙ into.1, into.2)

  pub same-core : (core : ℕ) → IsCore c set core → IsCore d set core
  same-core core is k = (λ h. let p = (is k).0 h in (p.0, p.1, same-looped p.0 p.1 p.2, p.3), from)
    where
      from : (part : ℕ) × IsWithin part set × IsLooped d part × Holds part k → Holds core k
      from p = (is k).1 (p.0, p.1, looped-back p.0 p.1 p.2, p.3)
        where
          looped-back : (part : ℕ) → IsWithin part set → IsLooped d part → IsLooped c part
          looped-back part within looped j h =
              let two : HasTwo d part j = looped j h in
              record {
                low = two.low;
                high = two.high;
                apart = two.apart;
                low_leads = leads two.low two.low_leads;
                high_leads = leads two.high two.high_leads;
              }
            where
              leads : (q : ℕ) → LeadsInto d part (end_at j q) → LeadsInto c part (end_at j q)
              leads q into = (into.0, same-far (end_at j q) (within j h) ∙ into.1, into.2)

-- ---- what of a node and of a component self identify speaks of

pub record SameNode (x z : NodeState) : Type 0 where
  pub phase : z.view.phase ≡ x.view.phase
  pub parent : z.view.parent ≡ x.view.parent
  pub granted : z.view.granted ≡ x.view.granted
  pub id : z.view.id ≡ x.view.id
  pub views : z.view.ports ≡ x.view.ports
  pub ports : z.ports ≡ x.ports
  pub list : z.list.items ≡ x.list.items
  pub attrs : shown_attrs z ≡ shown_attrs x

-- the second world has it as the first
pub record LeavesAlone (w v : CableWorld) (set : ℕ) : Type 0 where
  pub ports : (k : ℕ) → Holds set k → ports_of w.cabling k ≡ ports_of v.cabling k
  pub nodes :
      (k : ℕ) (z : PortNode) → Holds set k → slice_get v.nodes k ≡ Some z →
      (x : PortNode) × (slice_get w.nodes k ≡ Some x) × SameNode x.state z.state
  pub signals :
      (a b : End) → Holds set a.node → far v.cabling a ≡ Some b →
      (wire_of v a).signals ≡ (wire_of w a).signals

-- ---- it settles as before

module _
    (w v : CableWorld) (l : IsLawful w) (acyclic : IsAcyclic w) (m : IsLawful v)
    (v-acyclic : IsAcyclic v) (set core root : ℕ) (t : Tree) (alone : LeavesAlone w v set)
    (s : IsSettling w set core root t)
    (there : (k : ℕ) → Holds set k → (z : PortNode) × (slice_get v.nodes k ≡ Some z))
    (all : AreIdentifying v set) where
  comp : IsComponent v.cabling root set
  comp = same-component w.cabling v.cabling set alone.ports root s.component

  is_core : IsCore v.cabling set core
  is_core = same-core w.cabling v.cabling set alone.ports core s.is_core

  is_root : IsRoot v root
  is_root =
      let z = there root s.inside in
      let x = alone.nodes root z.0 s.inside z.1 in
      let same : x.0 ≡ s.is_root.node = some-same x.0 s.is_root.node (sym x.1 ∙ s.is_root.at) in
      record {
        node = z.0;
        at = z.1;
        late =
            ap is_before_tree x.2.phase ∙ ap (λ (u : PortNode). is_before_tree u.state.view.phase)
            same ∙ s.is_root.late;
        parentless =
            x.2.parent ∙ ap (λ (u : PortNode). u.state.view.parent) same ∙ s.is_root.parentless;
      }

  walk : (u : Tree) × RootWalk v set root u
  walk =
      root-walk v m v-acyclic root set (calm-in v m set comp.closed all) core root comp is_core
      s.small s.inside is_root

  alike : Alike w.cabling v.cabling (labels (attrs_now w)) (labels (attrs_now v)) set
  alike = record {
    ports = alone.ports;
    labels = λ k h.
        let z = there k h in
        let x = alone.nodes k z.0 h z.1 in
        attrs-same w v k x.0 z.0 x.1 z.1 x.2.attrs;
  }

  same : SameWalk w v set root t walk.0
  same =
      same-walk w l acyclic root set (calm-in w l set s.component.closed s.all) core root
      s.component s.is_core s.small s.inside s.is_root t s.walk v walk.0 walk.1 alike

  emitted : (i j : ℕ) → i ≡ j → emit t i ≡ emit walk.0 j
  emitted i j e = ap (λ (u : Tree). emit u i) same.tree ∙ ap (emit walk.0) e

  abbrev packets : List Travelling → List ℕ
  packets ts = quads_in (signals_of ts)

  -- the wire to the end of a node of the set
  wire :
      (a b : End) → Holds set b.node → far v.cabling b ≡ Some a →
      (wire_of v a).signals ≡ (wire_of w a).signals
  wire a b h e = alone.signals a b (comp.closed b a e h) (m.well_formed.cabling.both_ways b a e)

  cable : (a b : End) → Holds set b.node → far v.cabling b ≡ Some a → far w.cabling b ≡ Some a
  cable a b h e = same-far w.cabling v.cabling set alone.ports b h ∙ e

  stands : (x z : NodeState) (p : ℕ) → SameNode x z → StandsAt z p → StandsAt x p
  stands x z p o st = record {
    named = λ j less d.
        sym (ap (λ (ps : List PortView). port_is (λ q. q.named) ps j) o.views)
        ∙ st.named j less (ap (λ (ps : List PortView). leads_down ps j) o.views ∙ d);
    unasked = λ j more.
        sym (ap (λ (ps : List PortView). port_is (λ q. q.asked) ps j) o.views) ∙ st.unasked j more;
  }

  -- what is owed at a port of the set is owed there still
  owes-there :
      (has : List Signal → Bool) (a b : End) (z : PortNode) (p : ℕ) → Holds set b.node →
      far v.cabling b ≡ Some a → slice_get v.nodes b.node ≡ Some z →
      ((x : PortNode) → slice_get w.nodes b.node ≡ Some x →
      Owes has x.state.list.items (emit t (mark w.cabling root t 0 b.node p))
      (signals_of (wire_of w a).signals)) →
      Owes has z.state.list.items (emit walk.0 (mark v.cabling root walk.0 0 b.node p))
      (signals_of (wire_of v a).signals)
  owes-there has a b z p h e at owes g =
      let x = alone.nodes b.node z h at in
      let under : (wire_of v a).signals ≡ (wire_of w a).signals = wire a b h e in
      ap (λ (ts : List Travelling). kept z.state.list.items (packets ts)) under
      ∙ ap (λ (xs : List ℕ). kept xs (packets (wire_of w a).signals)) x.2.list
      ∙ owes x.0 x.1 (sym (ap (λ (ts : List Travelling). has (signals_of ts)) under) ∙ g)
      ∙ emitted (mark w.cabling root t 0 b.node p) (mark v.cabling root walk.0 0 b.node p)
      (same.marks b.node p)

  numbered : IsNumbered v set root walk.0
  numbered = record {
    ids = λ k z h at e.
        let x = alone.nodes k z h at in
        x.2.id ∙ s.numbered.ids k x.0 h x.1 (sym (ap is_ready x.2.phase) ∙ e)
        ∙ ap (λ (n : ℕ). Some n) (same.places k h);
    turns = λ k p z h at g u le st.
        let x = alone.nodes k z h at in
        x.2.list
        ∙ s.numbered.turns k p x.0 h x.1 (sym x.2.granted ∙ g) (sym (ap is_ready x.2.phase) ∙ u)
        (omega (arith, le, x.2.ports)) (stands x.0.state z.state p x.2 st)
        ∙ emitted (mark w.cabling root t 0 k p) (mark v.cabling root walk.0 0 k p) (same.marks k p);
    grants = λ a b z h e at.
        owes-there has_grant a b z 0 h e at
        (λ x at_x. s.numbered.grants a b x h (cable a b h e) at_x);
    dones = λ a b z h e at.
        owes-there has_done a b z (b.port + 1) h e at
        (λ x at_x. s.numbered.dones a b x h (cable a b h e) at_x);
    last = λ k z h at e o.
        let x = alone.nodes k z h at in
        x.2.list ∙ s.numbered.last k x.0 h x.1 (sym (ap is_ready x.2.phase) ∙ e)
        (sym x.2.parent ∙ o)
        ∙ emitted (place_now w root t k + 1) (place_now v root walk.0 k + 1)
        (ap (λ (n : ℕ). n + 1) (same.places k h));
  }

  pub settles-there : IsSettling v set core root t
  settles-there = subst (λ (u : Tree). IsSettling v set core root u) (sym same.tree) (record {
    component = comp;
    is_core = is_core;
    small = s.small;
    inside = s.inside;
    is_root = is_root;
    walk = walk.1;
    all = all;
    numbered = numbered;
  })

-- ---- an act

-- a component in which all identify after it
module _
    (w v : CableWorld) (a : Act) (did : Acted a w v) (l : IsLawful w) (set : ℕ) where
  told-cables : (acting a w v did l.well_formed).told.cabling ≡ w.cabling
  told-cables = elim (acting a w v did l.well_formed).hears [
    | inl same ↦ ap (λ (u : CableWorld). u.cabling) same
    | inr h ↦ ap (λ (u : CableWorld). u.cabling) h.2
  ]

  told-wires :
      (e : End) → (wire_of (acting a w v did l.well_formed).told e).signals
      ≡ (wire_of w e).signals
  told-wires e = elim (acting a w v did l.well_formed).hears [
    | inl same ↦ ap (λ (u : CableWorld). (wire_of u e).signals) same
    | inr h ↦ ap (λ (u : CableWorld). (wire_of u e).signals) h.2
  ]

  told-node :
      (k : ℕ) (z : PortNode) →
      slice_get (acting a w v did l.well_formed).told.nodes k ≡ Some z →
      (x : PortNode) × (slice_get w.nodes k ≡ Some x) × SameNode x.state z.state
  told-node k z at = elim (acting a w v did l.well_formed).hears [
    | inl same ↦ (z, sym (ap (λ (u : CableWorld). slice_get u.nodes k) same) ∙ at, as-it-is z.state)
    | inr h ↦ heard h.0 h.1 (sym (ap (λ (u : CableWorld). slice_get u.nodes k) h.2) ∙ at)
  ]
    where
      as-it-is : (x : NodeState) → SameNode x x
      as-it-is x = record {
        phase = refl;
        parent = refl;
        granted = refl;
        id = refl;
        views = refl;
        ports = refl;
        list = refl;
        attrs = refl;
      }

      told-so : (packet : ConfigPacket) (x : PortNode) →
          SameNode x.state (node_set_config packet x).state
      told-so packet x = record {
        phase = refl;
        parent = refl;
        granted = refl;
        id = refl;
        views = refl;
        ports = refl;
        list = refl;
        attrs = refl;
      }

      heard :
          (to : ℕ) (packet : ConfigPacket) →
          slice_get (change_in_set to (node_set_config packet) 0 w.nodes) k ≡ Some z →
          (x : PortNode) × (slice_get w.nodes k ≡ Some x) × SameNode x.state z.state
      heard to packet e = elim (was to (node_set_config packet) 0 w.nodes k z e) [
        | as_before at_w ↦ (z, at_w, as-it-is z.state)
        | altered x at_w changed ↦
            (x, at_w, subst (λ (y : PortNode). SameNode x.state y.state) changed (told-so packet x))
      ]

  module _
      (there : (k : ℕ) → Holds set k → (z : PortNode)
      × (slice_get (acting a w v did l.well_formed).done.nodes k ≡ Some z))
      (all : AreIdentifying (acting a w v did l.well_formed).done set) where
    abbrev o : Acting w v
    o = acting a w v did l.well_formed

    not-begun : (k : ℕ) (z : PortNode) → Holds set k → slice_get o.done.nodes k ≡ Some z →
        HasBegun z.state → ⊥
    not-begun k z h at b = contrary (all k z h at) (ap hears_packets b.phase)

    told-at :
        (k : ℕ) (z : PortNode) → Holds set k → slice_get o.done.nodes k ≡ Some z →
        slice_get o.told.nodes k ≡ Some z
    told-at k z h at = elim (o.happens.nodes k z at) [
      | inl b ↦ absurd (not-begun k z h at b)
      | inr was ↦ was
    ]

    stayed :
        (e f : End) (z : PortNode) → Holds set e.node → far o.done.cabling e ≡ Some f →
        slice_get o.done.nodes e.node ≡ Some z → Stayed o.told o.done e f z
    stayed e f z h joined at = elim (o.happens.ends e f z joined at) [
      | inl b ↦ absurd (not-begun e.node z h at b.begun)
      | inr s ↦ s
    ]

    far-same : (k p : ℕ) → Holds set k →
        far o.told.cabling (end_at k p) ≡ far o.done.cabling (end_at k p)
    far-same k p h = go (far o.done.cabling (end_at k p)) refl
      where
        unplugged : (f : Option End) → is_some f ≡ false → f ≡ None
        unplugged None e = refl
        unplugged (Some b) e = absurd (true≢false e)

        go :
            (f : Option End) → far o.done.cabling (end_at k p) ≡ f →
            far o.told.cabling (end_at k p) ≡ f
        go (Some b) e = let z = there k h in (stayed (end_at k p) b z.0 h e z.1).cable
        go None e =
            let z = there k h in
            unplugged (far o.told.cabling (end_at k p))
            (sym ((o.happens.before.nodes k z.0 (told-at k z.0 h z.1)).connected p)
            ∙ (o.happens.after.nodes k z.0 z.1).connected p ∙ ap is_some e)

    ports-same : (k : ℕ) → Holds set k → ports_of o.told.cabling k ≡ ports_of o.done.cabling k
    ports-same k h =
        let z = there k h in
        ext_get_or None (ports_of o.told.cabling k) (ports_of o.done.cabling k)
        ((o.happens.before.nodes k z.0 (told-at k z.0 h z.1)).ports
        ∙ sym (o.happens.after.nodes k z.0 z.1).ports) (λ p less. far-same k p h)

    pub leaves-alone : LeavesAlone w (note_changes w o.done) set
    leaves-alone = record {
      ports = λ k h. sym (ap (λ (c : Wiring). ports_of c k) told-cables) ∙ ports-same k h;
      nodes = λ k z h at. told-node k z (told-at k z h at);
      signals = λ e f h joined.
          let z = there e.node h in (stayed e f z.0 h joined z.1).signals ∙ told-wires e;
    }
