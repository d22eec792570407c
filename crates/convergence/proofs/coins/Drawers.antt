-- Late, two nodes of a component that drew coins are the ends of one cable, and no third one drew.
use Rattle.std.proofs.Common.{◌≡◌, ◌≢◌, ◌⊎◌, is_some, inl, inr, ℕ, zero, suc, ◌+◌, ◌<◌, ◌≤◌, Bool, true, false, not, Option, Some, None, slice_get, refl, sym, ◌∙◌, ap, subst, arith, true≢false}
use Rattle.std.specs.Prelude.{IsSome}
use Rattle.std.proofs.lemmas.Bool.{eq-eqb, cases_eq, false_from_ne_true}
use Rattle.std.proofs.lemmas.Option.{slice_get_within, slice_get_cases}
use Rattle.convergence.proofs.Common.{End, far, Holds, IsComponent, end_at, PortView, NodeState, is_port, is_connected, passes, IsValid, FitsPhase, PortNode, CableWorld, wire_of, is_before_tree, signals_of, has_reset, leads_down, IsLawful, child-if, cable-connected, some-same, late-roles, start-before_tree, AreJoined, IsChildCable, ResetsAreOver, IsRoot, IsContested, AreRivals, DrawsAgree, AreMutual, AreUnequal, contrary}
use Rattle.cabling.proofs.Lemmas.{same_end, one_other, shared}
use Rattle.port_state.specs.declared.signal.Phase.TheVariants as phase
use Rattle.port_state.specs.Valid.{HasRoles}
use Rattle.cable_world.specs.Lawful.{FitsCables}
use Rattle.convergence.proofs.turns.Cables.{joined-of}
use Rattle.convergence.specs.Roots.{IsLate}
use Rattle.convergence.specs.Drawers.{HasDrawn, DrewOnCable}
use Rattle.convergence.proofs.sets.Closure.{in-component}
use Rattle.convergence.proofs.loops.Cores.{leads-down, below-late, one-root}
use Rattle.convergence.proofs.coins.DrawsAgree.{won-agree, stand-agree, stand-close, agree-round}
use Rattle.convergence.proofs.turns.Roles.{parent-late, child-late}
use Rattle.convergence.proofs.turns.PortFacts.{same-port}

-- a parent port has a cable
pub parent-connected :
    (x : NodeState) → IsValid x → (p : ℕ) → x.view.parent ≡ Some p →
    is_connected x.view.ports p ≡ true
parent-connected x v p e = elim (slice_get_cases x.view.ports p).1 [
  | inl found ↦ go found.0 found.2
  | inr lacks ↦ absurd (omega (arith, lacks.0, inside, v.bounded.views))
]
  where
    up : is_port x.view.parent p ≡ true
    up = ap (λ o. is_port o p) e ∙ eq-eqb p p refl

    inside : p < x.ports
    inside = v.bounded.parent p e

    roles : HasRoles x.view.parent x.view.ports
    roles = late-roles x v (parent-late x v p up)

    on : (c : Bool) → (c ≡ false → is_port x.view.parent p ≡ false) → c ≡ true
    on true h = refl
    on false h = contrary up (h refl)

    go : (q : PortView) → slice_get x.view.ports p ≡ Some q → is_connected x.view.ports p ≡ true
    go q at = ap (passes (λ r. r.connected)) at ∙ on q.connected (λ f. ((roles p q at).none f).1)

-- this node is the child of a root, and drew
record IsBeaten (w : CableWorld) (k : ℕ) : Type 0 where
  from : End
  to : End
  ends : AreJoined w from to
  child : leads_down ends.near.state.view.ports from.port ≡ true
  root : ends.near.state.view.parent ≡ None
  drew : 1 ≤ ends.other.state.view.draws
  is : to.node ≡ k

record IsPaired (w : CableWorld) (k : ℕ) : Type 0 where
  from : End
  to : End
  mutual_ : AreMutual w from to
  is : from.node ≡ k

-- ---- two rivals, as they stand

module _
    (w : CableWorld) (l : IsLawful w) (c : IsContested w) (a b : End) (m : AreMutual w a b) where
  stand :
      AreRivals w.delay m.ends.near.state m.ends.near.clock a.port (wire_of w a).signals m.ends.other.state m.ends.other.clock b.port (wire_of w b).signals
  stand = (c.cables a b m.ends.near m.ends.other m.ends.joined m.ends.near_at m.ends.other_at).rivals m.here m.there

  pub mutual-agree : DrawsAgree m.ends.near.state m.ends.other.state
  mutual-agree = stand-agree w.delay m.ends.near.state m.ends.near.clock a.port (wire_of w a).signals m.ends.other.state m.ends.other.clock b.port (wire_of w b).signals stand

  pub mutual-close :
      (m.ends.near.state.view.draws ≤ m.ends.other.state.view.draws + 1)
      × (m.ends.other.state.view.draws ≤ m.ends.near.state.view.draws + 1)
  mutual-close = stand-close w.delay m.ends.near.state m.ends.near.clock a.port (wire_of w a).signals m.ends.other.state m.ends.other.clock b.port (wire_of w b).signals (c.nodes a.node m.ends.near m.ends.near_at) (c.nodes b.node m.ends.other m.ends.other_at) stand

-- ---- late

module _ (w : CableWorld) (l : IsLawful w) (c : IsContested w) (over : ResetsAreOver w) where
  back : (a b : End) → far w.cabling a ≡ Some b → far w.cabling b ≡ Some a
  back a b e = l.well_formed.cabling.both_ways a b e

  valid : (k : ℕ) (x : PortNode) → slice_get w.nodes k ≡ Some x → IsValid x.state
  valid k x at = (l.well_formed.nodes k x at).valid

  -- no Reset comes to a late node
  quiet-to :
      (a b : End) (x : PortNode) → far w.cabling a ≡ Some b → slice_get w.nodes a.node ≡ Some x →
      is_before_tree x.state.view.phase ≡ false → has_reset (signals_of (wire_of w b).signals)
      ≡ false
  quiet-to a b x e at late = false_from_ne_true _ (λ s. contrary (start-before_tree x.state.view.phase (over b a x (back a b e) at s)) late)

  drawn-late : (k : ℕ) → (h : HasDrawn w k) → is_before_tree h.node.state.view.phase ≡ false
  drawn-late k h = false_from_ne_true _ (λ e. omega (arith, h.some, (c.nodes k h.node h.at).fresh e))

  -- what a node is that drew
  kind : (k : ℕ) → HasDrawn w k → IsRoot w k ⊎ (IsBeaten w k ⊎ IsPaired w k)
  kind k h = go h.node.state.view.parent refl
    where
      late : is_before_tree h.node.state.view.phase ≡ false
      late = drawn-late k h

      go :
          (o : Option ℕ) → h.node.state.view.parent ≡ o → IsRoot w k ⊎ (IsBeaten w k ⊎ IsPaired w k)
      go None e = inl (record { node = h.node; at = h.at; late = late; parentless = e })
      go (Some p) e = there (far w.cabling a) refl (sym (f.connected p) ∙ parent-connected h.node.state f.valid p e)
        where
          f : FitsCables w k h.node.state
          f = l.well_formed.nodes k h.node h.at

          a : End
          a = end_at k p

          up : is_port h.node.state.view.parent p ≡ true
          up = ap (λ o. is_port o p) e ∙ eq-eqb p p refl

          ends : (b : End) → far w.cabling a ≡ Some b → AreJoined w a b
          ends b n =
              let j : AreJoined w b a = joined-of w b a l.well_formed (back a b n) in
              record { joined = n; near = h.node; near_at = h.at; other = j.near; other_at = j.near_at }

          either :
              (b : End) (n : far w.cabling a ≡ Some b) → IsRoot w k ⊎ (IsBeaten w k ⊎ IsPaired w k)
          either b n = role (is_port y.state.view.parent b.port) refl
            where
              y : PortNode
              y = (ends b n).other

              at_y : slice_get w.nodes b.node ≡ Some y
              at_y = (ends b n).other_at

              late_y : is_before_tree y.state.view.phase ≡ false
              late_y = (c.cables a b h.node y n h.at at_y).later up (quiet-to a b h.node n h.at late) h.some

              role :
                  (i : Bool) → is_port y.state.view.parent b.port ≡ i →
                  IsRoot w k ⊎ (IsBeaten w k ⊎ IsPaired w k)
              role true u = inr (inr (record { from = a; to = b; mutual_ = record { ends = ends b n; here = up; there = u }; is = refl }))
              role false u =
                  let down : leads_down y.state.view.ports b.port ≡ true =
                  child-if y.state.view.parent y.state.view.ports b.port (late-roles y.state (valid b.node y at_y) late_y) (cable-connected w b a y l.well_formed (back a b n) at_y) ∙ ap not u in
                  inr (inl (record {
                    from = b;
                    to = a;
                    ends = record { joined = back a b n; near = y; near_at = at_y; other = h.node; other_at = h.at };
                    child = down;
                    root = ((c.cables b a y h.node (back a b n) at_y h.at).won down h.some).root;
                    drew = h.some;
                    is = refl;
                  }))

          there :
              (o : Option End) → far w.cabling a ≡ o → is_some (far w.cabling a) ≡ true →
              IsRoot w k ⊎ (IsBeaten w k ⊎ IsPaired w k)
          there None n s = contrary s (ap is_some n)
          there (Some b) n s = either b n

  -- ---- what is below a pair

  same-parent :
      (k : ℕ) (x y : PortNode) (p q : ℕ) → slice_get w.nodes k ≡ Some x →
      slice_get w.nodes k ≡ Some y → is_port x.state.view.parent p ≡ true →
      is_port y.state.view.parent q ≡ true → p ≡ q
  same-parent k x y p q at_x at_y up_x up_y =
      same-port y.state.view.parent p q (ap (λ (z : PortNode). is_port z.state.view.parent p) (sym (some-same x y (sym at_x ∙ at_y))) ∙ up_x) up_y

  module _ (a b : End) (m : AreMutual w a b) where
    abbrev Base : ℕ → Type 0
    Base k = (k ≡ a.node) ⊎ (k ≡ b.node)

    abbrev Below : ℕ → ℕ → Type 0
    Below zero k = Base k
    Below (suc n) k = (e : End) × (f : End) × IsChildCable w e f × (f.node ≡ k) × Below n e.node

    -- a member of the pair has its parent port at the other one
    mate :
        (e f : End) (x : PortNode) → far w.cabling e ≡ Some f → slice_get w.nodes e.node ≡ Some x →
        is_port x.state.view.parent e.port ≡ true → Base e.node → Base f.node
    mate e f x n at up (inl i) =
        let port : e.port ≡ a.port = same-parent a.node x m.ends.near e.port a.port (ap (slice_get w.nodes) (sym i) ∙ at) m.ends.near_at up m.here in
        inr (ap (λ (z : End). z.node) (one_other (far w.cabling e) f b n (ap (far w.cabling) (same_end e a i port) ∙ m.ends.joined)))
    mate e f x n at up (inr i) =
        let port : e.port ≡ b.port = same-parent b.node x m.ends.other e.port b.port (ap (slice_get w.nodes) (sym i) ∙ at) m.ends.other_at up m.there in
        inl (ap (λ (z : End). z.node) (one_other (far w.cabling e) f a n (ap (far w.cabling) (same_end e b i port) ∙ back a b m.ends.joined)))

    base-late : (k : ℕ) → Base k → IsLate w k
    base-late k (inl i) = subst (IsLate w) (sym i) (record { node = m.ends.near; at = m.ends.near_at; late = parent-late m.ends.near.state (valid a.node m.ends.near m.ends.near_at) a.port m.here })
    base-late k (inr i) = subst (IsLate w) (sym i) (record { node = m.ends.other; at = m.ends.other_at; late = parent-late m.ends.other.state (valid b.node m.ends.other m.ends.other_at) b.port m.there })

    late-below : (n k : ℕ) → Below n k → IsLate w k
    late-below zero k h = base-late k h
    late-below (suc n) k h = subst (IsLate w) h.3 (below-late w l h.0 h.1 h.2)

    closed :
        (e f : End) → far w.cabling e ≡ Some f → ((n : ℕ) × Below n e.node) → (n : ℕ)
        × Below n f.node
    closed e f n u = go (is_port x.node.state.view.parent e.port) refl
      where
        x : IsLate w e.node
        x = late-below u.0 e.node u.1

        up :
            (i : ℕ) → Below i e.node → is_port x.node.state.view.parent e.port ≡ true → (n : ℕ)
            × Below n f.node
        up zero h p = (zero, mate e f x.node n x.at p h)
        up (suc i) h p =
            let port : h.1.port ≡ e.port = same-parent e.node h.2.below x.node h.1.port e.port (ap (slice_get w.nodes) (sym h.3) ∙ h.2.below_at) x.at h.2.parent p in
            let here : h.1 ≡ e = same_end h.1 e h.3 port in
            let there : h.0 ≡ f = one_other (far w.cabling e) h.0 f (ap (far w.cabling) (sym here) ∙ back h.0 h.1 h.2.joined) n in
            (i, subst (Below i) (ap (λ (z : End). z.node) there) h.4)

        go : (q : Bool) → is_port x.node.state.view.parent e.port ≡ q → (n : ℕ) × Below n f.node
        go true p = up u.0 u.1 p
        go false p = (suc u.0, (e, f, leads-down w l e f n x (quiet-to e f x.node n x.at x.late) p, refl, u.1))

    -- every node of the component is below the pair
    all-below :
        (node set : ℕ) → IsComponent w.cabling node set → Holds set a.node → (k : ℕ) → Holds set k →
        (((n : ℕ) × Below n k) → ⊥) → ⊥
    all-below node set is h =
        in-component w.cabling a.node set (λ k. (n : ℕ) × Below n k) l.well_formed.cabling (shared w.cabling node a.node set l.well_formed.cabling is h)
        (omega (arith, slice_get_within w.nodes a.node m.ends.near m.ends.near_at, l.well_formed.count)) (zero, inl refl) closed

    -- it has no root
    pub pair-no-root :
        (node set r : ℕ) → IsComponent w.cabling node set → Holds set a.node → Holds set r →
        IsRoot w r → ⊥
    pair-no-root node set r is h in_r root = all-below node set is h r in_r (λ u. go u.0 u.1)
      where
        no-parent :
            (k p : ℕ) (x : PortNode) → k ≡ r → slice_get w.nodes k ≡ Some x →
            is_port x.state.view.parent p ≡ true → ⊥
        no-parent k p x i at up =
            contrary up (ap (λ (z : PortNode). is_port z.state.view.parent p) (some-same x root.node (sym at ∙ ap (slice_get w.nodes) i ∙ root.at)) ∙ ap (λ o. is_port o p) root.parentless)

        go : (n : ℕ) → Below n r → ⊥
        go zero (inl i) = no-parent a.node a.port m.ends.near (sym i) m.ends.near_at m.here
        go zero (inr i) = no-parent b.node b.port m.ends.other (sym i) m.ends.other_at m.there
        go (suc n) t = no-parent t.1.node t.1.port t.2.below t.3 t.2.below_at t.2.parent

    -- and no other pair
    pub pair-only :
        (node set : ℕ) (e f : End) → IsComponent w.cabling node set → Holds set a.node →
        Holds set e.node → AreMutual w e f → (Base e.node → ⊥) → ⊥
    pair-only node set e f is h in_e other none = all-below node set is h e.node in_e (λ u. go u.0 u.1)
      where
        go : (n : ℕ) → Below n e.node → ⊥
        go zero t = none t
        go (suc n) t =
            let port : t.1.port ≡ e.port = same-parent e.node t.2.below other.ends.near t.1.port e.port (ap (slice_get w.nodes) (sym t.3) ∙ t.2.below_at) other.ends.near_at t.2.parent other.here in
            let here : t.1 ≡ e = same_end t.1 e t.3 port in
            let there : t.0 ≡ f = one_other (far w.cabling e) t.0 f (ap (far w.cabling) (sym here) ∙ back t.0 t.1 t.2.joined) other.ends.joined in
            let at : slice_get w.nodes f.node ≡ Some t.2.above = ap (λ (z : End). slice_get w.nodes z.node) (sym there) ∙ t.2.above_at in
            let same : t.2.above ≡ other.ends.other = some-same t.2.above other.ends.other (sym at ∙ other.ends.other_at) in
            let down : leads_down other.ends.other.state.view.ports f.port ≡ true = ap (λ (z : PortNode). leads_down z.state.view.ports f.port) (sym same) ∙ ap (λ (z : End). leads_down t.2.above.state.view.ports z.port) (sym there) ∙ t.2.child in
            let v : IsValid other.ends.other.state = valid f.node other.ends.other other.ends.other_at in
            true≢false (sym down ∙ child-if other.ends.other.state.view.parent other.ends.other.state.view.ports f.port (late-roles other.ends.other.state v (parent-late other.ends.other.state v f.port other.there))
            (cable-connected w f e other.ends.other l.well_formed (back e f other.ends.joined) other.ends.other_at) ∙ ap not other.there)

  -- ---- two that drew

  beaten-root : (k : ℕ) → (t : IsBeaten w k) → IsRoot w t.from.node
  beaten-root k t = record { node = t.ends.near; at = t.ends.near_at; late = child-late t.ends.near.state (valid t.from.node t.ends.near t.ends.near_at) t.from.port t.child; parentless = t.root }

  beaten-in :
      (node set k : ℕ) → IsComponent w.cabling node set → Holds set k → (t : IsBeaten w k) →
      Holds set t.from.node
  beaten-in node set k is h t = is.closed t.to t.from (back t.from t.to t.ends.joined) (subst (Holds set) (sym t.is) h)

  paired-in : (set k : ℕ) → Holds set k → (t : IsPaired w k) → Holds set t.from.node
  paired-in set k h t = subst (Holds set) (sym t.is) h

  -- a root and its child that drew
  won-rivals : (j k : ℕ) (t : IsBeaten w k) → t.from.node ≡ j → DrewOnCable w j k
  won-rivals j k t i = record {
    from = t.from;
    to = t.to;
    from_is = i;
    to_is = t.is;
    ends = t.ends;
    agree = won-agree t.ends.near.state t.ends.other.state ((c.cables t.from t.to t.ends.near t.ends.other t.ends.joined t.ends.near_at t.ends.other_at).won t.child t.drew);
  }

  rivals-round : (j k : ℕ) → DrewOnCable w j k → DrewOnCable w k j
  rivals-round j k t = record {
    from = t.to;
    to = t.from;
    from_is = t.to_is;
    to_is = t.from_is;
    ends = record { joined = back t.from t.to t.ends.joined; near = t.ends.other; near_at = t.ends.other_at; other = t.ends.near; other_at = t.ends.near_at };
    agree = agree-round t.ends.near.state t.ends.other.state t.agree;
  }

  mutual-rivals :
      (j k : ℕ) (a b : End) → AreMutual w a b → a.node ≡ j → b.node ≡ k → DrewOnCable w j k
  mutual-rivals j k a b m i o = record {
    from = a;
    to = b;
    from_is = i;
    to_is = o;
    ends = m.ends;
    agree = mutual-agree w l c a b m;
  }

  -- children of roots that drew are one child
  beaten-one :
      (node set j k : ℕ) → IsComponent w.cabling node set → Holds set j → Holds set k →
      IsBeaten w j → IsBeaten w k → j ≡ k
  beaten-one node set j k is in_j in_k t u =
      let same : t.from.node ≡ u.from.node = one-root w l set (λ a b y h. over a b y) node t.from.node u.from.node is (beaten-in node set j is in_j t) (beaten-in node set k is in_k u) (beaten-root j t) (beaten-root k u) in
      let at : slice_get w.nodes u.from.node ≡ Some t.ends.near = ap (slice_get w.nodes) (sym same) ∙ t.ends.near_at in
      let node_same : t.ends.near ≡ u.ends.near = some-same t.ends.near u.ends.near (sym at ∙ u.ends.near_at) in
      let down : leads_down t.ends.near.state.view.ports u.from.port ≡ true = ap (λ (z : PortNode). leads_down z.state.view.ports u.from.port) node_same ∙ u.child in
      let port : t.from.port ≡ u.from.port =
      c.one_rival t.from t.to u.from u.to t.ends.near t.ends.other u.ends.other same t.ends.joined u.ends.joined t.ends.near_at t.ends.other_at u.ends.other_at t.child down t.drew u.drew in
      let to : t.to ≡ u.to = one_other (far w.cabling u.from) t.to u.to (ap (far w.cabling) (sym (same_end t.from u.from same port)) ∙ t.ends.joined) u.ends.joined in
      sym t.is ∙ ap (λ (z : End). z.node) to ∙ u.is

  -- where a pair is, there is no root
  paired-rootless :
      (node set k r : ℕ) → IsComponent w.cabling node set → Holds set k → Holds set r →
      IsPaired w k → IsRoot w r → ⊥
  paired-rootless node set k r is in_k in_r t root = pair-no-root t.from t.to t.mutual_ node set r is (paired-in set k in_k t) in_r root

  -- two nodes of pairs are the two of one
  paired-two :
      (node set j k : ℕ) → IsComponent w.cabling node set → Holds set j → Holds set k → j ≢ k →
      (t : IsPaired w j) → IsPaired w k → t.to.node ≡ k
  paired-two node set j k is in_j in_k ne t u = elim (cases_eq t.to.node k) [
    | inl same ↦ same
    | inr other ↦ absurd (pair-only t.from t.to t.mutual_ node set u.from u.to is (paired-in set j in_j t) (paired-in set k in_k u) u.mutual_ (λ b. elim b [
      | inl i ↦ ne (sym t.is ∙ sym i ∙ u.is)
      | inr i ↦ other (sym i ∙ u.is)
    ]))
  ]

  pub two-rivals :
      (node set j k : ℕ) → IsComponent w.cabling node set → Holds set j → Holds set k → j ≢ k →
      HasDrawn w j → HasDrawn w k → DrewOnCable w j k
  two-rivals node set j k is in_j in_k ne d_j d_k = go (kind j d_j) (kind k d_k)
    where
      go :
          IsRoot w j ⊎ (IsBeaten w j ⊎ IsPaired w j) → IsRoot w k ⊎ (IsBeaten w k ⊎ IsPaired w k) →
          DrewOnCable w j k
      go (inl r) (inl s) = absurd (ne (one-root w l set (λ a b y h. over a b y) node j k is in_j in_k r s))
      go (inl r) (inr (inl t)) = won-rivals j k t (one-root w l set (λ a b y h. over a b y) node t.from.node j is (beaten-in node set k is in_k t) in_j (beaten-root k t) r)
      go (inl r) (inr (inr t)) = absurd (paired-rootless node set k j is in_k in_j t r)
      go (inr (inl t)) (inl s) = rivals-round k j (won-rivals k j t (one-root w l set (λ a b y h. over a b y) node t.from.node k is (beaten-in node set j is in_j t) in_k (beaten-root j t) s))
      go (inr (inl t)) (inr (inl u)) = absurd (ne (beaten-one node set j k is in_j in_k t u))
      go (inr (inl t)) (inr (inr u)) = absurd (paired-rootless node set k t.from.node is in_k (beaten-in node set j is in_j t) u (beaten-root j t))
      go (inr (inr t)) (inl s) = absurd (paired-rootless node set j k is in_j in_k t s)
      go (inr (inr t)) (inr (inl u)) = absurd (paired-rootless node set j u.from.node is in_j (beaten-in node set k is in_k u) t (beaten-root k u))
      go (inr (inr t)) (inr (inr u)) = mutual-rivals j k t.from t.to t.mutual_ t.is (paired-two node set j k is in_j in_k ne t u)

  -- no third node drew
  pub no-third :
      (node set i j k : ℕ) → IsComponent w.cabling node set → Holds set i → Holds set j →
      Holds set k → i ≢ j → i ≢ k → j ≢ k → HasDrawn w i → HasDrawn w j → HasDrawn w k → ⊥
  no-third node set i j k is in_i in_j in_k ij ik jk d_i d_j d_k = go (kind i d_i) (kind j d_j) (kind k d_k)
    where
      rooted : (m n : ℕ) → Holds set m → Holds set n → IsPaired w m → IsRoot w n ⊎ IsBeaten w n → ⊥
      rooted m n in_m in_n t (inl r) = paired-rootless node set m n is in_m in_n t r
      rooted m n in_m in_n t (inr u) = paired-rootless node set m u.from.node is in_m (beaten-in node set n is in_n u) t (beaten-root n u)

      roots : (m n : ℕ) → Holds set m → Holds set n → m ≢ n → IsRoot w m → IsRoot w n → ⊥
      roots m n in_m in_n ne r s = ne (one-root w l set (λ a b y h. over a b y) node m n is in_m in_n r s)

      beaten : (m n : ℕ) → Holds set m → Holds set n → m ≢ n → IsBeaten w m → IsBeaten w n → ⊥
      beaten m n in_m in_n ne r s = ne (beaten-one node set m n is in_m in_n r s)

      go :
          IsRoot w i ⊎ (IsBeaten w i ⊎ IsPaired w i) → IsRoot w j ⊎ (IsBeaten w j ⊎ IsPaired w j) →
          IsRoot w k ⊎ (IsBeaten w k ⊎ IsPaired w k) → ⊥
      go (inr (inr t)) (inr (inr u)) (inr (inr v)) = jk (sym (paired-two node set i j is in_i in_j ij t u) ∙ paired-two node set i k is in_i in_k ik t v)
      go (inr (inr t)) (inl r) z = rooted i j in_i in_j t (inl r)
      go (inr (inr t)) (inr (inl r)) z = rooted i j in_i in_j t (inr r)
      go (inr (inr t)) (inr (inr u)) (inl r) = rooted i k in_i in_k t (inl r)
      go (inr (inr t)) (inr (inr u)) (inr (inl r)) = rooted i k in_i in_k t (inr r)
      go (inl r) (inr (inr t)) z = rooted j i in_j in_i t (inl r)
      go (inr (inl r)) (inr (inr t)) z = rooted j i in_j in_i t (inr r)
      go (inl r) (inl s) z = roots i j in_i in_j ij r s
      go (inr (inl r)) (inr (inl s)) z = beaten i j in_i in_j ij r s
      go (inl r) (inr (inl s)) (inl t) = roots i k in_i in_k ik r t
      go (inl r) (inr (inl s)) (inr (inl t)) = beaten j k in_j in_k jk s t
      go (inl r) (inr (inl s)) (inr (inr t)) = rooted k i in_k in_i t (inl r)
      go (inr (inl r)) (inl s) (inl t) = roots j k in_j in_k jk s t
      go (inr (inl r)) (inl s) (inr (inl t)) = beaten i k in_i in_k ik r t
      go (inr (inl r)) (inl s) (inr (inr t)) = rooted k i in_k in_i t (inr r)

  -- two in T3 are a pair
  contend-parent :
      (k : ℕ) (x : PortNode) → slice_get w.nodes k ≡ Some x → x.state.view.phase ≡ phase.Contend →
      IsRoot w k → ⊥
  contend-parent k x at t r = go x.state.view.parent (subst (λ f. FitsPhase f x.state.view.parent x.state.view.ports) t (valid k x at).fits).1
      (ap (λ (z : PortNode). z.state.view.parent) (some-same x r.node (sym at ∙ r.at)) ∙ r.parentless)
    where
      go : (o : Option ℕ) → IsSome o → o ≡ None → ⊥
      go None some e = absurd cc
      go (Some p) some e = contrary (eq-eqb p p refl) (ap (λ q. is_port q p) e)

  contend-drawn :
      (k : ℕ) (x : PortNode) → slice_get w.nodes k ≡ Some x → x.state.view.phase ≡ phase.Contend →
      HasDrawn w k
  contend-drawn k x at t = record { node = x; at = at; some = (c.nodes k x at).drawn t }

  -- of two in T3 each is the other's parent
  pub unequal-mutual :
      (node set j k : ℕ) → IsComponent w.cabling node set → Holds set j → Holds set k → j ≢ k →
      AreUnequal w j k → (a : End) × (b : End) × (a.node ≡ j) × (b.node ≡ k) × AreMutual w a b
  unequal-mutual node set j k is in_j in_k ne u = go (kind j (contend-drawn j u.near u.near_at u.here)) (kind k (contend-drawn k u.other u.other_at u.there))
    where
      Goal : Type 0
      Goal = (a : End) × (b : End) × (a.node ≡ j) × (b.node ≡ k) × AreMutual w a b

      go :
          IsRoot w j ⊎ (IsBeaten w j ⊎ IsPaired w j) → IsRoot w k ⊎ (IsBeaten w k ⊎ IsPaired w k) →
          Goal
      go (inl r) z = absurd (contend-parent j u.near u.near_at u.here r)
      go (inr (inl t)) (inl r) = absurd (contend-parent k u.other u.other_at u.there r)
      go (inr (inr t)) (inl r) = absurd (contend-parent k u.other u.other_at u.there r)
      go (inr (inl t)) (inr (inl v)) = absurd (ne (beaten-one node set j k is in_j in_k t v))
      go (inr (inl t)) (inr (inr v)) = absurd (paired-rootless node set k t.from.node is in_k (beaten-in node set j is in_j t) v (beaten-root j t))
      go (inr (inr t)) (inr (inl v)) = absurd (paired-rootless node set j v.from.node is in_j (beaten-in node set k is in_k v) t (beaten-root k v))
      go (inr (inr t)) (inr (inr v)) = (t.from, t.to, t.is, paired-two node set j k is in_j in_k ne t v, t.mutual_)
