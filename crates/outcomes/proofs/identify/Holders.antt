-- In a component all of whose nodes are in self identify or A0, and not all in A0, exactly one
-- Grant is under way,
-- or one Done, or one granted node waits for no child. The granted nodes that aren't in A0 form a
-- way down from
-- the root; at its lower end it is.
use Rattle.std.proofs.Common.{◌≡◌, ◌≢◌, ◌⊎◌, inl, inr, ℕ, zero, suc, ◌-◌, ◌<◌, ◌≤◌, Bool, true, false, not, ◌&&◌, List, Option, Some, None, slice_get, length, refl, sym, ◌∙◌, ap, subst, arith, true≢false}
use Rattle.std.proofs.lemmas.Bool.{eq-eqb, cases_eq, cases_lt, false_from_ne_true}
use Rattle.std.proofs.lemmas.Option.{slice_get_within}
use Rattle.outcomes.proofs.Common.{contrary, End, far, Holds, IsClosed, IsComponent, shared, Phase, SelfIdent, Signal, PortView, passes, is_connected, is_port, hears_packets, PortNode, CableWorld, wire_of, signals_of, leads_down, IsLawful, joined-of, in-component, same-port, some-same, IsAcyclic, is_ready, is_asked, is_named, IsMarked, mode, IsIdentifying, end_at}
use Rattle.cabling.proofs.Lemmas.{same_end, one_other}
use Rattle.cable_world.specs.Wire.{Wire}
use Rattle.outcomes.specs.Holders.{Holder, grant, done, node, IsHolder, place, how_many, HasOneHolder}
use Rattle.outcomes.proofs.identify.Ports.{child-role}
use Rattle.outcomes.proofs.identify.MarksKept.{hears-late, one-awaited, waits-none}
use Rattle.outcomes.proofs.identify.Hearing.{parent-connected}
use Rattle.outcomes.proofs.identify.ListsFollow as lists
use Rattle.outcomes.proofs.identify.ListsFollow.{IsAbove}
use Rattle.outcomes.proofs.identify.Messages.{IsKind, grants, dones}
use Rattle.outcomes.proofs.identify.Lines.{no-grant-up, no-done-down}
use Rattle.outcomes.proofs.identify.OneMessage.{few-of, wired, found, end-of, both-false, two-parts}

-- ---- a set of nodes that no cable leaves, all in self identify or A0

module _
    (w : CableWorld) (l : IsLawful w) (i : IsIdentifying w) (set : ℕ)
    (closed : IsClosed w.cabling set)
    (all : (k : ℕ) (x : PortNode) → Holds set k → slice_get w.nodes k ≡ Some x → hears_packets x.state.view.phase ≡ true)
  where
    -- the other end of a cable
    record Other (a : End) : Type 0 where
      end : End
      joined : far w.cabling a ≡ Some end
      is : PortNode
      at : slice_get w.nodes end.node ≡ Some is
      inside : Holds set end.node
      hears : hears_packets is.state.view.phase ≡ true

    abbrev other-of : (a b : End) → Holds set a.node → far w.cabling a ≡ Some b → Other a
    other-of a b h e =
        let n = joined-of w a b l.well_formed e in
        let inside : Holds set b.node = closed a b e h in
        record { end = b; joined = e; is = n.other; at = n.other_at; inside = inside; hears = all b.node n.other inside n.other_at }

    other-at :
        (k p : ℕ) (x : PortNode) → Holds set k → slice_get w.nodes k ≡ Some x →
        is_connected x.state.view.ports p ≡ true → Other (end_at k p)
    other-at k p x h at on =
        let b = end-of (far w.cabling (end_at k p)) (sym ((l.well_formed.nodes k x at).connected p) ∙ on) in
        other-of (end_at k p) b.0 h b.1

    -- a granted node that isn't in A0
    record Active (k : ℕ) : Type 0 where
      is : PortNode
      at : slice_get w.nodes k ≡ Some is
      inside : Holds set k
      granted : is.state.view.granted ≡ true
      unready : is_ready is.state.view.phase ≡ false

    active-hears : (k : ℕ) (a : Active k) → hears_packets a.is.state.view.phase ≡ true
    active-hears k a = all k a.is a.inside a.at

    active-marked : (k : ℕ) (a : Active k) → IsMarked a.is.state
    active-marked k a = i.nodes k a.is a.at

    -- a child that it awaits
    record Child (k : ℕ) (x : PortNode) (p : ℕ) : Type 0 where
      other : Other (end_at k p)
      above : IsAbove w (end_at k p) other.end x other.is

    child-of : (k : ℕ) (a : Active k) (p : ℕ) → is_asked a.is.state p ≡ true → Child k a.is p
    child-of k a p asked =
        let child : leads_down a.is.state.view.ports p ≡ true = (active-marked k a).asked p asked in
        let on = (child-role a.is.state p (l.well_formed.nodes k a.is a.at).valid (hears-late a.is.state.view.phase (active-hears k a)) child).1 in
        let o = other-at k p a.is a.inside a.at on in
        record { other = o; above = lists.child-above w l i (end_at k p) o.end a.is o.is o.joined a.at o.at (active-hears k a) o.hears child }

    -- one that is active too
    record Step (u c : ℕ) : Type 0 where
      from : Active u
      to : Active c
      port : ℕ
      child : Child u from.is port
      is : child.other.end.node ≡ c
      asked : is_asked from.is.state port ≡ true
      unnamed : is_named from.is.state port ≡ false

    rank-falls :
        (c : IsAcyclic w) (u v : ℕ) → (a : End) (b : End) (x y : PortNode) → a.node ≡ u →
        b.node ≡ v →
        far w.cabling a ≡ Some b → slice_get w.nodes a.node ≡ Some x →
        slice_get w.nodes b.node ≡ Some y → IsAbove w a b x y → c.rank v < c.rank u
    rank-falls c u v a b x y ea eb e at_x at_y r =
        omega (arith, c.falls a b (record { joined = e; above = x; above_at = at_x; child = r.child; below = y; below_at = at_y; parent = r.parent }), ap c.rank ea, ap c.rank eb)

    -- ---- up

    -- the parent of a node
    record Above (k : ℕ) (x : PortNode) : Type 0 where
      port : ℕ
      other : Other (end_at k port)
      above : IsAbove w other.end (end_at k port) other.is x

    above-of :
        (k : ℕ) (x : PortNode) → Holds set k → slice_get w.nodes k ≡ Some x →
        (x.state.view.parent ≡ None) ⊎ Above k x
    above-of k x h at = go x.state.view.parent refl
      where
        hears : hears_packets x.state.view.phase ≡ true
        hears = all k x h at

        go : (o : Option ℕ) → x.state.view.parent ≡ o → (o ≡ None) ⊎ Above k x
        go None e = inl refl
        go (Some q) e =
            let p : is_port x.state.view.parent q ≡ true = ap (λ o. is_port o q) e ∙ eq-eqb q q refl in
            let o = other-at k q x h at (parent-connected x.state q (l.well_formed.nodes k x at).valid hears p) in
            inr (record { port = q; other = o; above = lists.parent-below w l i (end_at k q) o.end x o.is o.joined at o.at hears o.hears p })

    -- a node in A0 has no child that isn't
    parent-unready :
        (k : ℕ) (x : PortNode) (a : Above k x) → is_ready x.state.view.phase ≡ false →
        is_named a.other.is.state a.other.end.port ≡ false
    parent-unready k x a u = false_from_ne_true _ (λ e. contrary (a.above.line.names e) u)

    above-unready :
        (k : ℕ) (x : PortNode) (a : Above k x) → is_ready x.state.view.phase ≡ false →
        is_ready a.other.is.state.view.phase ≡ false
    above-unready k x a u = false_from_ne_true _ (λ e. contrary ((i.nodes a.other.end.node a.other.is a.other.at).all_named e a.other.end.port a.above.child) (parent-unready k x a u))

    above-falls :
        (c : IsAcyclic w) (k : ℕ) (x : PortNode) → slice_get w.nodes k ≡ Some x → (a : Above k x) →
        c.rank k < c.rank a.other.end.node
    above-falls c k x at a =
        rank-falls c a.other.end.node k a.other.end (end_at k a.port) a.other.is x refl refl (l.well_formed.cabling.both_ways (end_at k a.port) a.other.end a.other.joined) a.other.at at a.above

    active-or-above :
        (k : ℕ) (x : PortNode) → Holds set k → slice_get w.nodes k ≡ Some x →
        is_ready x.state.view.phase ≡ false → Active k ⊎ Above k x
    active-or-above k x h at u = go x.state.view.granted refl
      where
        go : (b : Bool) → x.state.view.granted ≡ b → Active k ⊎ Above k x
        go true e = inl (record { is = x; at = at; inside = h; granted = e; unready = u })
        go false e = elim (above-of k x h at) [
          | inl none ↦ contrary ((i.nodes k x at).root (all k x h at) none) e
          | inr a ↦ inr a
        ]

    -- above a node that isn't in A0 one is granted
    some-active :
        (c : IsAcyclic w) (n k : ℕ) (x : PortNode) → c.most - c.rank k ≤ n → Holds set k →
        slice_get w.nodes k ≡ Some x → is_ready x.state.view.phase ≡ false → (v : ℕ) × Active v
    some-active c zero k x low h at u = elim (active-or-above k x h at u) [
      | inl a ↦ (k, a)
      | inr a ↦ absurd (omega (arith, low, above-falls c k x at a, c.bounded a.other.end.node))
    ]
    some-active c (suc n) k x low h at u = elim (active-or-above k x h at u) [
      | inl a ↦ (k, a)
      | inr a ↦ some-active c n a.other.end.node a.other.is (omega (arith, low, above-falls c k x at a, c.bounded a.other.end.node)) a.other.inside a.other.at (above-unready k x a u)
    ]

    -- the node above an active one is active
    step-above : (k : ℕ) (v : Active k) (a : Above k v.is) → Step a.other.end.node k
    step-above k v a =
        let asked : is_asked a.other.is.state a.other.end.port ≡ true = a.above.line.grants v.granted in
        record {
          from = record { is = a.other.is; at = a.other.at; inside = a.other.inside; granted = (i.nodes a.other.end.node a.other.is a.other.at).asks a.other.end.port asked; unready = above-unready k v.is a v.unready };
          to = v;
          port = a.other.end.port;
          child = record {
            other = record {
              end = end_at k a.port;
              joined = l.well_formed.cabling.both_ways (end_at k a.port) a.other.end a.other.joined;
              is = v.is;
              at = v.at;
              inside = v.inside;
              hears = active-hears k v;
            };
            above = a.above;
          };
          is = refl;
          asked = asked;
          unnamed = parent-unready k v.is a v.unready;
        }

    -- ---- ways down

    -- so many steps lead from one node to another
    Down : ℕ → ℕ → ℕ → Type 0
    Down zero u v = u ≡ v
    Down (suc n) u v = (c : ℕ) × Step u c × Down n c v

    one-step : (n u v z : ℕ) → Down n u v → Step v z → Down (suc n) u z
    unfolding Down
    one-step zero u v z e s = (z, subst (λ j. Step j z) (sym e) s, refl)
    one-step (suc n) u v z d s = (d.0, d.1, one-step n d.0 v z d.2 s)

    same-end :
        (u p q : ℕ) → p ≡ q → (o : Other (end_at u p))
        (r : Other (end_at u q)) → o.end ≡ r.end
    same-end u p q e o r = one_other (far w.cabling (end_at u p)) o.end r.end o.joined (ap (λ j. far w.cabling (end_at u j)) e ∙ r.joined)

    step-port :
        (u c : ℕ) (x : PortNode) → slice_get w.nodes u ≡ Some x → (s : Step u c) → (p : ℕ) →
        is_asked x.state p ≡ true → is_named x.state p ≡ false → p ≡ s.port
    step-port u c x at s p asked unnamed =
        let same : s.from.is ≡ x = some-same s.from.is x (sym s.from.at ∙ at) in
        one-awaited x.state (i.nodes u x at) p s.port asked unnamed (ap (λ (z : PortNode). is_asked z.state s.port) (sym same) ∙ s.asked) (ap (λ (z : PortNode). is_named z.state s.port) (sym same) ∙ s.unnamed)

    step-one : (u c d : ℕ) → Step u c → Step u d → c ≡ d
    step-one u c d s t =
        let port = step-port u d s.from.is s.from.at t s.port s.asked s.unnamed in
        sym s.is ∙ ap (λ (e : End). e.node) (same-end u s.port t.port port s.child.other t.child.other) ∙ t.is

    one-low :
        (n m r u v : ℕ) → Down n r u → Down m r v → ((c : ℕ) → Step u c → ⊥) →
        ((c : ℕ) → Step v c → ⊥) → u ≡ v
    unfolding Down
    one-low zero zero r u v d e lu lv = sym d ∙ e
    one-low zero (suc m) r u v d e lu lv = absurd (lu e.0 (subst (λ j. Step j e.0) d e.1))
    one-low (suc n) zero r u v d e lu lv = absurd (lv d.0 (subst (λ j. Step j d.0) e d.1))
    one-low (suc n) (suc m) r u v d e lu lv =
        let same : e.0 ≡ d.0 = step-one r e.0 d.0 e.1 d.1 in
        one-low n m d.0 u v d.2 (subst (λ j. Down m j v) same e.2) lu lv

    -- a node with no parent port
    record Topmost (r : ℕ) : Type 0 where
      is : PortNode
      at : slice_get w.nodes r ≡ Some is
      inside : Holds set r
      parentless : is.state.view.parent ≡ None

    -- each active node is below one
    record Hangs (k : ℕ) : Type 0 where
      top : ℕ
      is : Topmost top
      long : ℕ
      way : Down long top k

    hangs : (c : IsAcyclic w) (n k : ℕ) → c.most - c.rank k ≤ n → Active k → Hangs k
    unfolding Down
    hangs c zero k low v = elim (above-of k v.is v.inside v.at) [
      | inl none ↦ record { top = k; is = record { is = v.is; at = v.at; inside = v.inside; parentless = none }; long = 0; way = refl }
      | inr a ↦ absurd (omega (arith, low, above-falls c k v.is v.at a, c.bounded a.other.end.node))
    ]
    hangs c (suc n) k low v = elim (above-of k v.is v.inside v.at) [
      | inl none ↦ record { top = k; is = record { is = v.is; at = v.at; inside = v.inside; parentless = none }; long = 0; way = refl }
      | inr a ↦
          let s = step-above k v a in
          let h = hangs c n a.other.end.node (omega (arith, low, above-falls c k v.is v.at a, c.bounded a.other.end.node)) s.from in
          record { top = h.top; is = h.is; long = suc h.long; way = one-step h.long h.top a.other.end.node k h.way s }
    ]

    -- ---- one root

    Under : ℕ → ℕ → ℕ → Type 0
    Under root zero k = k ≡ root
    Under root (suc n) k = (a : End) × (b : End) × (far w.cabling a ≡ Some b) × (b.node ≡ k) × (y : PortNode) × (slice_get w.nodes b.node ≡ Some y) × (is_port y.state.view.parent b.port ≡ true) × Under root n a.node

    abbrev Hung : ℕ → ℕ → Type 0
    Hung root k = Holds set k × ((n : ℕ) × Under root n k)

    hung-closed :
        (root : ℕ) → Topmost root → (a b : End) → far w.cabling a ≡ Some b → Hung root a.node →
        Hung root b.node
    unfolding Under
    hung-closed root r a b e h = go (lists.one-above w l i a b x o.is e at o.at (all a.node x h.0 at) o.hears)
      where
        x : PortNode
        x = (joined-of w a b l.well_formed e).near

        at : slice_get w.nodes a.node ≡ Some x
        at = (joined-of w a b l.well_formed e).near_at

        o : Other a
        o = record {
          end = b;
          joined = e;
          is = (joined-of w a b l.well_formed e).other;
          at = (joined-of w a b l.well_formed e).other_at;
          inside = closed a b e h.0;
          hears = all b.node (joined-of w a b l.well_formed e).other (closed a b e h.0) (joined-of w a b l.well_formed e).other_at;
        }

        up :
            (n : ℕ) → Under root n a.node → is_port x.state.view.parent a.port ≡ true →
            Hung root b.node
        up zero d p =
            let same : r.is ≡ x = some-same r.is x (sym r.at ∙ ap (slice_get w.nodes) (sym d) ∙ at) in
            contrary p (ap (λ (z : PortNode). is_port z.state.view.parent a.port) (sym same) ∙ ap (λ o. is_port o a.port) r.parentless)
        up (suc n) d p =
            let same : d.4 ≡ x = some-same d.4 x (sym d.5 ∙ ap (slice_get w.nodes) d.3 ∙ at) in
            let port : d.1.port ≡ a.port = same-port x.state.view.parent d.1.port a.port (ap (λ (z : PortNode). is_port z.state.view.parent d.1.port) (sym same) ∙ d.6) p in
            let here : d.1 ≡ a = same_end d.1 a d.3 port in
            let there : d.0 ≡ b = one_other (far w.cabling a) d.0 b (ap (far w.cabling) (sym here) ∙ l.well_formed.cabling.both_ways d.0 d.1 d.2) e in
            (closed a b e h.0, (n, subst (λ (z : End). Under root n z.node) there d.7))

        go : IsAbove w a b x o.is ⊎ IsAbove w b a o.is x → Hung root b.node
        go (inl s) = (o.inside, (suc h.1.0, (a, b, e, refl, o.is, o.at, s.parent, h.1.1)))
        go (inr s) = up h.1.0 h.1.1 s.parent

    one-top :
        (member : ℕ) → IsComponent w.cabling member set → (r s : ℕ) → Topmost r → Topmost s → s ≡ r
    unfolding Under
    one-top member is r s t u = elim (cases_eq s r) [
      | inl same ↦ same
      | inr ne ↦ absurd (in-component w.cabling r set (Hung r) l.well_formed.cabling (shared w.cabling member r set l.well_formed.cabling is t.inside) (omega (arith, slice_get_within w.nodes r t.is t.at, l.well_formed.count)) (t.inside, (0, refl)) (hung-closed r t) s u.inside
          (λ h. not-under ne h.1.0 h.1.1))
    ]
      where
        not-under : s ≢ r → (n : ℕ) → Under r n s → ⊥
        not-under ne zero d = ne d
        not-under ne (suc n) d =
            let same : d.4 ≡ u.is = some-same d.4 u.is (sym d.5 ∙ ap (slice_get w.nodes) d.3 ∙ u.at) in
            contrary d.6 (ap (λ (z : PortNode). is_port z.state.view.parent d.1.port) same ∙ ap (λ o. is_port o d.1.port) u.parentless)

    -- ---- holders

    -- how an active node has one
    Owned : (v : ℕ) → PortNode → Holder → Type 0
    Owned v x (grant e) = (p : ℕ) × (e ≡ end_at v p) × (is_asked x.state p ≡ true) × (is_named x.state p ≡ false) × (c : Child v x p) × (c.other.is.state.view.granted ≡ false)
    Owned v x (done e) = (p : ℕ) × (is_asked x.state p ≡ true) × (is_named x.state p ≡ false) × (c : Child v x p) × (e ≡ c.other.end) × (is_ready c.other.is.state.view.phase ≡ true)
    Owned v x (node k) = (k ≡ v) × ((p : ℕ) → (is_asked x.state p && not (is_named x.state p)) ≡ false)

    record Owner (h : Holder) : Type 0 where
      owner : ℕ
      active : Active owner
      owned : Owned owner active.is h

    self : (h : Phase) → hears_packets h ≡ true → is_ready h ≡ false → h ≡ SelfIdent
    self h a b = grind arith

    -- an active node has one, or an active child
    record Found : Type 0 where
      holder : Holder
      inside : Holds set (place holder)
      is : IsHolder w holder

    goes-on : (k : ℕ) (a : Active k) → Found ⊎ ((v : ℕ) × Step k v)
    goes-on k a = elim (found (λ p. is_asked a.is.state p && not (is_named a.is.state p)) (length a.is.state.view.ports)) [
      | inl none ↦ inl (record {
        holder = node k;
        inside = a.inside;
        is = record {
          is = a.is;
          at = a.at;
          identifies = self a.is.state.view.phase (active-hears k a) a.unready;
          granted = a.granted;
          awaits_none = λ p. elim (cases_lt p (length a.is.state.view.ports)) [
            | inl less ↦ none p less
            | inr more ↦ both-false (is_asked a.is.state p) (is_named a.is.state p) (λ e. past p more e)
          ];
        };
      })
      | inr some ↦
          let b = two-parts (is_asked a.is.state some.0) (is_named a.is.state some.0) some.1 in
          awaits some.0 b.0 b.1 (child-of k a some.0 b.0)
    ]
      where
        past : (p : ℕ) → length a.is.state.view.ports ≤ p → is_asked a.is.state p ≡ true → ⊥
        past p more e = in_range (slice_get a.is.state.view.ports p) refl e
          where
            in_range :
                (o : Option PortView) → slice_get a.is.state.view.ports p ≡ o →
                passes (λ q. q.asked)
                o ≡ true → ⊥
            in_range None f e = true≢false (sym e)
            in_range (Some q) f e = omega (arith, more, slice_get_within a.is.state.view.ports p q f)

        awaits :
            (p : ℕ) → is_asked a.is.state p ≡ true → is_named a.is.state p ≡ false →
            Child k a.is p →
            Found ⊎ ((v : ℕ) × Step k v)
        awaits p asked unnamed c = go c.other.is.state.view.granted (is_ready c.other.is.state.view.phase) refl refl
          where
            go :
                (g r : Bool) → c.other.is.state.view.granted ≡ g →
                is_ready c.other.is.state.view.phase ≡ r → Found ⊎ ((v : ℕ) × Step k v)
            go false r eg er = inl (record { holder = grant (end_at k p); inside = a.inside; is = c.above.line.granting ∙ (rw (asked, eg) refl) })
            go true true eg er = inl (record { holder = done c.other.end; inside = c.other.inside; is = c.above.line.naming ∙ (rw (er, unnamed) refl) })
            go true false eg er = inr (
              c.other.end.node,
              record {
                from = a;
                to = record { is = c.other.is; at = c.other.at; inside = c.other.inside; granted = eg; unready = er };
                port = p;
                child = c;
                is = refl;
                asked = asked;
                unnamed = unnamed;
              },
            )

    step-falls : (c : IsAcyclic w) (u v : ℕ) → Step u v → c.rank v < c.rank u
    step-falls c u v s = rank-falls c u v (end_at u s.port) s.child.other.end s.from.is s.child.other.is refl s.is s.child.other.joined s.from.at s.child.other.at s.child.above

    some-holder : (c : IsAcyclic w) (n k : ℕ) → c.rank k ≤ n → Active k → Found
    some-holder c zero k low a = elim (goes-on k a) [ inl f ↦ f | inr s ↦ absurd (omega (arith, low, step-falls c k s.0 s.1)) ]
    some-holder c (suc n) k low a = elim (goes-on k a) [ inl f ↦ f | inr s ↦ some-holder c n s.0 (omega (arith, low, step-falls c k s.0 s.1)) s.1.to ]

    -- ---- whose it is

    -- a node that awaits a child is active
    abbrev awaits-active :
        (k p : ℕ) (x : PortNode) → Holds set k → slice_get w.nodes k ≡ Some x →
        is_asked x.state p ≡ true → is_named x.state p ≡ false → Active k
    awaits-active k p x h at asked unnamed = record { is = x; at = at; inside = h; granted = (i.nodes k x at).asks p asked; unready = false_from_ne_true _ (λ e. contrary ((i.nodes k x at).all_named e p ((i.nodes k x at).asked p asked)) unnamed) }

    owner-of : (h : Holder) → Holds set (place h) → IsHolder w h → Owner h
    unfolding Owned
    owner-of (node k) inside is = record { owner = k; active = record { is = is.is; at = is.at; inside = inside; granted = is.granted; unready = ap is_ready is.identifies }; owned = (refl, is.awaits_none) }
    owner-of (grant a) inside is =
        let b = wired grants w l a is in
        let o = other-of a b.0 inside b.1 in
        let n = joined-of w a b.0 l.well_formed b.1 in
        elim (lists.one-above w l i a b.0 n.near o.is b.1 n.near_at o.at (all a.node n.near inside n.near_at) o.hears) [
          | inl s ↦
              let both = two-parts (is_asked n.near.state a.port) o.is.state.view.granted (sym s.line.granting ∙ is) in
              let unnamed = false_from_ne_true _ (λ e. contrary (s.line.readies (s.line.names e)) both.1) in
              record {
                owner = a.node;
                active = awaits-active a.node a.port n.near inside n.near_at both.0 unnamed;
                owned = (a.port, refl, both.0, unnamed, record { other = o; above = s }, both.1);
              }
          | inr s ↦ contrary is (no-grant-up s.line)
        ]
    owner-of (done a) inside is =
        let b = wired dones w l a is in
        let o = other-of a b.0 inside b.1 in
        let n = joined-of w a b.0 l.well_formed b.1 in
        elim (lists.one-above w l i a b.0 n.near o.is b.1 n.near_at o.at (all a.node n.near inside n.near_at) o.hears) [
          | inl s ↦ contrary is (no-done-down s.line)
          | inr s ↦
              let both = two-parts (is_ready n.near.state.view.phase) (is_named o.is.state b.0.port) (sym s.line.naming ∙ is) in
              let asked = s.line.grants (s.line.readies both.0) in
              record {
                owner = b.0.node;
                active = awaits-active b.0.node b.0.port o.is o.inside o.at asked both.1;
                owned = (
                  b.0.port,
                  asked,
                  both.1,
                  record {
                    other = record { end = a; joined = l.well_formed.cabling.both_ways a b.0 b.1; is = n.near; at = n.near_at; inside = inside; hears = all a.node n.near inside n.near_at };
                    above = s;
                  },
                  refl,
                  both.0,
                );
              }
        ]

    -- below its owner no node is active
    child-is :
        (v c : ℕ) (a : Active v) (p : ℕ) → is_asked a.is.state p ≡ true →
        is_named a.is.state p ≡ false → (d : Child v a.is p) (s : Step v c) → d.other.is ≡ s.to.is
    child-is v c a p asked unnamed d s =
        let port = step-port v c a.is a.at s p asked unnamed in
        let end = same-end v p s.port port d.other s.child.other in
        some-same d.other.is s.to.is (sym d.other.at ∙ ap (λ (e : End). slice_get w.nodes e.node) end ∙ ap (slice_get w.nodes) s.is ∙ s.to.at)

    low : (h : Holder) (v : ℕ) (a : Active v) → Owned v a.is h → (c : ℕ) → Step v c → ⊥
    unfolding Owned
    low (grant e) v a o c s = contrary s.to.granted (ap (λ (z : PortNode). z.state.view.granted) (sym (child-is v c a o.0 o.2 o.3 o.4 s)) ∙ o.5)
    low (done e) v a o c s = contrary o.5 (ap (λ (z : PortNode). is_ready z.state.view.phase) (child-is v c a o.0 o.1 o.2 o.3 s) ∙ s.to.unready)
    low (node k) v a o c s =
        let same : s.from.is ≡ a.is = some-same s.from.is a.is (sym s.from.at ∙ a.at) in
        waits-none (is_asked a.is.state s.port) (is_named a.is.state s.port) (ap (λ (z : PortNode). is_asked z.state s.port) (sym same) ∙ s.asked) (ap (λ (z : PortNode). is_named z.state s.port) (sym same) ∙ s.unnamed) (o.1 s.port)

    -- an active node has one at most
    child-same :
        (v : ℕ) (x : PortNode) → slice_get w.nodes v ≡ Some x → (p q : ℕ) →
        is_asked x.state p ≡ true → is_named x.state p ≡ false → is_asked x.state q ≡ true →
        is_named x.state q ≡ false → (c : Child v x p) (d : Child v x q) → c.other.end ≡ d.other.end
    child-same v x at p q ap_ np aq nq c d = same-end v p q (one-awaited x.state (i.nodes v x at) p q ap_ np aq nq) c.other d.other

    node-same :
        (v : ℕ) (x : PortNode) (p q : ℕ) (c : Child v x p) (d : Child v x q) →
        c.other.end ≡ d.other.end → c.other.is ≡ d.other.is
    node-same v x p q c d e = some-same c.other.is d.other.is (sym c.other.at ∙ ap (λ (z : End). slice_get w.nodes z.node) e ∙ d.other.at)

    same-holder :
        (h k : Holder) (v : ℕ) (x : PortNode) → slice_get w.nodes v ≡ Some x → Owned v x h →
        Owned v x k → h ≡ k
    unfolding Owned
    same-holder (grant e) (grant f) v x at o q = ap grant (o.1 ∙ ap (λ (p : ℕ). end_at v p) (one-awaited x.state (i.nodes v x at) o.0 q.0 o.2 o.3 q.2 q.3) ∙ sym q.1)
    same-holder (done e) (done f) v x at o q = ap done (o.4 ∙ child-same v x at o.0 q.0 o.1 o.2 q.1 q.2 o.3 q.3 ∙ sym q.4)
    same-holder (node j) (node k) v x at o q = ap node (o.0 ∙ sym q.0)
    same-holder (grant e) (done f) v x at o q =
        let is = node-same v x o.0 q.0 o.4 q.3 (child-same v x at o.0 q.0 o.2 o.3 q.1 q.2 o.4 q.3) in
        contrary (q.3.above.line.readies q.5) (ap (λ (z : PortNode). z.state.view.granted) (sym is) ∙ o.5)
    same-holder (done e) (grant f) v x at o q =
        let is = node-same v x q.0 o.0 q.4 o.3 (child-same v x at q.0 o.0 q.2 q.3 o.1 o.2 q.4 o.3) in
        contrary (o.3.above.line.readies o.5) (ap (λ (z : PortNode). z.state.view.granted) (sym is) ∙ q.5)
    same-holder (grant e) (node k) v x at o q = absurd (waits-none (is_asked x.state o.0) (is_named x.state o.0) o.2 o.3 (q.1 o.0))
    same-holder (node k) (grant e) v x at o q = absurd (waits-none (is_asked x.state q.0) (is_named x.state q.0) q.2 q.3 (o.1 q.0))
    same-holder (done e) (node k) v x at o q = absurd (waits-none (is_asked x.state o.0) (is_named x.state o.0) o.1 o.2 (q.1 o.0))
    same-holder (node k) (done e) v x at o q = absurd (waits-none (is_asked x.state q.0) (is_named x.state q.0) q.1 q.2 (o.1 q.0))

    one-owner :
        (c : IsAcyclic w) (member : ℕ) → IsComponent w.cabling member set → (h k : Holder) →
        Owner h →
        Owner k → h ≡ k
    one-owner c member is h k o q =
        let ho = hangs c (c.most - c.rank o.owner) o.owner (omega arith) o.active in
        let hq = hangs c (c.most - c.rank q.owner) q.owner (omega arith) q.active in
        let top : hq.top ≡ ho.top = one-top member is ho.top hq.top ho.is hq.is in
        let same : q.owner ≡ o.owner = one-low hq.long ho.long ho.top q.owner o.owner (subst (λ r. Down hq.long r q.owner) top hq.way) ho.way (low k q.owner q.active q.owned) (low h o.owner o.active o.owned) in
        let node_same : q.active.is ≡ o.active.is = some-same q.active.is o.active.is (sym q.active.at ∙ ap (slice_get w.nodes) same ∙ o.active.at) in
        same-holder h k o.owner o.active.is o.active.at o.owned (subst (λ (v : ℕ). Owned v o.active.is k) same (subst (λ (x : PortNode). Owned q.owner x k) node_same q.owned))

    pub one-holder :
        (c : IsAcyclic w) (member : ℕ) → IsComponent w.cabling member set → (z : ℕ) (u : PortNode) →
        Holds set z → slice_get w.nodes z ≡ Some u → is_ready u.state.view.phase ≡ false →
        HasOneHolder w set
    one-holder c member is z u inside at unready =
        let v = some-active c (c.most - c.rank z) z u (omega arith) inside at unready in
        let f = some-holder c (c.rank v.0) v.0 (omega arith) v.1 in
        record {
          holder = f.holder;
          inside = f.inside;
          is = f.is;
          only = λ h there here. one-owner c member is h f.holder (owner-of h there here) (owner-of f.holder f.inside f.is);
          one_grant = λ a there. few grants a there;
          one_done = λ a there. few dones a there;
        }
      where
        few :
            {one : Signal} {test : Signal → Bool} {has : List Signal → Bool} →
            IsKind one test has → (a : End) → Holds set a.node →
            how_many test (signals_of (wire_of w a).signals) ≤ 1
        few {one} {test} {has} kind a there = go (far w.cabling a) refl
          where
            go :
                (o : Option End) → far w.cabling a ≡ o →
                how_many test (signals_of (wire_of w a).signals) ≤ 1
            go None e = subst (λ (q : Wire). how_many test (signals_of q.signals) ≤ 1) (sym (l.well_formed.unplugged a e)) (omega arith)
            go (Some b) e =
                let o = other-of a b there e in
                let n = joined-of w a b l.well_formed e in
                few-of kind (mode o.is.state b.port) (signals_of (wire_of w a).signals) ((i.cables b a o.is n.near (l.well_formed.cabling.both_ways a b e) o.at n.near_at).front o.hears)
