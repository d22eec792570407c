-- Where resets are over, no node of a loop takes its roles, and a component has one root at most.
use Rattle.std.proofs.Common.{◌≡◌, ◌≢◌, inl, inr, ℕ, zero, suc, Bool, true, false, not, Some, slice_get, refl, sym, ◌∙◌, ap, subst, arith}
use Rattle.std.proofs.lemmas.Bool.{cases_eq, true_from_ne_false, false_from_ne_true}
use Rattle.std.proofs.lemmas.Option.{slice_get_within}
use Rattle.convergence.proofs.Common.{End, far, Holds, IsComponent, HasTwo, IsCore, end_at, is_port, PortNode, CableWorld, wire_of, is_before_tree, signals_of, has_reset, leads_down, IsLawful, child-if, some-at, some-same, cable-connected, late-roles, start-before_tree, AreJoined, IsChildCable, IsAcyclic, IsRoot, contrary}
use Rattle.cabling.specs.NodeSet.{IsWithin}
use Rattle.cabling.specs.Looped.{LeadsInto, IsLooped}
use Rattle.cabling.proofs.Lemmas.{same_end, one_other, shared}
use Rattle.cable_world.specs.Outcome.{AtView}
use Rattle.convergence.proofs.turns.Cables.{joined-of}
use Rattle.convergence.specs.Acyclic.{LeadsDown}
use Rattle.convergence.specs.Milestones.{ResetsAreOverIn}
use Rattle.convergence.specs.Roots.{IsLate}
use Rattle.convergence.proofs.sets.Closure.{in-component}
use Rattle.convergence.proofs.ranks.Ranks.{none-falls-on}
use Rattle.convergence.proofs.turns.Roles.{parent-late}
use Rattle.convergence.proofs.turns.PortFacts.{same-port}

module _ (w : CableWorld) (l : IsLawful w) where
  -- a cable of a late node to which no Reset comes is a child cable, or leads from its parent port
  pub leads-down :
      (a b : End) → far w.cabling a ≡ Some b → (n : IsLate w a.node) →
      has_reset (signals_of (wire_of w b).signals) ≡ false →
      is_port n.node.state.view.parent a.port ≡ false → IsChildCable w a b
  leads-down a b e n no-reset other = record {
    joined = e;
    above = n.node;
    above_at = n.at;
    child = child;
    below = y;
    below_at = at_y;
    parent = ((l.coupled.cables a b n.node y e n.at at_y).child child no-reset).0;
  }
    where
      x : PortNode
      x = n.node

      back : far w.cabling b ≡ Some a
      back = l.well_formed.cabling.both_ways a b e

      y : PortNode
      y = (joined-of w b a l.well_formed back).near

      at_y : slice_get w.nodes b.node ≡ Some y
      at_y = (joined-of w b a l.well_formed back).near_at

      child : leads_down n.node.state.view.ports a.port ≡ true
      child = child-if x.state.view.parent x.state.view.ports a.port (late-roles x.state (l.well_formed.nodes a.node x n.at).valid n.late) (cable-connected w a b x l.well_formed e n.at) ∙ ap not other

  -- the node below a child cable is late
  pub below-late : (a b : End) → IsChildCable w a b → IsLate w b.node
  below-late a b e = record { node = e.below; at = e.below_at; late = parent-late e.below.state (l.well_formed.nodes b.node e.below e.below_at).valid b.port e.parent }

-- in a set of nodes in which resets are over
module _ (w : CableWorld) (l : IsLawful w) (set : ℕ) (over : ResetsAreOverIn w set) where
  -- so it is at each late node
  pub down-in :
      (a b : End) → Holds set a.node → far w.cabling a ≡ Some b → (n : IsLate w a.node) →
      is_port n.node.state.view.parent a.port ≡ false → IsChildCable w a b
  down-in a b h e n other = leads-down w l a b e n (false_from_ne_true _ (λ s. contrary (start-before_tree n.node.state.view.phase (over b a n.node h back n.at s)) n.late)) other
    where
      back : far w.cabling b ≡ Some a
      back = l.well_formed.cabling.both_ways a b e

  -- ---- loops

  -- the late nodes of a looped set
  abbrev LateIn : ℕ → ℕ → Type 0
  LateIn part k = Holds part k × IsLate w k

  on-down :
      (part k : ℕ) → IsWithin part set → IsLooped w.cabling part → LateIn part k →
      LeadsDown w (LateIn part) k
  on-down part k within looped h = go (is_port h.1.node.state.view.parent two.low) refl
    where
      two : HasTwo w.cabling part k
      two = looped k h.0

      by :
          (p : ℕ) → LeadsInto w.cabling part (end_at k p) →
          is_port h.1.node.state.view.parent p ≡ false → LeadsDown w (LateIn part) k
      by p into e =
          let cable : IsChildCable w (end_at k p) into.0 = down-in (end_at k p) into.0 (within k h.0) into.1 h.1 e in
          record { from = end_at k p; to = into.0; cable = cable; is = refl; member = (into.2, below-late w l (end_at k p) into.0 cable) }

      high :
          is_port h.1.node.state.view.parent two.low ≡ true → (b : Bool) →
          is_port h.1.node.state.view.parent two.high ≡ b → b ≡ false
      high f false e = refl
      high f true e = absurd (omega (arith, two.apart, same-port h.1.node.state.view.parent two.low two.high f e))

      go : (b : Bool) → is_port h.1.node.state.view.parent two.low ≡ b → LeadsDown w (LateIn part) k
      go false e = by two.low two.low_leads e
      go true e = by two.high two.high_leads (high e (is_port h.1.node.state.view.parent two.high) refl)

  no-late-in-loop :
      IsAcyclic w → (part : ℕ) → IsWithin part set → IsLooped w.cabling part → (k : ℕ) →
      Holds part k → IsLate w k → ⊥
  no-late-in-loop c part within looped k h n = none-falls-on w c (LateIn part) (λ j. on-down part j within looped) k (h, n)

  -- no core node is late
  pub core-early :
      IsAcyclic w → (core k : ℕ) → IsCore w.cabling set core → Holds core k → IsLate w k → ⊥
  core-early c core k is h n = let p = (is k).0 h in no-late-in-loop c p.0 p.1 p.2 k p.3 n

  -- so each core node is there, in a phase up to T0
  pub core-shows :
      IsAcyclic w → (core k : ℕ) → IsCore w.cabling set core → Holds core k →
      AtView w k (λ v. is_before_tree v.phase ≡ true)
  core-shows c core k is h = some-at (slice_get w.nodes k) x (λ y. is_before_tree y.state.view.phase ≡ true) at (true_from_ne_false _ (λ e. core-early c core k is h (record { node = x; at = at; late = e })))
    where
      p : (part : ℕ) × IsWithin part set × IsLooped w.cabling part × Holds part k
      p = (is k).0 h

      two : HasTwo w.cabling p.0 k
      two = p.2 k p.3

      j : AreJoined w (end_at k two.low) two.low_leads.0
      j = joined-of w (end_at k two.low) two.low_leads.0 l.well_formed two.low_leads.1

      x : PortNode
      x = j.near

      at : slice_get w.nodes k ≡ Some x
      at = j.near_at

  -- ---- roots

  -- so many child cables lead down from a node to another one
  abbrev pub Down : ℕ → ℕ → ℕ → Type 0
  Down root zero k = k ≡ root
  Down root (suc n) k = (a : End) × (b : End) × IsChildCable w a b × (b.node ≡ k) × Down root n a.node

  abbrev pub Under : ℕ → ℕ → Type 0
  Under root k = (n : ℕ) × Down root n k

  late-of : (k : ℕ) → IsRoot w k → IsLate w k
  late-of k r = record { node = r.node; at = r.at; late = r.late }

  under-late : (root : ℕ) → IsRoot w root → (n k : ℕ) → Down root n k → IsLate w k
  under-late root r zero k d = subst (IsLate w) (sym d) (late-of root r)
  under-late root r (suc n) k d = subst (IsLate w) d.3 (below-late w l d.0 d.1 d.2)

  -- a root is under no node
  not-under : (root n k : ℕ) → IsRoot w k → Down root (suc n) k → ⊥
  not-under root n k r d =
      let same : d.2.below ≡ r.node = some-same d.2.below r.node (sym d.2.below_at ∙ ap (slice_get w.nodes) d.3 ∙ r.at) in
      contrary d.2.parent (ap (λ (x : PortNode). is_port x.state.view.parent d.1.port) same ∙ ap (λ o. is_port o d.1.port) r.parentless)

  -- no cable leads out of what is under a root
  under-closed :
      (root : ℕ) → IsRoot w root → (a b : End) → far w.cabling a ≡ Some b → Holds set a.node →
      Under root a.node → Under root b.node
  under-closed root r a b e in_a u = go (is_port x.node.state.view.parent a.port) refl
    where
      x : IsLate w a.node
      x = under-late root r u.0 a.node u.1

      up :
          (n : ℕ) → Down root n a.node → is_port x.node.state.view.parent a.port ≡ true →
          Under root b.node
      up zero d p =
          let at_root : slice_get w.nodes root ≡ Some x.node = ap (slice_get w.nodes) (sym d) ∙ x.at in
          let same : r.node ≡ x.node = some-same r.node x.node (sym r.at ∙ at_root) in
          contrary p (ap (λ (y : PortNode). is_port y.state.view.parent a.port) (sym same) ∙ ap (λ o. is_port o a.port) r.parentless)
      up (suc n) d p =
          let same : d.2.below ≡ x.node = some-same d.2.below x.node (sym d.2.below_at ∙ ap (slice_get w.nodes) d.3 ∙ x.at) in
          let port : d.1.port ≡ a.port = same-port x.node.state.view.parent d.1.port a.port (sym (ap (λ (y : PortNode). is_port y.state.view.parent d.1.port) same) ∙ d.2.parent) p in
          let here : d.1 ≡ a = same_end d.1 a d.3 port in
          let back : far w.cabling a ≡ Some d.0 = ap (far w.cabling) (sym here) ∙ l.well_formed.cabling.both_ways d.0 d.1 d.2.joined in
          let there : d.0 ≡ b = one_other (far w.cabling a) d.0 b back e in
          (n, subst (Down root n) (ap (λ (z : End). z.node) there) d.4)

      go : (q : Bool) → is_port x.node.state.view.parent a.port ≡ q → Under root b.node
      go true p = up u.0 u.1 p
      go false p = (suc u.0, (a, b, down-in a b in_a e x p, refl, u.1))

  -- every node of a root's component is under it
  pub all-under :
      (root : ℕ) → IsRoot w root → IsComponent w.cabling root set → (k : ℕ) → Holds set k →
      (Under root k → ⊥) → ⊥
  all-under root r is k h none =
      in-component w.cabling root set (λ j. Holds set j × Under root j) l.well_formed.cabling is
      (omega (arith, slice_get_within w.nodes root r.node r.at, l.well_formed.count)) (is.holds, (zero, refl)) (λ a b e p. (is.closed a b e p.0, under-closed root r a b e p.0 p.1)) k h (λ p. none p.1)

  -- a component has one root at most
  pub one-root :
      (node a b : ℕ) → IsComponent w.cabling node set → Holds set a → Holds set b → IsRoot w a →
      IsRoot w b → a ≡ b
  one-root node a b is in_a in_b r s = elim (cases_eq b a) [
    | inl same ↦ sym same
    | inr ne ↦ absurd (all-under a r (shared w.cabling node a set l.well_formed.cabling is in_a) b in_b (λ u. go ne u.0 u.1))
  ]
    where
      go : b ≢ a → (n : ℕ) → Down a n b → ⊥
      go ne zero d = ne d
      go ne (suc n) d = not-under a n b s d

  -- where there is one, every node of the component is late
  pub rooted-late :
      (node root : ℕ) → IsComponent w.cabling node set → Holds set root → IsRoot w root →
      (k : ℕ) (x : PortNode) → Holds set k → slice_get w.nodes k ≡ Some x →
      is_before_tree x.state.view.phase ≡ false
  rooted-late node root is in_root r k x h at = go (is_before_tree x.state.view.phase) refl
    where
      go : (b : Bool) → is_before_tree x.state.view.phase ≡ b → b ≡ false
      go false e = refl
      go true e = absurd (all-under root r (shared w.cabling node root set l.well_formed.cabling is in_root) k h (λ u.
          let n : IsLate w k = under-late root r u.0 k u.1 in
          contrary e (ap (λ (y : PortNode). is_before_tree y.state.view.phase) (some-same x n.node (sym at ∙ n.at)) ∙ n.late)))

  -- a component with a loop has none
  pub no-root-with-loop :
      IsAcyclic w → (node core root k : ℕ) → IsComponent w.cabling node set →
      IsCore w.cabling set core → Holds core k → Holds set root → IsRoot w root → ⊥
  no-root-with-loop c node core root k whole is h in_root r =
      let p = (is k).0 h in
      all-under root r (shared w.cabling node root set l.well_formed.cabling whole in_root) k (p.1 k p.3)
      (λ u. core-early c core k is h (under-late root r u.0 k u.1))
