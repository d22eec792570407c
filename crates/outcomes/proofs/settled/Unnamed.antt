-- In a component with a loop no node is granted, so none gets an ID: who is granted was asked by a
-- node above that is granted too, and so on up to a root, which there isn't.
use Rattle.std.proofs.Common.{◌≡◌, inl, inr, ℕ, ◌<◌, ◌≤◌, Bool, true, false, is_some, Option, Some, None, length, slice_get, refl, sym, ◌∙◌, ap, arith, true≢false, eq-eqb}
use Rattle.std.proofs.lemmas.Bool.{cases_lt, false_from_ne_true}
use Rattle.std.proofs.lemmas.Option.{slice_get_cases}
use Rattle.outcomes.proofs.Common.{contrary, End, far, Holds, IsComponent, IsCore, HasTwo, plugged, end_at, shared, hears_packets, is_port, is_connected, PortNode, CableWorld, wire_of, ComesOfPowerOn, signals_of, has_reset, IsLawful, AtView, some-at, comes-lawful, no-packets, quiet-lawful, IsAcyclic, IsChildCable, ResetsAreOver, ResetsAreOverIn, done-after, no-root-with-loop, comes-acyclic, done-over, in-component, joined-of, quiet-acyclic, is_ready, Identifies, IsIdentifying, HoldSchedule, quiet_after}
use Rattle.cable_world.specs.Outcome.{IsLoop}
use Rattle.convergence.specs.Acyclic.{ComesDown}
use Rattle.convergence.specs.Cables.{AreJoined}
use Rattle.convergence.specs.Turns.{turns_to_loops}
use Rattle.convergence.proofs.Lemmas.{reported-reached, none-rises-on}
use Rattle.outcomes.proofs.identify.Hearing.{parent-connected}
use Rattle.outcomes.proofs.identify.MarksKept.{hears-late}
use Rattle.outcomes.proofs.identify.StaysIdentifying.{comes-identifying}
use Rattle.outcomes.proofs.identify.OneMessage.{end-of}
use Rattle.outcomes.proofs.identify.StaysIdentifying.{quiet-identifying}

-- a granted node of a set
pub record GrantedIn (w : CableWorld) (set k : ℕ) : Type 0 where
  inside : Holds set k
  node : PortNode
  at : slice_get w.nodes k ≡ Some node
  granted : node.state.view.granted ≡ true

-- no Reset is under way to a node in self identify
pub no-reset-to :
    (w : CableWorld) (set : ℕ) → ResetsAreOverIn w set → (a b : End) (x : PortNode) →
    Holds set b.node → far w.cabling a ≡ Some b → slice_get w.nodes b.node ≡ Some x →
    hears_packets x.state.view.phase ≡ true →
    has_reset (signals_of (wire_of w a).signals) ≡ false
no-reset-to w set over a b x in_b e at h = false_from_ne_true _ (λ s. no-packets x.state.view.phase (over a b x in_b e at s) h)

-- the cable at the parent port of a node in self identify is a child cable
pub record Above (w : CableWorld) (k : ℕ) (x : PortNode) : Type 0 where
  pub from : End
  pub port : ℕ
  pub cable : IsChildCable w from (end_at k port)
  pub back : far w.cabling (end_at k port) ≡ Some from
  pub is : cable.below ≡ x

module _
    (w : CableWorld) (l : IsLawful w) (i : IsIdentifying w) (set : ℕ)
    (over : ResetsAreOverIn w set) where
  pub above-of :
      (k p : ℕ) (x : PortNode) → Holds set k → slice_get w.nodes k ≡ Some x →
      hears_packets x.state.view.phase ≡ true → x.state.view.parent ≡ Some p → Above w k x
  above-of k p x in_k at h e = record {
    from = a.0;
    port = p;
    cable = record {
      joined = back;
      above = n.other;
      above_at = n.other_at;
      child = (i.greets (end_at k p) a.0 x n.other a.1 at n.other_at).accepted h up (no-reset-to w set over a.0 (end_at k p) x in_k back at h);
      below = x;
      below_at = at;
      parent = up;
    };
    back = a.1;
    is = refl;
  }
    where
      up : is_port x.state.view.parent p ≡ true
      up = ap (λ o. is_port o p) e ∙ eq-eqb p p refl

      on : is_connected x.state.view.ports p ≡ true
      on = parent-connected x.state p (l.well_formed.nodes k x at).valid h up

      a : (b : End) × (far w.cabling (end_at k p) ≡ Some b)
      a = end-of (far w.cabling (end_at k p)) (sym ((l.well_formed.nodes k x at).connected p) ∙ on)

      back : far w.cabling a.0 ≡ Some (end_at k p)
      back = l.well_formed.cabling.both_ways (end_at k p) a.0 a.1

      n : AreJoined w (end_at k p) a.0
      n = joined-of w (end_at k p) a.0 l.well_formed a.1

  -- who is granted below another was asked by it
  granted-above :
      (a b : End) (c : IsChildCable w a b) → c.below.state.view.granted ≡ true →
      c.above.state.view.granted ≡ true
  granted-above a b c g = go (hears_packets c.above.state.view.phase) refl
    where
      both :
          Identifies w.delay c.above.state a.port (wire_of w a).signals c.below.state b.port (wire_of w b).signals
      both = i.cables a b c.above c.below c.joined c.above_at c.below_at

      go :
          (h : Bool) → hears_packets c.above.state.view.phase ≡ h →
          c.above.state.view.granted ≡ true
      go true h = (i.nodes a.node c.above c.above_at).asks a.port ((both.line c.child c.parent h).grants g)
      go false h = contrary g (both.before c.child c.parent h)

  module _
      (acyclic : IsAcyclic w) (node core j : ℕ) (comp : IsComponent w.cabling node set)
      (is_core : IsCore w.cabling set core) (in_core : Holds core j) where
    rises : (k : ℕ) → GrantedIn w set k → ComesDown w (GrantedIn w set) k
    rises k g = go g.node.state.view.parent refl
      where
        hears : hears_packets g.node.state.view.phase ≡ true
        hears = (i.nodes k g.node g.at).granted g.granted

        go : (o : Option ℕ) → g.node.state.view.parent ≡ o → ComesDown w (GrantedIn w set) k
        go None e = absurd (no-root-with-loop w l set over acyclic node core k j comp is_core in_core g.inside (record { node = g.node; at = g.at; late = hears-late g.node.state.view.phase hears; parentless = e }))
        go (Some p) e =
            let u : Above w k g.node = above-of k p g.node g.inside g.at hears e in
            record {
              from = u.from;
              to = end_at k u.port;
              cable = u.cable;
              is = refl;
              member = record {
                inside = comp.closed (end_at k u.port) u.from u.back g.inside;
                node = u.cable.above;
                at = u.cable.above_at;
                granted = granted-above u.from (end_at k u.port) u.cable (ap (λ (x : PortNode). x.state.view.granted) u.is ∙ g.granted);
              };
            }

    none-granted :
        (k : ℕ) (x : PortNode) → Holds set k → slice_get w.nodes k ≡ Some x →
        x.state.view.granted ≡ false
    none-granted k x h at = false_from_ne_true _ (λ e. none-rises-on w acyclic (GrantedIn w set) rises k (record { inside = h; node = x; at = at; granted = e }))

    pub none-named :
        (k : ℕ) (x : PortNode) → Holds set k → slice_get w.nodes k ≡ Some x →
        x.state.view.id ≡ None
    none-named k x h at = unnamed x.state.view.id ((i.nodes k x at).id ∙ unready)
      where
        unready : is_ready x.state.view.phase ≡ false
        unready = false_from_ne_true _ (λ e. contrary ((i.nodes k x at).ready e) (none-granted k x h at))

        unnamed : (o : Option ℕ) → is_some o ≡ false → o ≡ None
        unnamed None e = refl
        unnamed (Some n) e = absurd (true≢false e)

    -- a node of the loop is there, and so is every node of the component
    core-there : j < length w.cabling
    core-there =
        let part = (is_core j).0 in_core in
        let two : HasTwo w.cabling part.0 j = part.2 j part.3 in
        (plugged w.cabling (end_at j two.low) two.low_leads.0 two.low_leads.1).node

    in-set : Holds set j
    in-set = let part = (is_core j).0 in_core in part.1 j part.3

    there : (k : ℕ) → Holds set k → k < length w.cabling
    there k h = elim (cases_lt k (length w.cabling)) [
      | inl less ↦ less
      | inr more ↦ absurd (in-component w.cabling j set (λ n. n < length w.cabling) l.well_formed.cabling (shared w.cabling node j set l.well_formed.cabling comp in-set) core-there core-there
          (λ a b e n. (plugged w.cabling b a (l.well_formed.cabling.both_ways a b e)).node) k h (λ less. omega (arith, less, more)))
    ]

    pub shows-unnamed : (k : ℕ) → Holds set k → AtView w k (λ v. v.id ≡ None)
    shows-unnamed k h = elim (slice_get_cases w.nodes k).1 [
      | inl found ↦ some-at (slice_get w.nodes k) found.0 (λ (x : PortNode). x.state.view.id ≡ None) found.2 (none-named k found.0 h found.2)
      | inr lacks ↦ absurd (omega (arith, lacks.0, there k h, l.well_formed.count))
    ]

-- ---- after turns

pub loop-outcome :
    (hs : HoldSchedule) (w : CableWorld) (k node set core j : ℕ) → ComesOfPowerOn w →
    turns_to_loops w ≤ k →
    IsComponent (quiet_after hs k w).cabling node set →
    IsCore (quiet_after hs k w).cabling set core →
    Holds core j → IsLoop (quiet_after hs k w) set core
loop-outcome hs w k node set core j r late comp is_core in_core = record {
  is_core = is_core;
  node = j;
  in_core = in_core;
  timed_out = λ n h. reported-reached hs w k r late set core n is_core h;
  unnamed = shows-unnamed v v-lawful v-identifies set (λ a b y h. over a b y) v-acyclic node core j comp is_core in_core;
}
  where
    v : CableWorld
    v = quiet_after hs k w

    lawful : IsLawful w
    lawful = comes-lawful w r

    v-lawful : IsLawful v
    v-lawful = quiet-lawful hs k w lawful

    v-acyclic : IsAcyclic v
    v-acyclic = quiet-acyclic hs k w lawful (comes-acyclic w r)

    v-identifies : IsIdentifying v
    v-identifies = quiet-identifying hs k w lawful (comes-identifying w r)

    over : ResetsAreOver v
    over = done-over v v-lawful (done-after hs w k lawful (omega (arith, late)))
