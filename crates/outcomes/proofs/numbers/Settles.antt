-- A component that identifies itself comes to A0: of each node it is counted whether it was asked,
-- granted, is in A0
-- and was named, and the count rises within each d + slack turns.
use Rattle.std.proofs.Common.{◌≡◌, ◌⊎◌, inl, inr, ℕ, zero, suc, ◌+◌, ◌-◌, ◌*◌, ◌<◌, ◌≤◌, Bool, true, false, not, ◌&&◌, List, length, Option, Some, None, slice_get, refl, sym, ◌∙◌, ap, subst, arith}
use Rattle.std.proofs.lemmas.Option.{slice_get_within}
use Rattle.outcomes.proofs.Common.{Tree, End, Wiring, far, Holds, numbers, Signal, NodeState, PortNode, Travelling, CableWorld, wire_of, ComesOfPowerOn, turn_at, turn, signals_of, IsLawful, cabling-after, node-after, some-same, after-delay, comes-lawful, turn-lawful, port-is, joined-of, IsAcyclic, is_ready, is_asked, is_named, silent, has_grant, has_done, IsIdentifying, parent_of, parent_now, place_now, IsSettling, is_port, contrary, PlacedHold, HoldSchedule, with_holds, quiet_after, end_at}
use Rattle.cable_world.proofs.Lemmas.{holds-signals}
use Rattle.outcomes.specs.Holders.{Holder, grant, done, node, IsHolder, HasTurn, HasOneHolder}
use Rattle.outcomes.specs.Holders as holder
use Rattle.convergence.specs.Turns.{slack, seen_turns}
use Rattle.convergence.proofs.Lemmas.{Misses, some-slack, not-twice}
use Rattle.outcomes.proofs.numbers.AtRest.{there, lawful-then, acyclic-then, identifying-then, next-turn, settles-always}
use Rattle.outcomes.proofs.identify.Holders.{one-holder}
use Rattle.outcomes.proofs.identify.Lines.{no-grant-up, no-done-down}
use Rattle.outcomes.proofs.identify.OneMessage.{wired, end-of, two-parts}
use Rattle.outcomes.proofs.identify.ListsFollow.{IsAbove, one-above, parent-below, child-above}
use Rattle.outcomes.proofs.identify.MarksKept.{hears-late}
use Rattle.outcomes.proofs.identify.Messages.{IsKind, grants, dones, silent-has}
use Rattle.outcomes.proofs.identify.Ports.{child-role}
use Rattle.std.proofs.lemmas.Bool.{eq-eqb, true_from_ne_false, false_from_ne_true}
use Rattle.outcomes.proofs.numbers.NumberedTurn.{stayed}
use Rattle.outcomes.proofs.numbers.Progress.{node-rises, Old, old-of, none-older, moves, turn-used}
use Rattle.outcomes.proofs.numbers.Settling.{Up, up-or-root, climbs}
use Rattle.outcomes.proofs.numbers.Stages.{sum-over, sum-strict, sum-most, of-node, up-end, of-end, stage, stage-most, Gains, gains-more, same-gains, stage-rises, news-before, News, granting, coming, asking, naming, stage-strict}

-- ---- in a world that settles

module _
    (w : CableWorld) (l : IsLawful w) (acyclic : IsAcyclic w) (i : IsIdentifying w)
    (set core root : ℕ) (t : Tree) (s : IsSettling w set core root t) where
  abbrev pub Up-of : ℕ → PortNode → Type 0
  Up-of k x = Up w l acyclic i set root s.component s.inside s.is_root s.all k x

  pub end-of-up :
      (k : ℕ) (x : PortNode) (u : Up-of k x) → slice_get w.nodes k ≡ Some x →
      up-end w k (parent_now w k) ≡ Some u.end
  end-of-up k x u at =
      ap (up-end w k) (ap parent_of at ∙ port-is x.state.view.parent u.port u.above.parent)
      ∙ l.well_formed.cabling.both_ways u.end (end_at k u.port) u.joined

  -- a turn
  after-up :
      (f : NodeState → ℕ → Bool) →
      ((k : ℕ) (x z : PortNode) → Holds set k → slice_get w.nodes k ≡ Some x →
      slice_get (turn w).nodes k ≡ Some z → (q : ℕ) → f x.state q ≡ true → f z.state q ≡ true)
      →
      (k : ℕ) → Holds set k → of-end f w (up-end w k (parent_now w k)) ≡ true →
      of-end f (turn w) (up-end (turn w) k (parent_now (turn w) k)) ≡ true
  after-up f keeps k h e =
      elim (up-or-root w l acyclic i set root s.component s.inside s.is_root s.all k x h at) [
        | inl same ↦
            contrary e (ap (λ o. of-end f w (up-end w k o))
            (ap (parent_now w) same ∙ ap parent_of s.is_root.at ∙ s.is_root.parentless))
        | inr u ↦
            let y : PortNode = (turn_at w u.end.node u.is).node in
            let at_y : slice_get (turn w).nodes u.end.node ≡ Some y =
            node-after w u.end.node u.is l.well_formed.count u.at in
            let before-it : f u.is.state u.end.port ≡ true =
            sym (ap (of-end f w) (end-of-up k x u at) ∙ ap (of-node (λ v. f v u.end.port)) u.at)
            ∙ e in
            let same-parent : parent_now (turn w) k ≡ parent_now w k =
            ap parent_of at_z ∙ (stayed w l i set root t s.component.closed s.walk s.all s.numbered
            k x
            z h at at_z).parent ∙ sym (ap parent_of at) in
            let same-end : up-end (turn w) k (parent_now (turn w) k) ≡ Some u.end =
            ap (up-end (turn w) k) same-parent ∙ wires (parent_now w k) ∙ end-of-up k x u at in
            ap (of-end f (turn w)) same-end ∙ ap (of-node (λ v. f v u.end.port)) at_y
            ∙ keeps u.end.node
            u.is y u.inside_too u.at at_y u.end.port before-it
      ]
    where
      x : PortNode
      x = (there w l acyclic i set core root t s k h).0

      at : slice_get w.nodes k ≡ Some x
      at = (there w l acyclic i set core root t s k h).1

      z : PortNode
      z = (turn_at w k x).node

      at_z : slice_get (turn w).nodes k ≡ Some z
      at_z = node-after w k x l.well_formed.count at

      wires : (o : Option ℕ) → up-end (turn w) k o ≡ up-end w k o
      wires None = refl
      wires (Some p) = ap (λ (d : Wiring). far d (end_at k p)) (cabling-after w)

  pub turn-gains : (k : ℕ) → Holds set k → Gains w (turn w) k
  turn-gains k h =
      let n = there w l acyclic i set core root t s k h in
      let x : PortNode = n.0 in
      let at : slice_get w.nodes k ≡ Some x = n.1 in
      let z : PortNode = (turn_at w k x).node in
      let at_z : slice_get (turn w).nodes k ≡ Some z = node-after w k x l.well_formed.count at in
      record {
        granted = λ e.
            ap (of-node (λ v. v.view.granted)) at_z
            ∙ (node-rises w l i set core root t s k x z h at at_z).granted
            (sym (ap (of-node (λ v. v.view.granted)) at) ∙ e);
        ready = λ e.
            ap (of-node (λ v. is_ready v.view.phase)) at_z
            ∙ (stayed w l i set root t s.component.closed s.walk s.all s.numbered k x z h at
            at_z).ready (sym (ap (of-node (λ v. is_ready v.view.phase)) at) ∙ e);
        asked =
            after-up is_asked (λ k x z h at at_z q e.
            (node-rises w l i set core root t s k x z h at at_z).asked q e) k h;
        named =
            after-up is_named (λ k x z h at at_z q e.
            (node-rises w l i set core root t s k x z h at at_z).named q e) k h;
      }

  -- once the root is in A0 all nodes are
  pub all-ready :
      is_ready s.is_root.node.state.view.phase ≡ true → (k : ℕ) (x : PortNode) → Holds set k →
      slice_get w.nodes k ≡ Some x → is_ready x.state.view.phase ≡ true
  all-ready r k x h at =
      true_from_ne_false _ (λ e. contrary r
      (climbs w l acyclic i set root s.component s.inside s.is_root s.all
      (λ j y. is_ready y.state.view.phase ≡ false) above (acyclic.most - acyclic.rank k) k x
      (omega arith) h at e))
    where
      above :
          (j : ℕ) (y : PortNode) (u : Up-of j y) → Holds set j → slice_get w.nodes j ≡ Some y →
          is_ready y.state.view.phase ≡ false → is_ready u.is.state.view.phase ≡ false
      above j y u h_j at_j e =
          false_from_ne_true _ (λ f.
          contrary (u.above.line.names ((i.nodes u.end.node u.is u.at).all_named f u.end.port
          u.above.child)) e)

-- holds change nothing of it
gains-held :
    (holds : List PlacedHold) (w v : CableWorld) (k : ℕ) → Gains w v k →
    Gains w (with_holds holds v) k
gains-held holds w v k g = record {
  granted = g.granted;
  ready = g.ready;
  asked = g.asked;
  named = g.named;
}

-- ---- turn by turn

both-not : (a g : Bool) → (a && not g) ≡ false → a ≡ true → g ≡ true
both-not a g e f = grind arith

-- a child cable at some time
pub record Link (v : CableWorld) (a b : End) : Type 0 where
  pub joined : far v.cabling a ≡ Some b
  pub above : PortNode
  pub above_at : slice_get v.nodes a.node ≡ Some above
  pub below : PortNode
  pub below_at : slice_get v.nodes b.node ≡ Some below
  pub is : IsAbove v a b above below

link-end :
    (v : CableWorld) → IsLawful v → (a b : End) → (n : Link v a b) → (f : NodeState → ℕ → Bool) →
    of-end f v (up-end v b.node (parent_now v b.node)) ≡ f n.above.state a.port
link-end v l a b n f =
    ap (λ (o : Option ℕ). of-end f v (up-end v b.node o))
    (ap parent_of n.below_at ∙ port-is n.below.state.view.parent b.port n.is.parent)
    ∙ ap (of-end f v) (l.well_formed.cabling.both_ways a b n.joined)
    ∙ ap (of-node (λ x. f x a.port)) n.above_at

module _
    (hs : HoldSchedule) (w : CableWorld) (r : ComesOfPowerOn w) (k : ℕ)
    (late : length w.nodes * w.delay ≤ k)
    (set core root : ℕ) (t : Tree) (s0 : IsSettling (quiet_after hs k w) set core root t) where
  abbrev pub W : ℕ → CableWorld
  W j = quiet_after hs (k + j) w

  pub S : (j : ℕ) → IsSettling (W j) set core root t
  S j = settles-always hs w r k late set core root t s0 j

  pub L : (j : ℕ) → IsLawful (W j)
  L j = lawful-then hs w r k late set core root t j

  pub A : (j : ℕ) → IsAcyclic (W j)
  A j = acyclic-then hs w r k late set core root t j

  pub I : (j : ℕ) → IsIdentifying (W j)
  I j = identifying-then hs w r k late set core root t j

  pub next : (j : ℕ) → with_holds (hs (k + j + 1)) (turn (W j)) ≡ W (suc j)
  next j = next-turn hs w r k late set core root t j

  -- what is under way doesn't change in holds
  pub wire-next : (j : ℕ) (a : End) →
      (wire_of (W (suc j)) a).signals ≡ (wire_of (turn (W j)) a).signals
  wire-next j a =
      ap (λ (v : CableWorld). (wire_of v a).signals) (sym (next j)) ∙ holds-signals (hs (k + j + 1))
      (turn (W j)) a (turn-lawful (W j) (L j))

  pub node-of : (j q : ℕ) → Holds set q → (x : PortNode) × (slice_get (W j).nodes q ≡ Some x)
  node-of j q h = there (W j) (L j) (A j) (I j) set core root t (S j) q h

  pub gains-on : (j m q : ℕ) → Holds set q → Gains (W j) (W (j + m)) q
  gains-on j zero q h =
      let e : j ≡ j + 0 = omega arith in
      subst (λ (n : ℕ). Gains (W j) (W n) q) e (same-gains (W j) q)
  gains-on j (suc m) q h =
      let e : suc (j + m) ≡ j + suc m = omega arith in
      subst (λ (n : ℕ). Gains (W j) (W n) q) e
      (gains-more (W j) (W (j + m)) (W (suc (j + m))) q (gains-on j m q h)
      (subst (λ (v : CableWorld). Gains (W (j + m)) v q) (next (j + m))
      (gains-held (hs (k + (j + m) + 1)) (W (j + m)) (turn (W (j + m))) q
      (turn-gains (W (j + m)) (L (j + m)) (A (j + m)) (I (j + m)) set core root t (S (j + m)) q
      h))))

  pub wires-on : (j m : ℕ) → (W (j + m)).cabling ≡ (W j).cabling
  wires-on j zero = let e : j + 0 ≡ j = omega arith in ap (λ (n : ℕ). (W n).cabling) e
  wires-on j (suc m) =
      let e : j + suc m ≡ suc (j + m) = omega arith in
      ap (λ (n : ℕ). (W n).cabling) e ∙ sym (ap (λ (v : CableWorld). v.cabling) (next (j + m)))
      ∙ cabling-after (W (j + m)) ∙ wires-on j m

  one-parent-on : (j q : ℕ) → Holds set q → parent_now (W (suc j)) q ≡ parent_now (W j) q
  one-parent-on j q h =
      let n = node-of j q h in
      let z : PortNode = (turn_at (W j) q n.0).node in
      let at_z : slice_get (turn (W j)).nodes q ≡ Some z =
      node-after (W j) q n.0 (L j).well_formed.count n.1 in
      sym (ap (λ (v : CableWorld). parent_now v q) (next j)) ∙ ap parent_of at_z
      ∙ (stayed (W j) (L j) (I j) set root t (S j).component.closed (S j).walk (S j).all
      (S j).numbered q n.0 z h n.1 at_z).parent ∙ sym (ap parent_of n.1)

  pub parent-on : (j m q : ℕ) → Holds set q → parent_now (W (j + m)) q ≡ parent_now (W j) q
  parent-on j zero q h = let e : j + 0 ≡ j = omega arith in ap (λ (n : ℕ). parent_now (W n) q) e
  parent-on j (suc m) q h =
      let e : j + suc m ≡ suc (j + m) = omega arith in
      ap (λ (n : ℕ). parent_now (W n) q) e ∙ one-parent-on (j + m) q h ∙ parent-on j m q h

  pub link-by :
      (j : ℕ) (a b : End) → Holds set a.node → far (W j).cabling a ≡ Some b → parent_now (W j)
      b.node ≡ Some b.port → Link (W j) a b
  link-by j a b h e p =
      let n = joined-of (W j) a b (L j).well_formed e in
      let h_b : Holds set b.node = (S j).component.closed a b e h in
      let is : is_port n.other.state.view.parent b.port ≡ true =
      ap (λ (o : Option ℕ). is_port o b.port) (sym (ap parent_of n.other_at) ∙ p)
      ∙ eq-eqb b.port b.port refl in
      record {
        joined = e;
        above = n.near;
        above_at = n.near_at;
        below = n.other;
        below_at = n.other_at;
        is =
            parent-below (W j) (L j) (I j) b a n.other n.near
            ((L j).well_formed.cabling.both_ways a b e) n.other_at n.near_at
            ((S j).all b.node n.other h_b n.other_at) ((S j).all a.node n.near h n.near_at) is;
      }

  pub link-on : (j m : ℕ) (a b : End) → Holds set a.node → Link (W j) a b → Link (W (j + m)) a b
  link-on j m a b h n =
      let h_b : Holds set b.node = (S j).component.closed a b n.joined h in
      link-by (j + m) a b h (ap (λ (d : Wiring). far d a) (wires-on j m) ∙ n.joined)
      (parent-on j m b.node h_b ∙ ap parent_of n.below_at ∙ port-is n.below.state.view.parent b.port
      n.is.parent)

  -- ---- what is under way comes

  travels :
      {one : Signal} {test : Signal → Bool} {has : List Signal → Bool} → IsKind one test has →
      (j : ℕ) (a b : End) → Holds set b.node → far (W j).cabling a ≡ Some b →
      Old test 0 (wire_of (W j) a).signals →
      (n : ℕ) →
      Old test n (wire_of (W (j + n)) a).signals
      ⊎ ((m : ℕ) × (m ≤ n) × (silent (signals_of (wire_of (W (j + m)) a).signals) ≡ true))
  travels {one} {test} {has} kind j a b h e old zero =
      inl (let z : j ≡ j + 0 = omega arith in
      subst (λ (i : ℕ). Old test 0 (wire_of (W i) a).signals) z old)
  travels {one} {test} {has} kind j a b h e old (suc n) = elim (travels kind j a b h e old n) [
    | inr m ↦ inr (m.0, omega (arith, m.1), m.2)
    | inl o ↦
        elim (moves (W (j + n)) (L (j + n)) (I (j + n)) set core root t (S (j + n)) kind a b n h
        (ap (λ (d : Wiring). far d a) (wires-on j n) ∙ e) o) [
          | inl p ↦
              inl (subst (λ (i : ℕ). Old test i (wire_of (W (j + suc n)) a).signals) later
              (subst (Old test (n + 1)) (sym now) p))
          | inr p ↦
              inr (
                suc n,
                omega arith,
                subst (λ (ts : List Travelling). silent (signals_of ts) ≡ true)
                    (sym now) p,
              )
        ]
  ]
    where
      later : n + 1 ≡ suc n
      later = omega arith

      now : (wire_of (W (j + suc n)) a).signals ≡ (wire_of (turn (W (j + n))) a).signals
      now =
          ap (λ (i : ℕ). (wire_of (W i) a).signals)
          (let e : j + suc n ≡ suc (j + n) = omega arith in e) ∙ wire-next (j + n) a

  comes-by :
      {one : Signal} {test : Signal → Bool} {has : List Signal → Bool} → IsKind one test has →
      (j : ℕ) (a b : End) → Holds set b.node → far (W j).cabling a ≡ Some b →
      Old test 0 (wire_of (W j) a).signals →
      (m : ℕ) × (m ≤ w.delay) × (silent (signals_of (wire_of (W (j + m)) a).signals) ≡ true)
  comes-by {one} {test} {has} kind j a b h e old = elim (travels kind j a b h e old w.delay) [
    | inr m ↦ m
    | inl o ↦
        absurd (none-older test ((W (j + w.delay)).delay - 1) w.delay
        (wire_of (W (j + w.delay)) a).signals
        (omega (
          arith,
          after-delay hs w (comes-lawful w r) (k + (j + w.delay)),
          (comes-lawful w r).well_formed.some_delay,
        )) ((L (j + w.delay)).well_formed.ages a) o)
  ]

  -- ---- and so the count rises

  pub record Rising (j : ℕ) : Type 0 where
    pub turns : ℕ
    pub within : turns ≤ seen_turns w
    pub node : ℕ
    pub inside : Holds set node
    pub news : News (W j) (W (j + turns)) node

  by-grant :
      (j : ℕ) (a b : End) → Holds set a.node → Link (W j) a b →
      has_grant (signals_of (wire_of (W j) a).signals) ≡ true → Rising j
  by-grant j a b h n g =
      let h_b : Holds set b.node = (S j).component.closed a b n.joined h in
      let one =
      two-parts (is_asked n.above.state a.port) n.below.state.view.granted
      (sym n.is.line.granting ∙ g) in
      let c = comes-by grants j a b h_b n.joined (old-of grants (wire_of (W j) a).signals g) in
      let n1 = link-on j c.0 a b h n in
      let asked : is_asked n1.above.state a.port ≡ true =
      sym (link-end (W (j + c.0)) (L (j + c.0)) a b n1 is_asked) ∙ (gains-on j c.0 b.node h_b).asked
      (link-end (W j) (L j) a b n is_asked ∙ one.0) in
      let granted : n1.below.state.view.granted ≡ true =
      both-not (is_asked n1.above.state a.port) n1.below.state.view.granted
      (sym n1.is.line.granting ∙ silent-has grants (signals_of (wire_of (W (j + c.0)) a).signals)
      c.2) asked in
      record {
        turns = c.0;
        within = omega (arith, c.1);
        node = b.node;
        inside = h_b;
        news =
            granting (ap (of-node (λ x. x.view.granted)) n.below_at ∙ one.1)
            (ap (of-node (λ x. x.view.granted)) n1.below_at ∙ granted);
      }

  by-done :
      (j : ℕ) (a b : End) → Holds set a.node → Link (W j) a b →
      has_done (signals_of (wire_of (W j) b).signals) ≡ true → Rising j
  by-done j a b h n g =
      let h_b : Holds set b.node = (S j).component.closed a b n.joined h in
      let one =
      two-parts (is_ready n.below.state.view.phase) (is_named n.above.state a.port)
      (sym n.is.line.naming ∙ g) in
      let c =
      comes-by dones j b a h ((L j).well_formed.cabling.both_ways a b n.joined)
      (old-of dones (wire_of (W j) b).signals g) in
      let n1 = link-on j c.0 a b h n in
      let ready : is_ready n1.below.state.view.phase ≡ true =
      sym (ap (of-node (λ x. is_ready x.view.phase)) n1.below_at)
      ∙ (gains-on j c.0 b.node h_b).ready (ap (of-node (λ x. is_ready x.view.phase)) n.below_at
      ∙ one.0) in
      let named : is_named n1.above.state a.port ≡ true =
      both-not (is_ready n1.below.state.view.phase) (is_named n1.above.state a.port)
      (sym n1.is.line.naming ∙ silent-has dones (signals_of (wire_of (W (j + c.0)) b).signals) c.2)
      ready in
      record {
        turns = c.0;
        within = omega (arith, c.1);
        node = b.node;
        inside = h_b;
        news =
            naming (link-end (W j) (L j) a b n is_named ∙ one.1)
            (link-end (W (j + c.0)) (L (j + c.0)) a b n1 is_named ∙ named);
      }

  -- in one turn
  record Risen (j : ℕ) : Type 0 where
    node : ℕ
    inside : Holds set node
    news : News (W j) (W (j + 1)) node

  in-turn : (j q : ℕ) → Holds set q → HasTurn (W j) q → Risen j ⊎ (Misses hs w (k + j) q × HasTurn (W (j + 1)) q)
  in-turn j q h turn-of =
      let x : PortNode = turn-of.is in
      let z : PortNode = (turn_at (W j) q x).node in
      let at_z : slice_get (turn (W j)).nodes q ≡ Some z =
      node-after (W j) q x (L j).well_formed.count turn-of.at in
      let world : with_holds (hs (k + j + 1)) (turn (W j)) ≡ W (j + 1) =
      next j ∙ ap W (let e : suc j ≡ j + 1 = omega arith in e) in
      let at_1 : slice_get (W (j + 1)).nodes q ≡ Some z =
      sym (ap (λ (v : CableWorld). slice_get v.nodes q) world) ∙ at_z in
      let unready : is_ready x.state.view.phase ≡ false = ap is_ready turn-of.identifies in
      elim (turn-used (W j) (L j) (I j) set core root t (S j) (A j) q x z h turn-of.at at_z
      turn-of.granted unready turn-of.awaits_none) [
        | inl m ↦
            inr (
              record { node = x; at = turn-of.at; missed = m.missed },
              record { is = z; at = at_1; identifies = m.identifies; granted = m.granted; awaits_none = m.awaits_none },
            )
        | inr used ↦ inl (elim used [
          | inl done-so ↦
              record {
                node = q;
                inside = h;
                news =
                    coming (ap (of-node (λ v. is_ready v.view.phase)) turn-of.at ∙ unready)
                    (ap (of-node (λ v. is_ready v.view.phase)) at_1 ∙ done-so);
              }
          | inr ask ↦ asks-one x z ask.0 turn-of.at at_1 ask.1 ask.2
        ])
      ]
    where
      asks-one :
          (x z : PortNode) (p : ℕ) → slice_get (W j).nodes q ≡ Some x →
          slice_get (W (j + 1)).nodes q ≡ Some z → is_asked x.state p ≡ false →
          is_asked z.state p ≡ true → Risen j
      asks-one x z p at at_1 before-it now =
          let a : End = end_at q p in
          let child = ((I (j + 1)).nodes q z at_1).asked p now in
          let on =
          (child-role z.state p ((L (j + 1)).well_formed.nodes q z at_1).valid
          (hears-late z.state.view.phase ((S (j + 1)).all q z h at_1)) child).1 in
          let b =
          end-of (far (W (j + 1)).cabling a)
          (sym (((L (j + 1)).well_formed.nodes q z at_1).connected p) ∙ on) in
          let n = joined-of (W (j + 1)) a b.0 (L (j + 1)).well_formed b.1 in
          let h_b : Holds set b.0.node = (S (j + 1)).component.closed a b.0 b.1 h in
          let u =
          child-above (W (j + 1)) (L (j + 1)) (I (j + 1)) a b.0 z n.other b.1 at_1 n.other_at
          ((S (j + 1)).all q z h at_1) ((S (j + 1)).all b.0.node n.other h_b n.other_at) child in
          let n1 : Link (W (j + 1)) a b.0 = record {
            joined = b.1;
            above = z;
            above_at = at_1;
            below = n.other;
            below_at = n.other_at;
            is = u;
          } in
          let n0 : Link (W j) a b.0 =
          link-by j a b.0 h (sym (ap (λ (d : Wiring). far d a) (wires-on j 1)) ∙ b.1)
          (sym (parent-on j 1 b.0.node h_b) ∙ ap parent_of n.other_at
          ∙ port-is n.other.state.view.parent b.0.port u.parent) in
          let same : n0.above ≡ x = some-same n0.above x (sym n0.above_at ∙ at) in
          record {
            node = b.0.node;
            inside = h_b;
            news =
                asking (link-end (W j) (L j) a b.0 n0 is_asked
                ∙ ap (λ (v : PortNode). is_asked v.state p) same ∙ before-it)
                (link-end (W (j + 1)) (L (j + 1)) a b.0 n1 is_asked ∙ now);
          }

  -- or in two, where a clock may miss one
  by-turn : (j q : ℕ) → Holds set q → HasTurn (W j) q → Rising j
  by-turn j q h turn-of = elim (in-turn j q h turn-of) [
    | inl r ↦ record { turns = 1; within = omega (arith, some); node = r.node; inside = r.inside; news = r.news }
    | inr m ↦
        let one : slack w ≡ 1 = some-slack hs w (comes-lawful w r) (k + j) q m.0 in
        elim (in-turn (j + 1) q h m.1) [
          | inl r ↦
              let z : j + 1 + 1 ≡ j + 2 = omega arith in
              record {
                turns = 2;
                within = omega (arith, some, one);
                node = r.node;
                inside = r.inside;
                news = subst (λ i. News (W j) (W i) r.node) z (news-before (W j) (W (j + 1)) (W (j + 1 + 1)) r.node (gains-on j 1 r.node r.inside) r.news);
              }
          | inr n ↦
              let z : k + (j + 1) ≡ k + j + 1 = omega arith in
              absurd (not-twice hs w (comes-lawful w r) (k + j) q m.0 (subst (λ i. Misses hs w i q) z n.0))
        ]
  ]
    where
      some : 1 ≤ w.delay
      some = (comes-lawful w r).well_formed.some_delay

  -- while a node isn't in A0
  pub rises-within :
      (j q : ℕ) (x : PortNode) → Holds set q → slice_get (W j).nodes q ≡ Some x →
      is_ready x.state.view.phase ≡ false → Rising j
  rises-within j q x h at u =
      let o =
      one-holder (W j) (L j) (I j) set (S j).component.closed (S j).all (A j) root (S j).component q
      x h at u in
      by o.holder o.inside o.is
    where
      by : (v : Holder) → Holds set (holder.place v) → IsHolder (W j) v → Rising j
      by (grant a) h is =
          let b = wired grants (W j) (L j) a is in
          let n = joined-of (W j) a b.0 (L j).well_formed b.1 in
          let h_b : Holds set b.0.node = (S j).component.closed a b.0 b.1 h in
          elim (one-above (W j) (L j) (I j) a b.0 n.near n.other b.1 n.near_at n.other_at
          ((S j).all a.node n.near h n.near_at) ((S j).all b.0.node n.other h_b n.other_at)) [
            | inl u ↦
                by-grant j a b.0 h (record {
                  joined = b.1;
                  above = n.near;
                  above_at = n.near_at;
                  below = n.other;
                  below_at = n.other_at;
                  is = u;
                }) is
            | inr u ↦ contrary is (no-grant-up u.line)
          ]
      by (done a) h is =
          let b = wired dones (W j) (L j) a is in
          let n = joined-of (W j) a b.0 (L j).well_formed b.1 in
          let h_b : Holds set b.0.node = (S j).component.closed a b.0 b.1 h in
          elim (one-above (W j) (L j) (I j) a b.0 n.near n.other b.1 n.near_at n.other_at
          ((S j).all a.node n.near h n.near_at) ((S j).all b.0.node n.other h_b n.other_at)) [
            | inr u ↦
                by-done j b.0 a h_b (record {
                  joined = (L j).well_formed.cabling.both_ways a b.0
                      b.1;
                  above =
                      n.other;
                  above_at =
                      n.other_at;
                  below = n.near;
                  below_at = n.near_at;
                  is = u;
                }) is
            | inl u ↦ contrary is (no-done-down u.line)
          ]
      by (node q) h is = by-turn j q h is

  -- ---- until all nodes are in A0

  abbrev order : List ℕ
  order = numbers (quiet_after hs k w).cabling root t

  member : (i q : ℕ) → slice_get (numbers (quiet_after hs k w).cabling root t) i ≡ Some q →
      Holds set q
  member i q e =
      let c =
      s0.walk.marked.covers i (slice_get_within (numbers (quiet_after hs k w).cabling root t) i q
      e) in
      let at : slice_get (numbers (quiet_after hs k w).cabling root t) i ≡ Some c.0 =
      subst (λ (n : ℕ). slice_get (numbers (quiet_after hs k w).cabling root t) n ≡ Some c.0) c.2
      (s0.walk.marked.at c.0 c.1) in
      let same : c.0 ≡ q = some-same c.0 q (sym at ∙ e) in
      subst (Holds set) same c.1

  total-rises :
      (j : ℕ) (p : Rising j) → sum-over (stage (W j)) order + 1 ≤ sum-over (stage (W (j + p.turns)))
      order
  total-rises j p =
      sum-strict (stage (W j)) (stage (W (j + p.turns))) order
      (place_now (quiet_after hs k w) root t p.node) p.node
      (λ i q e. stage-rises (W j) (W (j + p.turns)) q (gains-on j p.turns q (member i q e)))
      (s0.walk.marked.at p.node p.inside)
      (stage-strict (W j) (W (j + p.turns)) p.node (gains-on j p.turns p.node p.inside) p.news)

  -- all nodes are in A0 then
  abbrev pub ReadyAt : ℕ → Type 0
  ReadyAt j =
      (q : ℕ) (x : PortNode) → Holds set q → slice_get (W j).nodes q
      ≡ Some x → is_ready x.state.view.phase ≡ true

  pub readies :
      (n j : ℕ) → 4 * length (numbers (quiet_after hs k w).cabling root t) < sum-over (stage (W j))
      (numbers (quiet_after hs k w).cabling root t) + n →
      (m : ℕ) × (m ≤ n * seen_turns w) × ReadyAt (j + m)
  readies zero j h =
      absurd (omega (
        arith,
        h,
        sum-most (stage (W j)) 4 (numbers (quiet_after hs k w).cabling root t)
            (λ q. stage-most (W j) q),
      ))
  readies (suc n) j h = go (is_ready (S j).is_root.node.state.view.phase) refl (readies n)
    where
      more : suc n * seen_turns w ≡ seen_turns w + n * seen_turns w
      more = grind arith

      go :
          (b : Bool) → is_ready (S j).is_root.node.state.view.phase ≡ b →
          ((i : ℕ) →
          4 * length (numbers (quiet_after hs k w).cabling root t) < sum-over (stage (W i))
          (numbers (quiet_after hs k w).cabling root t) + n →
          (m : ℕ) × (m ≤ n * seen_turns w) × ReadyAt (i + m))
          → (m : ℕ) × (m ≤ suc n * seen_turns w) × ReadyAt (j + m)
      go true e rest =
          let z : j ≡ j + 0 = omega arith in (
            0,
            omega arith,
            subst ReadyAt z
                (all-ready (W j) (L j) (A j) (I j) set core root t (S j) e),
          )
      go false e rest =
          let p = rises-within j root (S j).is_root.node s0.inside (S j).is_root.at e in
          let u = rest (j + p.turns) (omega (arith, h, total-rises j p)) in
          let z : j + p.turns + u.0 ≡ j + (p.turns + u.0) = omega arith in
          (p.turns + u.0, omega (arith, more, p.within, u.1), subst ReadyAt z u.2)

  pub ready-soon :
      (m : ℕ) × (m ≤ (4 * length (numbers (quiet_after hs k w).cabling root t) + 1) * seen_turns w)
      × ReadyAt m
  ready-soon =
      let u =
      readies (4 * length (numbers (quiet_after hs k w).cabling root t) + 1) 0 (omega arith) in
      let z : 0 + u.0 ≡ u.0 = omega arith in
      (u.0, u.1, subst ReadyAt z u.2)
