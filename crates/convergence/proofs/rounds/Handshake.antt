-- A node in T1 without child in T1 leaves T1 within 2 d turns, or 2 (d + 1) where clocks miss
-- turns: its children see Child after d turns and go on with their next tick, and it sees their Idle
-- d turns later.
use Rattle.std.proofs.Common.{◌≡◌, ◌⊎◌, inl, inr, ℕ, zero, suc, ◌+◌, ◌-◌, ◌≤◌, Bool, true, false, Option, Some, None, is_some, slice_get, refl, sym, ◌∙◌, ap, subst, arith, add-one, true≢false}
use Rattle.std.proofs.lemmas.Bool.{false_from_ne_true}
use Rattle.convergence.proofs.Common.{End, Wiring, far, Holds, end_at, Phase, NodeState, beat, is_idle, is_child, is_port, is_connected, on_beat, PortNode, CableWorld, level_sent, level_shown, leads_down, is_before_tree, is_shaking, after-delay, cable-connected, some-same, no-quiet, quiet-then, after-cabling, HoldSchedule, holds_after, quiet_after, IsChildCable, contrary}
use Rattle.port_state.specs.declared.signal.Phase.TheVariants as phase
use Rattle.convergence.proofs.turns.CalmTurns.{Calmly, heard_by}
use Rattle.convergence.proofs.turns.Flush.{Tells, Shown, flush}
use Rattle.convergence.proofs.rounds.Grown.{Grown, weight_in, child-cable, below-cable, parent-only, grown-after, cable-after, weight-step, weight-after, calm-at}
use Rattle.convergence.proofs.turns.Moves.{all_idle}
use Rattle.port_state.specs.Clock.{misses}
use Rattle.cable_world.proofs.Lemmas.{beat-misses}
use Rattle.convergence.proofs.turns.TwoTurns.{Misses, not-missed}
use Rattle.convergence.specs.Turns.{slack}
use Rattle.convergence.proofs.turns.Weights.{weigh, weight, still-shakes, beat-child-shake-by, beat-parent-shake-by, beat-accepted, beat-goes-on, Busy, some-busy}
use Rattle.convergence.proofs.turns.PhaseFacts.{start-late, not-shake}

shake-two : (f : Phase) → is_shaking f ≡ true → (f ≡ phase.ChildShake) ⊎ (f ≡ phase.ParentShake)
shake-two f h = grind arith

child-out :
    (f : Phase) (b : Bool) → f ≡ phase.ChildShake → b ≡ true → is_child (level_sent f b) ≡ true
child-out f b h c = grind arith

idle-out :
    (f : Phase) (b : Bool) → is_before_tree f ≡ false → is_shaking f ≡ false → b ≡ false →
    is_idle (level_sent f b) ≡ true
idle-out f b l h c = grind arith

not-ident : (f : Phase) → f ≡ phase.SelfIdent → f ≡ phase.ParentShake → ⊥
not-ident f a b = cc

not-contend : (f : Phase) → f ≡ phase.ChildShake → f ≡ phase.Contend → ⊥
not-contend f a b = cc

-- a node of the set in T1
pub record Shakes (w : CableWorld) (k : ℕ) : Type 0 where
  pub node : PortNode
  pub at : slice_get w.nodes k ≡ Some node
  pub shakes : node.state.view.phase ≡ phase.ChildShake

module _ (hs : HoldSchedule) (v : CableWorld) (set : ℕ) (g : Grown v set) (u : ℕ) (in_set : Holds set u) (s : Shakes v u)
    (bottom : (a b : End) → (e : IsChildCable v a b) → a.node ≡ u → e.below.state.view.phase ≡ phase.ChildShake → ⊥) where
  abbrev later : ℕ → CableWorld
  later i = quiet_after hs i v

  -- u is as heavy as now
  abbrev C : ℕ → Type 0
  C i = weight s.node.state ≤ weight_in (slice_get (later i).nodes u)

  was : (i : ℕ) → C (i + 1) → C i
  was i c = omega (arith, c, weight-step hs v set g u in_set i)

  -- so it is in T1
  there : (i : ℕ) → C i → Shakes (later i) u
  there i c = go (slice_get (later i).nodes u) refl
    where
      heavy : weight s.node.state ≡ weigh phase.ChildShake s.node.state.view.parent
      heavy = ap (λ f. weigh f s.node.state.view.parent) s.shakes

      go : (o : Option PortNode) → slice_get (later i).nodes u ≡ o → Shakes (later i) u
      go None e = absurd (omega (arith, c, heavy, ap weight_in e))
      go (Some z) e =
          let same : weight z.state ≡ weigh phase.ChildShake s.node.state.view.parent = omega (arith, c, heavy, ap weight_in e, weight-after hs v set g u in_set i, ap weight_in s.at) in
          record { node = z; at = e; shakes = still-shakes z.state.view.phase z.state.view.parent s.node.state.view.parent same }

  before :
      (i : ℕ) (y : PortNode) (h : Calmly (later i) u y.state) → C i →
      h.node.state.view.phase ≡ phase.ChildShake
  before i y h c =
      let t = there i c in
      ap (λ (z : PortNode). z.state.view.phase) (some-same h.node t.node (sym h.at ∙ t.at)) ∙ t.shakes

  -- ---- one child

  module _ (p : ℕ) (b : End) (e : IsChildCable v (end_at u p) b) where
    cable : (i : ℕ) → IsChildCable (later i) (end_at u p) b
    cable i = cable-after hs v set g (end_at u p) b e i

    tells-child : (i : ℕ) → C i → Tells (later i) (end_at u p) is_child
    tells-child i c z at =
        let t = there i c in
        let k = cable i in
        child-out z.state.view.phase (leads_down z.state.view.ports p)
        (ap (λ (n : PortNode). n.state.view.phase) (some-same z t.node (sym at ∙ t.at)) ∙ t.shakes)
        (ap (λ (n : PortNode). leads_down n.state.view.ports p) (some-same z k.above (sym at ∙ k.above_at)) ∙ k.child)

    shown-child : (i : ℕ) → v.delay ≤ i → C i → Shown (later i) b is_child
    shown-child = flush hs v g.lawful (end_at u p) b e.joined is_child C was tells-child

    -- what the child was a turn before, as the cable tells it
    record Child (i : ℕ) (y : PortNode) : Type 0 where
      calm : Calmly (later i) b.node y.state
      parent : is_port (heard_by (later i) b.node calm.node).view.parent b.port ≡ true
      on : is_connected (heard_by (later i) b.node calm.node).view.ports b.port ≡ true
      late : is_before_tree (heard_by (later i) b.node calm.node).view.phase ≡ false
      meets : (heard_by (later i) b.node calm.node).view.phase ≡ phase.Contend → ⊥

    child-of : (i : ℕ) (y : PortNode) → slice_get (later (i + 1)).nodes b.node ≡ Some y → Child i y
    child-of i y at =
        let h = calm-at hs v set g i b.node y at in
        let k = cable i in
        let gi = grown-after hs v set g i in
        let same : k.below ≡ h.node = some-same k.below h.node (sym k.below_at ∙ h.at) in
        record {
          calm = h;
          parent = ap (λ o. is_port o b.port) h.heard.parent ∙ ap (λ (n : PortNode). is_port n.state.view.parent b.port) (sym same) ∙ k.parent;
          on = h.hears.cables b.port ∙ cable-connected (later i) b (end_at u p) h.node gi.lawful.well_formed (gi.lawful.well_formed.cabling.both_ways (end_at u p) b k.joined) h.at;
          late = ap is_before_tree h.heard.phase ∙ gi.late b.node h.node (gi.closed (end_at u p) b k.joined in_set) h.at;
          meets = λ t. (below-cable (later i) set gi (end_at u p) b k).calm (ap (λ (n : PortNode). n.state.view.phase) same ∙ sym h.heard.phase ∙ t);
        }

    -- the child isn't in T1
    never :
        (i : ℕ) (y : PortNode) → slice_get (later i).nodes b.node ≡ Some y →
        y.state.view.phase ≡ phase.ChildShake → ⊥
    never zero y at t =
        bottom (end_at u p) b e refl
        (ap (λ (n : PortNode). n.state.view.phase) (some-same e.below y (sym e.below_at ∙ ap (λ (w : CableWorld). slice_get w.nodes b.node) (sym (no-quiet hs v)) ∙ at)) ∙ t)
    never (suc i) y at t = go (never i)
      where
        c : Child i y
        c = child-of i y (subst (λ n. slice_get (quiet_after hs n v).nodes b.node ≡ Some y) (sym (add-one i)) at)

        go :
            ((z : PortNode) → slice_get (later i).nodes b.node ≡ Some z →
            z.state.view.phase ≡ phase.ChildShake → ⊥)
            → ⊥
        go none = elim (beat-child-shake-by (beat c.calm.node) (heard_by (later i) b.node c.calm.node) (sym (ap (λ (z : NodeState). z.view.phase) c.calm.is) ∙ t)) [
          | inl f ↦ none c.calm.node c.calm.at (sym c.calm.heard.phase ∙ f)
          | inr f ↦ elim f [
            | inl f ↦ start-late (heard_by (later i) b.node c.calm.node).view.phase f c.late
            | inr f ↦ c.meets f
          ]
        ]

    -- if it is in T2 after d turns, its clock missed the turn
    asks-missed :
        (i : ℕ) → v.delay ≤ i + 1 → C (i + 1) → (y : PortNode) →
        slice_get (later (i + 1)).nodes b.node ≡ Some y →
        y.state.view.phase ≡ phase.ParentShake → (x : PortNode)
        × (slice_get (later i).nodes b.node ≡ Some x) × (x.state.view.phase ≡ phase.ParentShake)
        × (misses x.clock ≡ true)
    asks-missed i d c y at t = elim (beat-parent-shake-by (beat k.calm.node) (heard_by (later i) b.node k.calm.node) (sym (ap (λ (z : NodeState). z.view.phase) k.calm.is) ∙ t)) [
      | inl f ↦ elim (beat-accepted (beat k.calm.node) (heard_by (later i) b.node k.calm.node) b.port f k.parent k.on shown) [
        | inl none ↦ (k.calm.node, k.calm.at, sym k.calm.heard.phase ∙ f, beat-misses k.calm.node none)
        | inr s ↦ absurd (not-ident y.state.view.phase (ap (λ (z : NodeState). z.view.phase) k.calm.is ∙ s) t)
      ]
      | inr f ↦ absurd (elim f [
        | inl f ↦ never i k.calm.node k.calm.at (sym k.calm.heard.phase ∙ f)
        | inr f ↦ k.meets f
      ])
    ]
      where
        k : Child i y
        k = child-of i y at

        shown : is_child (level_shown (heard_by (later i) b.node k.calm.node) b.port) ≡ true
        shown = ap is_child (sym (k.calm.ticks.shown b.port)) ∙ ap (λ (z : NodeState). is_child (level_shown z b.port)) (sym k.calm.is) ∙ shown-child (i + 1) d c y at

    -- then it isn't in T2 either
    gone-on :
        (i : ℕ) → v.delay + slack v ≤ i → C i → (y : PortNode) → slice_get (later i).nodes b.node ≡ Some y →
        y.state.view.phase ≡ phase.ParentShake → ⊥
    gone-on i d c y at t =
        let j : ℕ = i - 1 - slack v in
        let z : j + slack v + 1 ≡ i = omega (arith, d, g.lawful.well_formed.some_delay) in
        let last : C (j + slack v + 1) = subst C (sym z) c in
        let second = asks-missed (j + slack v) (omega (arith, d, z)) last y (ap (λ n. slice_get (later n).nodes b.node) z ∙ at) t in
        not-missed hs v g.lawful j b.node (record { node = second.0; at = second.1; missed = second.3 }) (λ one.
        let x : j + slack v ≡ j + 1 = omega (arith, one) in
        let first = asks-missed j (omega (arith, d, z, one)) (subst C x (was (j + slack v) last)) second.0 (ap (λ n. slice_get (later n).nodes b.node) (sym x) ∙ second.1) second.2 in
        record { node = first.0; at = first.1; missed = first.3 })

    tells-idle : (i : ℕ) → v.delay + slack v ≤ i → C i → Tells (later i) b is_idle
    tells-idle i d c y at =
        let k = cable i in
        let gi = grown-after hs v set g i in
        let back : far (later i).cabling b ≡ Some (end_at u p) = gi.lawful.well_formed.cabling.both_ways (end_at u p) b k.joined in
        idle-out y.state.view.phase (leads_down y.state.view.ports b.port) (gi.late b.node y (gi.closed (end_at u p) b k.joined in_set) at) (false_from_ne_true _ (λ h. elim (shake-two y.state.view.phase h) [ inl f ↦ never i y at f | inr f ↦ gone-on i d c y at f ]))
        (parent-only (later i) set gi b (end_at u p) y back at (ap (λ (n : PortNode). is_port n.state.view.parent b.port) (some-same y k.below (sym at ∙ k.below_at)) ∙ k.parent))

    abbrev D : ℕ → Type 0
    D i = C (v.delay + slack v + i)

    was-then : (i : ℕ) → D (i + 1) → D i
    was-then i c = let z : v.delay + slack v + (i + 1) ≡ v.delay + slack v + i + 1 = omega arith in was (v.delay + slack v + i) (subst C z c)

    -- the holds from there
    abbrev rest : HoldSchedule
    rest = holds_after (v.delay + slack v) hs

    then-tells : (i : ℕ) → D i → Tells (quiet_after rest i (later (v.delay + slack v))) b is_idle
    then-tells i c = subst (λ (w : CableWorld). Tells w b is_idle) (quiet-then hs (v.delay + slack v) i v) (tells-idle (v.delay + slack v + i) (omega arith) c)

    -- d turns later u sees Idle
    shown-idle : (i : ℕ) → v.delay ≤ i → C (v.delay + slack v + i) → Shown (later (v.delay + slack v + i)) (end_at u p) is_idle
    shown-idle i d c =
        let gd = grown-after hs v set g (v.delay + slack v) in
        let k = cable (v.delay + slack v) in
        subst (λ (w : CableWorld). Shown w (end_at u p) is_idle) (sym (quiet-then hs (v.delay + slack v) i v))
        (flush rest (later (v.delay + slack v)) gd.lawful b (end_at u p) (gd.lawful.well_formed.cabling.both_ways (end_at u p) b k.joined) is_idle D was-then then-tells i (omega (arith, d, after-delay hs v g.lawful (v.delay + slack v))) c)

  -- ---- all children

  -- a child port has been one
  child-was :
      (p : ℕ) (b : End) → far v.cabling (end_at u p) ≡ Some b → (i : ℕ) → C i → (z : PortNode) →
      slice_get (later i).nodes u ≡ Some z → leads_down z.state.view.ports p ≡ true →
      leads_down s.node.state.view.ports p ≡ true
  child-was p b e zero c z at d =
      ap (λ (n : PortNode). leads_down n.state.view.ports p) (some-same s.node z (sym s.at ∙ ap (λ (w : CableWorld). slice_get w.nodes u) (sym (no-quiet hs v)) ∙ at)) ∙ d
  child-was p b e (suc i) c z at d = go (child-was p b e i ci)
    where
      ci : C i
      ci = was i (subst C (sym (add-one i)) c)

      h : Calmly (later i) u z.state
      h = calm-at hs v set g i u z (subst (λ n. slice_get (quiet_after hs n v).nodes u ≡ Some z) (sym (add-one i)) at)

      shakes : (heard_by (later i) u h.node).view.phase ≡ phase.ChildShake
      shakes = h.heard.phase ∙ before i z h ci

      on : is_connected (heard_by (later i) u h.node).view.ports p ≡ true
      on = h.hears.cables p ∙ cable-connected (later i) (end_at u p) b h.node (grown-after hs v set g i).lawful.well_formed (ap (λ (c : Wiring). far c (end_at u p)) (after-cabling hs i v) ∙ e) h.at

      go :
          ((n : PortNode) → slice_get (later i).nodes u ≡ Some n →
          leads_down n.state.view.ports p ≡ true → leads_down s.node.state.view.ports p ≡ true)
          → leads_down s.node.state.view.ports p ≡ true
      go before = elim (h.ticks.child p on (sym (ap (λ (n : NodeState). leads_down n.view.ports p) h.is) ∙ d)) [
        | inl k ↦ before h.node h.at (sym (h.heard.child p) ∙ k)
        | inr k ↦ elim k [
          | inl k ↦ absurd (start-late (heard_by (later i) u h.node).view.phase k.0 (ap is_before_tree shakes))
          | inr k ↦ absurd (not-contend (heard_by (later i) u h.node).view.phase shakes k.0)
        ]
      ]

  -- if it is in T1 even so, its clock missed the turn
  still-missed :
      (i : ℕ) → v.delay ≤ i → C (v.delay + slack v + i) → Misses hs v (v.delay + slack v + i - 1) u
  still-missed i d c = go (beat-goes-on (beat h.node) mid (h.heard.phase ∙ before j t.node h cj))
    where
      j : ℕ
      j = v.delay + slack v + i - 1

      z : j + 1 ≡ v.delay + slack v + i
      z = omega (arith, g.lawful.well_formed.some_delay)

      cj : C j
      cj = was j (subst C (sym z) c)

      t : Shakes (later (v.delay + slack v + i)) u
      t = there (v.delay + slack v + i) c

      h : Calmly (later j) u t.node.state
      h = calm-at hs v set g j u t.node (ap (λ n. slice_get (quiet_after hs n v).nodes u) z ∙ t.at)

      mid : NodeState
      mid = heard_by (later j) u h.node

      busy : Busy mid → ⊥
      busy k = there-is (far v.cabling (end_at u k.port)) refl
        where
          gj : Grown (later j) set
          gj = grown-after hs v set g j

          there-is : (o : Option End) → far v.cabling (end_at u k.port) ≡ o → ⊥
          there-is None e = true≢false
              (sym k.on ∙ h.hears.cables k.port ∙ (gj.lawful.well_formed.nodes u h.node h.at).connected k.port ∙ ap (λ (c : Wiring). is_some (far c (end_at u k.port))) (after-cabling hs j v) ∙ ap is_some e)
          there-is (Some b) e =
              let down : leads_down s.node.state.view.ports k.port ≡ true = child-was k.port b e j cj h.node h.at (sym (h.heard.child k.port) ∙ k.child) in
              let shown = shown-idle k.port b (child-cable v set g (end_at u k.port) b s.node e s.at down) i d c t.node t.at in
              contrary shown (ap (λ (n : NodeState). is_idle (level_shown n k.port)) h.is ∙ ap is_idle (h.ticks.shown k.port) ∙ k.busy)

      go :
          (beat h.node ≡ None)
          ⊎ ((all_idle mid ≡ false) ⊎ ((on_beat (beat h.node) mid).state.view.phase ≡ phase.ParentShake)) →
          Misses hs v (v.delay + slack v + i - 1) u
      go (inl none) = record { node = h.node; at = h.at; missed = beat-misses h.node none }
      go (inr (inl a)) = absurd (busy (some-busy mid a))
      go (inr (inr a)) = absurd (not-shake t.node.state.view.phase (ap (λ (n : NodeState). n.view.phase) h.is ∙ a) t.shakes)

  not-still : C (v.delay + slack v + (v.delay + slack v)) → ⊥
  not-still c =
      let j : ℕ = v.delay + slack v + v.delay - 1 in
      let z : v.delay + slack v + (v.delay + slack v) - 1 ≡ j + slack v = omega (arith, g.lawful.well_formed.some_delay) in
      not-missed hs v g.lawful j u (subst (λ n. Misses hs v n u) z (still-missed (v.delay + slack v) (omega arith) c)) (λ one.
      let y : v.delay + slack v + (v.delay + slack v) ≡ v.delay + slack v + v.delay + 1 = omega (arith, one) in
      still-missed v.delay (omega arith) (was (v.delay + slack v + v.delay) (subst C y c)))

  -- so it is lighter
  pub lighter :
      weight_in (slice_get (quiet_after hs (v.delay + slack v + (v.delay + slack v)) v).nodes u) + 1 ≤ weight s.node.state
  lighter = elim (less-or (weight_in (slice_get (later (v.delay + slack v + (v.delay + slack v))).nodes u)) (weight s.node.state)) [
    | inl a ↦ a
    | inr a ↦ absurd (not-still a)
  ]
    where
      less-or : (m n : ℕ) → (m + 1 ≤ n) ⊎ (n ≤ m)
      less-or m n = grind arith
