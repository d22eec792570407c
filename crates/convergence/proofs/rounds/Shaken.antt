-- The nodes in T1 of a set die out: what all weigh falls within each 2 d turns, or 2 (d + 1) where clocks
-- miss turns, while one is in T1.
use Rattle.std.proofs.Common.{◌≡◌, ◌⊎◌, inl, inr, ℕ, zero, suc, ◌+◌, ◌*◌, ◌≤◌, Bool, true, false, not, ◌&&◌, ◌==◌, cond, length, Option, Some, None, is_some, slice_get, refl, sym, ◌∙◌, ap, subst, arith, true≢false}
use Rattle.convergence.proofs.turns.PhaseFacts.{start-late}
use Rattle.std.specs.Prelude.{IsSome}
use Rattle.std.specs.Int.{bit_at}
use Rattle.std.proofs.lemmas.Bool.{eqb-true, eq-eqb, and_from, and_parts, not-false}
use Rattle.std.proofs.lemmas.Option.{slice_get_within}
use Rattle.convergence.proofs.Common.{End, far, Holds, end_at, Phase, NodeState, beat, hears_packets, is_port, on_beat, FitsPhase, IsValid, PortNode, CableWorld, turn, is_before_tree, is_shaking, leads_down, after-delay, after-length, child-if, cable-connected, some-same, late-roles, no-quiet, quiet-then, HoldSchedule, holds_after, quiet_after, IsChildCable, AreMutual, IsRoot, AreIdentifying, contrary}
use Rattle.port_state.specs.declared.signal.Phase.TheVariants as phase
use Rattle.convergence.proofs.turns.Cables.{joined-of}
use Rattle.convergence.proofs.turns.CalmTurns.{Calmly, heard_by}
use Rattle.convergence.proofs.coins.Drawers.{parent-connected}
use Rattle.convergence.proofs.sets.Gathered.{count, count-some, count-found}
use Rattle.cable_world.proofs.Lemmas.{beat-misses}
use Rattle.convergence.proofs.turns.TwoTurns.{Misses, not-twice, some-slack, slack-most, slack-later}
use Rattle.std.proofs.lemmas.Nat.{mul-le}
use Rattle.convergence.specs.Turns.{slack}
use Rattle.convergence.proofs.rounds.Grown.{Grown, weight_in, child-cable, below-cable, valid-at, calm-turn, calm-at, grown-after, weight-after}
use Rattle.convergence.proofs.rounds.Handshake.{Shakes, lighter}
use Rattle.convergence.proofs.ranks.Ranks.{has-bottom}
use Rattle.convergence.proofs.turns.Roles.{parent-was}
use Rattle.convergence.proofs.turns.Weights.{is_child_shake, is-child-shake, weigh-most, total, total-most, total-less, beat-identifying, beat-root}

-- ---- a search in a set

abbrev in_node : (PortNode → Bool) → Option PortNode → Bool
in_node test None = false
in_node test (Some x) = test x

abbrev picks : ℕ → (PortNode → Bool) → CableWorld → ℕ → Bool
picks set test w k = (bit_at set k == 1) && in_node test (slice_get w.nodes k)

-- a node of the set passes a test
pub record Picked (set : ℕ) (test : PortNode → Bool) (w : CableWorld) (k : ℕ) : Type 0 where
  pub node : PortNode
  pub at : slice_get w.nodes k ≡ Some node
  pub passes : test node ≡ true
  pub holds : Holds set k

picked :
    (set : ℕ) (test : PortNode → Bool) (w : CableWorld) (k : ℕ) → picks set test w k ≡ true →
    Picked set test w k
picked set test w k h =
    let p = and_parts (bit_at set k == 1) (in_node test (slice_get w.nodes k)) h in
    go (slice_get w.nodes k) refl p.1 (eqb-true (bit_at set k) 1 p.0)
  where
    go :
        (o : Option PortNode) → slice_get w.nodes k ≡ o → in_node test o ≡ true → Holds set k →
        Picked set test w k
    go None e f i = absurd (true≢false (sym f))
    go (Some x) e f i = record { node = x; at = e; passes = f; holds = i }

picks-from :
    (set : ℕ) (test : PortNode → Bool) (w : CableWorld) (k : ℕ) (x : PortNode) → Holds set k →
    slice_get w.nodes k ≡ Some x → test x ≡ true → picks set test w k ≡ true
picks-from set test w k x h at t = and_from (bit_at set k == 1) (in_node test (slice_get w.nodes k)) (eq-eqb (bit_at set k) 1 h) (ap (in_node test) at ∙ t)

-- none passes, or one does
pub search-set :
    (set : ℕ) (test : PortNode → Bool) (w : CableWorld) →
    ((k : ℕ) (x : PortNode) → Holds set k → slice_get w.nodes k ≡ Some x → test x ≡ false)
    ⊎ ((k : ℕ) × Picked set test w k)
search-set set test w = elim (count-found (picks set test w) (length w.nodes)) [
  | inr f ↦ inr (f.0, picked set test w f.0 f.1)
  | inl none ↦ inl (λ k x h at. go none k x h at (test x) refl)
]
  where
    go :
        count (picks set test w) (length w.nodes) ≡ 0 → (k : ℕ) (x : PortNode) → Holds set k →
        slice_get w.nodes k ≡ Some x → (b : Bool) → test x ≡ b → b ≡ false
    go none k x h at false e = refl
    go none k x h at true e = absurd (omega (arith, none, count-some (picks set test w) (length w.nodes) k (slice_get_within w.nodes k x at) (picks-from set test w k x h at e)))

-- ---- T1

abbrev pub NoneShakes : CableWorld → ℕ → Type 0
NoneShakes w set = (k : ℕ) (x : PortNode) → Holds set k → slice_get w.nodes k ≡ Some x → is_child_shake x.state.view.phase ≡ false

abbrev in_shake : PortNode → Bool
in_shake x = is_child_shake x.state.view.phase

abbrev load : ℕ → CableWorld → ℕ → ℕ
load set w k = cond (bit_at set k == 1) (weight_in (slice_get w.nodes k)) 0

load-most : (set : ℕ) (w : CableWorld) (k : ℕ) → load set w k ≤ 3
load-most set w k = go (bit_at set k == 1) (slice_get w.nodes k)
  where
    go : (b : Bool) (o : Option PortNode) → cond b (weight_in o) 0 ≤ 3
    go false o = omega arith
    go true None = omega arith
    go true (Some x) = weigh-most x.state.view.phase x.state.view.parent

module _ (set : ℕ) where
  load-after :
      (hs : HoldSchedule) (v : CableWorld) → Grown v set → (i k : ℕ) →
      load set (quiet_after hs i v) k ≤ load set v k
  load-after hs v g i k = go (bit_at set k == 1) refl
    where
      go :
          (b : Bool) → (bit_at set k == 1) ≡ b →
          cond b (weight_in (slice_get (quiet_after hs i v).nodes k))
          0 ≤ cond b (weight_in (slice_get v.nodes k)) 0
      go false e = omega arith
      go true e = weight-after hs v set g k (eqb-true (bit_at set k) 1 e) i

  -- while a node is in T1
  falls :
      (hs : HoldSchedule) (v : CableWorld) → Grown v set → (k : ℕ) → Picked set in_shake v k →
      total (load set (quiet_after hs (v.delay + slack v + (v.delay + slack v)) v)) (length v.nodes) + 1 ≤ total (load set v)
      (length v.nodes)
  falls hs v g k p =
      let b = has-bottom v g.acyclic (picks set in_shake v) k (picks-from set in_shake v k p.node p.holds p.at p.passes) in
      let u = picked set in_shake v b.0 b.1.is in
      let s : Shakes v b.0 = record { node = u.node; at = u.at; shakes = is-child-shake u.node.state.view.phase u.passes } in
      let in_bits : (bit_at set b.0 == 1) ≡ true = eq-eqb (bit_at set b.0) 1 u.holds in
      let less = lighter hs v set g b.0 u.holds s (λ c e cable at t. b.1.none c e cable at
      (picks-from set in_shake v e.node cable.below (g.closed c e cable.joined (subst (Holds set) (sym at) u.holds)) cable.below_at (ap is_child_shake t))) in
      total-less (load set (quiet_after hs (v.delay + slack v + (v.delay + slack v)) v)) (load set v) (load-after hs v g (v.delay + slack v + (v.delay + slack v))) (length v.nodes) b.0 (slice_get_within v.nodes b.0 u.node u.at)
      (subst (λ q. cond q (weight_in (slice_get (quiet_after hs (v.delay + slack v + (v.delay + slack v)) v).nodes b.0)) 0 + 1 ≤ cond q (weight_in (slice_get v.nodes b.0)) 0) (sym in_bits)
      (subst (λ o. weight_in (slice_get (quiet_after hs (v.delay + slack v + (v.delay + slack v)) v).nodes b.0) + 1 ≤ weight_in o) (sym u.at) less))

  -- so at some time there is none
  dies-out :
      (hs : HoldSchedule) (m : ℕ) (v : CableWorld) → Grown v set →
      total (load set v) (length v.nodes) ≤ m → (i : ℕ)
      × (i ≤ m * (v.delay + slack v + (v.delay + slack v))) × NoneShakes (quiet_after hs i v) set
  dies-out hs zero v g few = elim (search-set set in_shake v) [
    | inl none ↦ (0, omega arith, subst (λ (u : CableWorld). NoneShakes u set) (sym (no-quiet hs v)) none)
    | inr f ↦ absurd (omega (arith, few, falls hs v g f.0 f.1))
  ]
  dies-out hs (suc m) v g few = elim (search-set set in_shake v) [
    | inl none ↦ (0, omega arith, subst (λ (u : CableWorld). NoneShakes u set) (sym (no-quiet hs v)) none)
    | inr f ↦
        let w : CableWorld = quiet_after hs (v.delay + slack v + (v.delay + slack v)) v in
        let same : length w.nodes ≡ length v.nodes = after-length hs v g.lawful (v.delay + slack v + (v.delay + slack v)) in
        let r = dies-out (holds_after (v.delay + slack v + (v.delay + slack v)) hs) m w (grown-after hs v set g (v.delay + slack v + (v.delay + slack v))) (subst (λ n. total (load set w) n ≤ m) (sym same) (omega (arith, few, falls hs v g f.0 f.1))) in (
          v.delay + slack v + (v.delay + slack v) + r.0,
          more m r.0 (w.delay + slack w) (v.delay + slack v) (omega (arith, after-delay hs v g.lawful (v.delay + slack v + (v.delay + slack v)), slack-later hs v g.lawful (v.delay + slack v + (v.delay + slack v)))) r.1,
          subst (λ (u : CableWorld). NoneShakes u set) (sym (quiet-then hs (v.delay + slack v + (v.delay + slack v)) r.0 v)) r.2,
        )
  ]
    where
      more : (m i e d : ℕ) → e ≤ d → i ≤ m * (e + e) → d + d + i ≤ suc m * (d + d)
      more m i e d h l =
          let z : suc m * (d + d) ≡ m * (d + d) + (d + d) = grind arith in
          omega (arith, z, l, mul-le m (e + e) m (d + d) (omega arith) (omega (arith, h)))

  pub shaken-out :
      (hs : HoldSchedule) (v : CableWorld) → Grown v set →
      (i : ℕ) × (i ≤ 3 * length v.nodes * (v.delay + slack v + (v.delay + slack v)))
      × NoneShakes (quiet_after hs i v) set
  shaken-out hs v g = dies-out hs (3 * length v.nodes) v g (total-most (load set v) 3 (length v.nodes) (load-most set v))

-- ---- nobody in T1

abbrev pub is_unrooted : PortNode → Bool
is_unrooted x = (not (is_before_tree x.state.view.phase) && not (hears_packets x.state.view.phase)) && is_some x.state.view.parent

phases-left :
    (f : Phase) → is_before_tree f ≡ false → is_child_shake f ≡ false → hears_packets f ≡ false →
    (f ≡ phase.ParentShake) ⊎ (f ≡ phase.Contend)
phases-left f a b c = grind arith

module _ (w : CableWorld) (set : ℕ) (g : Grown w set) (none : NoneShakes w set) where
  -- a node that asks or contends is one of two rivals
  pub rival-of :
      (k : ℕ) → Picked set is_unrooted w k → (a : End) × (b : End) × (a.node ≡ k) × AreMutual w a b
  rival-of k p = parent p.node.state.view.parent refl parts.1
    where
      v : IsValid p.node.state
      v = valid-at w set g k p.node p.at

      parts :
          ((not (is_before_tree p.node.state.view.phase) && not (hears_packets p.node.state.view.phase)) ≡ true)
          × (is_some p.node.state.view.parent ≡ true)
      parts = and_parts (not (is_before_tree p.node.state.view.phase) && not (hears_packets p.node.state.view.phase)) (is_some p.node.state.view.parent) p.passes

      not-true : (b : Bool) → not b ≡ true → b ≡ false
      not-true b h = grind arith

      two :
          (p.node.state.view.phase ≡ phase.ParentShake) ⊎ (p.node.state.view.phase ≡ phase.Contend)
      two = phases-left p.node.state.view.phase (g.late k p.node p.holds p.at) (none k p.node p.holds p.at)
          (not-true (hears_packets p.node.state.view.phase) (and_parts (not (is_before_tree p.node.state.view.phase)) (not (hears_packets p.node.state.view.phase)) parts.0).1)

      parent :
          (o : Option ℕ) → p.node.state.view.parent ≡ o → is_some o ≡ true → (a : End) × (b : End)
          × (a.node ≡ k) × AreMutual w a b
      parent None e s = absurd (true≢false (sym s))
      parent (Some q) e s = there (far w.cabling (end_at k q)) refl (sym ((g.lawful.well_formed.nodes k p.node p.at).connected q) ∙ parent-connected p.node.state v q e)
        where
          here : is_port p.node.state.view.parent q ≡ true
          here = ap (λ o. is_port o q) e ∙ eq-eqb q q refl

          there :
              (o : Option End) → far w.cabling (end_at k q) ≡ o → is_some o ≡ true → (a : End)
              × (b : End) × (a.node ≡ k) × AreMutual w a b
          there None f t = absurd (true≢false (sym t))
          there (Some b) f t = (end_at k q, b, refl, record { ends = record { joined = f; near = p.node; near_at = p.at; other = y; other_at = at_y }; here = here; there = up (leads_down y.state.view.ports b.port) refl })
            where
              back : far w.cabling b ≡ Some (end_at k q)
              back = g.lawful.well_formed.cabling.both_ways (end_at k q) b f

              y : PortNode
              y = (joined-of w b (end_at k q) g.lawful.well_formed back).near

              at_y : slice_get w.nodes b.node ≡ Some y
              at_y = (joined-of w b (end_at k q) g.lawful.well_formed back).near_at

              in_y : Holds set b.node
              in_y = g.closed (end_at k q) b f p.holds

              child : leads_down y.state.view.ports b.port ≡ true → ⊥
              child c =
                  let e : IsChildCable w b (end_at k q) = child-cable w set g b (end_at k q) y back at_y c in
                  let below = below-cable w set g b (end_at k q) e in
                  let same : e.below ≡ p.node = some-same e.below p.node (sym e.below_at ∙ p.at) in
                  elim two [
                    | inl t ↦ contrary (ap is_child_shake (below.asks (ap (λ (n : PortNode). is_shaking n.state.view.phase) same ∙ ap is_shaking t)).0) (none b.node e.above in_y e.above_at)
                    | inr t ↦ below.calm (ap (λ (n : PortNode). n.state.view.phase) same ∙ t)
                  ]

              up :
                  (c : Bool) → leads_down y.state.view.ports b.port ≡ c →
                  is_port y.state.view.parent b.port ≡ true
              up true c = absurd (child c)
              up false c = not-false (is_port y.state.view.parent b.port)
                  (sym (child-if y.state.view.parent y.state.view.ports b.port (late-roles y.state (valid-at w set g b.node y at_y) (g.late b.node y in_y at_y)) (cable-connected w b (end_at k q) y g.lawful.well_formed back at_y)) ∙ c)

  -- where there are no rivals, the next tick takes all out of tree identify
  pub all-identify :
      (hs : HoldSchedule) →
      ((k : ℕ) (x : PortNode) → Holds set k → slice_get w.nodes k ≡ Some x → is_unrooted x ≡ false)
      → AreIdentifying (quiet_after hs (slack w + 1) w) set
  all-identify hs alone k y h at = go (slack w) refl
    where
      open-up : (a b c : Bool) → a ≡ false → b ≡ false → ((not a && not b) && c) ≡ false → c ≡ false
      open-up a b c e f h = grind arith

      is-none : (o : Option ℕ) → is_some o ≡ false → o ≡ None
      is-none None e = refl
      is-none (Some q) e = absurd (true≢false e)

      contend-some : (o : Option ℕ) → IsSome o → o ≡ None → ⊥
      contend-some None some e = absurd cc
      contend-some (Some q) some e = contrary (eq-eqb q q refl) (ap (λ r. is_port r q) e)

      -- after one turn it has identified, or its clock missed the turn in T2 without parent
      First : PortNode → Type 0
      First z =
          (hears_packets z.state.view.phase ≡ true)
          ⊎ ((z.state.view.phase ≡ phase.ParentShake) × (z.state.view.parent ≡ None)
          × Misses hs w 0 k)

      first : (z : PortNode) → Calmly (quiet_after hs 0 w) k z.state → First z
      first z c = go (hears_packets c.node.state.view.phase) refl
        where
          at-first : slice_get w.nodes k ≡ Some c.node
          at-first = ap (λ (u : CableWorld). slice_get u.nodes k) (sym (no-quiet hs w)) ∙ c.at

          go : (b : Bool) → hears_packets c.node.state.view.phase ≡ b → First z
          go true e = inl (ap (λ (s : NodeState). hears_packets s.view.phase) c.is ∙ beat-identifying (beat c.node) (heard_by (quiet_after hs 0 w) k c.node) (ap hears_packets c.heard.phase ∙ e))
          go false e =
              let late : is_before_tree c.node.state.view.phase ≡ false = g.late k c.node h at-first in
              let root : c.node.state.view.parent ≡ None = is-none c.node.state.view.parent
              (open-up (is_before_tree c.node.state.view.phase) (hears_packets c.node.state.view.phase) (is_some c.node.state.view.parent) late e (alone k c.node h at-first)) in
              elim (phases-left c.node.state.view.phase late (none k c.node h at-first) e) [
                | inl t ↦ elim (beat-root (beat c.node) (heard_by (quiet_after hs 0 w) k c.node) (c.heard.phase ∙ t) (c.heard.parent ∙ root)) [
                  | inl m ↦
                      let same : z.state ≡ heard_by (quiet_after hs 0 w) k c.node = c.is ∙ ap (λ b. (on_beat b (heard_by (quiet_after hs 0 w) k c.node)).state) m in
                      inr (
                        ap (λ (s : NodeState). s.view.phase) same ∙ c.heard.phase ∙ t,
                        ap (λ (s : NodeState). s.view.parent) same ∙ c.heard.parent ∙ root,
                        record { node = c.node; at = c.at; missed = beat-misses c.node m },
                      )
                  | inr s ↦ inl (ap (λ (s : NodeState). hears_packets s.view.phase) c.is ∙ ap hears_packets s)
                ]
                | inr t ↦ absurd (contend-some c.node.state.view.parent (subst (λ f. FitsPhase f c.node.state.view.parent c.node.state.view.ports) t (valid-at w set g k c.node at-first).fits).1 root)
              ]

      second : (c : Calmly (quiet_after hs 1 w) k y.state) → First c.node → hears_packets y.state.view.phase ≡ true
      second c (inl e) = ap (λ (s : NodeState). hears_packets s.view.phase) c.is ∙ beat-identifying (beat c.node) (heard_by (quiet_after hs 1 w) k c.node) (ap hears_packets c.heard.phase ∙ e)
      second c (inr e) = elim (beat-root (beat c.node) (heard_by (quiet_after hs 1 w) k c.node) (c.heard.phase ∙ e.0) (c.heard.parent ∙ e.1)) [
        | inl m ↦ absurd (not-twice hs w g.lawful 0 k e.2 (record { node = c.node; at = c.at; missed = beat-misses c.node m }))
        | inr s ↦ ap (λ (s : NodeState). hears_packets s.view.phase) c.is ∙ ap hears_packets s
      ]

      twice : Calmly (quiet_after hs 1 w) k y.state → hears_packets y.state.view.phase ≡ true
      twice c = second c (first c.node (calm-at hs w set g 0 k c.node c.at))

      go : (n : ℕ) → slack w ≡ n → hears_packets y.state.view.phase ≡ true
      go zero e =
          let z : slack w + 1 ≡ 0 + 1 = omega (arith, e) in
          elim (first y (calm-at hs w set g 0 k y (ap (λ n. slice_get (quiet_after hs n w).nodes k) (sym z) ∙ at))) [
            | inl is ↦ is
            | inr m ↦ absurd (omega (arith, e, some-slack hs w g.lawful 0 k m.2))
          ]
      go (suc n) e =
          let z : slack w + 1 ≡ 1 + 1 = omega (arith, e, slack-most w) in
          twice (calm-at hs w set g 1 k y (ap (λ n. slice_get (quiet_after hs n w).nodes k) (sym z) ∙ at))

-- ---- a root

module _ (w : CableWorld) (set : ℕ) (g : Grown w set) where
  pub root-turn :
      (k : ℕ) → Holds set k → IsRoot w k → (y : PortNode) → slice_get (turn w).nodes k ≡ Some y →
      y.state.view.parent ≡ None
  root-turn k h r y at = go y.state.view.parent refl
    where
      c : Calmly w k y.state
      c = calm-turn w set g k y at

      go : (o : Option ℕ) → y.state.view.parent ≡ o → o ≡ None
      go None e = refl
      go (Some p) e = absurd (elim (parent-was (beat c.node) (heard_by w k c.node) p (sym (ap (λ (s : NodeState). is_port s.view.parent p) c.is) ∙ ap (λ o. is_port o p) e ∙ eq-eqb p p refl)) [
        | inl u ↦ contrary u (ap (λ o. is_port o p) (c.heard.parent ∙ ap (λ (n : PortNode). n.state.view.parent) (some-same c.node r.node (sym c.at ∙ r.at)) ∙ r.parentless))
        | inr s ↦ start-late (heard_by w k c.node).view.phase s (ap is_before_tree c.heard.phase ∙ g.late k c.node h c.at)
      ])

  pub identify-turn : AreIdentifying w set → AreIdentifying (turn w) set
  identify-turn all k y h at =
      let c = calm-turn w set g k y at in
      ap (λ (s : NodeState). hears_packets s.view.phase) c.is ∙ beat-identifying (beat c.node) (heard_by w k c.node) (ap hears_packets c.heard.phase ∙ all k c.node h c.at)
