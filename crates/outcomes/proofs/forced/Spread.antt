-- A component where a reset has just begun: each d turns it reaches the neighbours of those that it
-- reached, and
-- nobody leaves R0 before 64 d turns are done.
use Rattle.std.proofs.Math.Nat.{mul-le-mul_left}
use Rattle.std.proofs.Common.{◌≡◌, ◌⊎◌, inl, inr, ℕ, zero, suc, ◌+◌, ◌-◌, ◌*◌, ◌<◌, ◌≤◌, Bool, true, false, ◌&&◌, ◌==◌, List, [], ◌∷◌, Option, Some, None, length, slice_get, refl, sym, ◌∙◌, ap, subst, arith, add-one, true≢false}
use Rattle.std.specs.Int.{bit_at}
use Rattle.std.proofs.lemmas.Bool.{eqb-true, eq-eqb, and_from, and_parts, cases_lt, true_from_ne_false, false_from_ne_true}
use Rattle.std.proofs.lemmas.Option.{slice_get_within}
use Rattle.outcomes.proofs.Common.{contrary, Level, Phase, Signal, NodeState, Timing, is_resetting, PortNode, End, Wiring, far, Holds, IsComponent, plugged, shared, CableWorld, wire_of, turn_at, turn, level_sent, level_shown, leads_down, level_after, is_in_bus_reset, signals_of, has_reset, IsLawful, IsFresh, node-after, before, in-turn, after-delay, cable-connected, some-of, some-same, turn-state, one-quiet, no-quiet, quiet-lawful, after-cabling, turn-lawful, joined-of, signals, heard_by, in-component, PlacedHold, HoldSchedule, with_holds, quiet_after}
use Rattle.port_state.specs.declared.signal.Level.TheVariants as level
use Rattle.port_state.specs.declared.signal.Phase.TheVariants as phase
use Rattle.port_state.specs.declared.signal.Signal.TheVariants as signal
use Rattle.cable_world.proofs.Lemmas.{hears, ticks, HearsWell, TicksWell, holds-signals}
use Rattle.convergence.proofs.Lemmas.{was-waiting, count, count-most, count-less, count-some, OldReset, some-old, none-older, old-after}
use Rattle.port_state.specs.Machine.{beat, on_beat}

-- ---- one turn

-- in a component nobody is in R1, and whoever is in R0 came there at most so many turns ago
pub record Spreads (v : CableWorld) (set turns : ℕ) : Type 0 where
  pub timers :
      (k : ℕ) (x : PortNode) → Holds set k → slice_get v.nodes k ≡ Some x →
      is_resetting x.state.view.phase ≡ true → x.state.view.timer ≤ turns
  pub waits :
      (k : ℕ) (x : PortNode) → Holds set k → slice_get v.nodes k ≡ Some x →
      is_in_bus_reset x.state.view.phase ≡ true → is_resetting x.state.view.phase ≡ true

spreads-held :
    (holds : List PlacedHold) (w : CableWorld) (set turns : ℕ) → Spreads w set turns →
    Spreads (with_holds holds w) set turns
spreads-held holds w set turns s = record { timers = s.timers; waits = s.waits }

-- node number k is in R0
pub record Resets (v : CableWorld) (k : ℕ) : Type 0 where
  pub node : PortNode
  pub at : slice_get v.nodes k ≡ Some node
  pub resets : is_resetting node.state.view.phase ≡ true

-- a node after a turn comes of one before it
pub record Turned (w : CableWorld) (k : ℕ) (y : PortNode) : Type 0 where
  pub node : PortNode
  pub at : slice_get w.nodes k ≡ Some node
  pub hears : HearsWell (signals w k) node.state
  pub ticks : TicksWell (beat node) (heard_by w k node)
  pub is : y.state ≡ (on_beat (beat node) (heard_by w k node)).state

pub turned :
    (w : CableWorld) → IsLawful w → (k : ℕ) (y : PortNode) → slice_get (turn w).nodes k ≡ Some y →
    Turned w k y
turned w l k y at_y =
    let x = before w k y l.well_formed at_y in
    record {
      node = x.0;
      at = x.1;
      hears = hears w k x.0 l.well_formed x.1;
      ticks = ticks w k x.0 l.well_formed x.1;
      is = ap (λ (u : PortNode). u.state) x.2 ∙ turn-state (signals w k) x.0;
    }

-- and each before it goes on
pub record Turns (w : CableWorld) (k : ℕ) (x : PortNode) : Type 0 where
  pub node : PortNode
  pub at : slice_get (turn w).nodes k ≡ Some node

pub turns-to :
    (w : CableWorld) → IsLawful w → (k : ℕ) (x : PortNode) → slice_get w.nodes k ≡ Some x →
    Turns w k x
turns-to w l k x at = record { node = (turn_at w k x).node; at = node-after w k x l.well_formed.count at }

abbrev is_reset_level : Level → Bool
is_reset_level level.Reset = true
is_reset_level l = false

-- where a Reset was told last and none is under way, Reset is shown
said-reset :
    (l : Level) (ss : List Signal) → level_after l ss ≡ level.Reset → has_reset ss ≡ false →
    l ≡ level.Reset
said-reset l [] e h = e
said-reset l (signal.Reset ∷ ss) e h = absurd (true≢false h)
said-reset l (signal.Idle ∷ ss) e h = absurd (true≢false (sym (ap is_reset_level (said-reset level.Idle ss e h))))
said-reset l (signal.Parent ∷ ss) e h = absurd (true≢false (sym (ap is_reset_level (said-reset level.Parent ss e h))))
said-reset l (signal.Child ∷ ss) e h = absurd (true≢false (sym (ap is_reset_level (said-reset level.Child ss e h))))
said-reset l (signal.Grant ∷ ss) e h = said-reset l ss e h
said-reset l (signal.Packet quad ∷ ss) e h = said-reset l ss e h
said-reset l (signal.Done ∷ ss) e h = said-reset l ss e h

-- from a node in R0 a Reset is under way to each neighbour that is neither in R0 nor in R1
pub reset-told :
    (v : CableWorld) → IsLawful v → (a b : End) (x y : PortNode) → far v.cabling a ≡ Some b →
    slice_get v.nodes a.node ≡ Some x → slice_get v.nodes b.node ≡ Some y →
    is_resetting x.state.view.phase ≡ true → is_in_bus_reset y.state.view.phase ≡ false →
    has_reset (signals_of (wire_of v a).signals) ≡ true
reset-told v l a b x y e at_x at_y there out_y = go (has_reset (signals_of (wire_of v a).signals)) refl
  where
    back : far v.cabling b ≡ Some a
    back = l.well_formed.cabling.both_ways a b e

    told : (f : Phase) (c : Bool) → is_resetting f ≡ true → level_sent f c ≡ level.Reset
    told phase.ResetStart c h = refl
    told f c h = absurd cc

    says : level_after (level_shown y.state b.port) (signals_of (wire_of v a).signals) ≡ level.Reset
    says = l.agrees.levels a b x y e at_x at_y ∙ told x.state.view.phase (leads_down x.state.view.ports a.port) there

    go : (r : Bool) → has_reset (signals_of (wire_of v a).signals) ≡ r → r ≡ true
    go true h = refl
    go false h = absurd (true≢false (sym
        (l.coupled.watches b.node y at_y b.port (cable-connected v b a y l.well_formed back at_y) (said-reset (level_shown y.state b.port) (signals_of (wire_of v a).signals) says h))
        ∙ out_y))

module _
    (set : ℕ) (v : CableWorld) (l : IsLawful v) (i : ℕ) (soon : i + 1 < 64 * v.delay)
    (s : Spreads v set i) where
  spread-timers :
      (k : ℕ) (y : PortNode) → Holds set k → slice_get (turn v).nodes k ≡ Some y →
      is_resetting y.state.view.phase ≡ true → y.state.view.timer ≤ i + 1
  spread-timers k y h at_y there = go (turned v l k y at_y)
    where
      go : Turned v k y → y.state.view.timer ≤ i + 1
      go t = by (is_resetting t.node.state.view.phase) refl
        where
          by : (b : Bool) → is_resetting t.node.state.view.phase ≡ b → y.state.view.timer ≤ i + 1
          by true e = omega (arith, (in-turn v l k t.node y t.at at_y).rises e there, s.timers k t.node h t.at e)
          by false e = omega (arith, (in-turn v l k t.node y t.at at_y).enters e there)

  spread-waits :
      (k : ℕ) (y : PortNode) → Holds set k → slice_get (turn v).nodes k ≡ Some y →
      is_in_bus_reset y.state.view.phase ≡ true → is_resetting y.state.view.phase ≡ true
  spread-waits k y h at_y there = go (turned v l k y at_y)
    where
      go : Turned v k y → is_resetting y.state.view.phase ≡ true
      go t = elim t.hears.cases [
        | inl c ↦
            let was : is_resetting t.node.state.view.phase ≡ true = s.waits k t.node h t.at (sym (ap is_in_bus_reset c.phase) ∙ before-tick) in
            (in-turn v l k t.node y t.at at_y).stays was (omega (arith, s.timers k t.node h t.at was, soon))
        | inr c ↦
            ap (λ (z : NodeState). is_resetting z.view.phase) t.is
            ∙ (t.ticks.holds (ap is_resetting c.phase) (omega (arith, c.timer, hold-least, l.well_formed.some_delay)) hold-most).0
      ]
        where
          before-tick : is_in_bus_reset (heard_by v k t.node).view.phase ≡ true
          before-tick = was-waiting (beat t.node) (heard_by v k t.node) (sym (ap (λ (z : NodeState). is_in_bus_reset z.view.phase) t.is) ∙ there)

          hold-least : 64 * v.delay ≤ (heard_by v k t.node).timing.hold
          hold-least = omega (arith, ap (λ (z : Timing). z.hold) t.hears.timing, (l.well_formed.nodes k t.node t.at).timing.hold_least)

          hold-most : (heard_by v k t.node).timing.hold ≤ 65535
          hold-most = omega (arith, ap (λ (z : Timing). z.hold) t.hears.timing, (l.well_formed.nodes k t.node t.at).timing.hold_most, (l.well_formed.nodes k t.node t.at).timing.counted.hold)

  turn-spreads : Spreads (turn v) set (i + 1)
  turn-spreads = record { timers = spread-timers; waits = spread-waits }

-- ---- many turns

abbrev resets_there : Option PortNode → Bool
resets_there None = false
resets_there (Some x) = is_resetting x.state.view.phase

module _
    (hs : HoldSchedule) (w : CableWorld) (l : IsLawful w) (node set : ℕ) (comp : IsComponent w.cabling node set)
    (fresh : IsFresh w set) where
  start-spreads : Spreads w set 0
  start-spreads = record {
    timers = λ k x h at there.
        let y = some-of (slice_get w.nodes k) _ (fresh.begins k h) in
        let same : y.0 ≡ x = some-same y.0 x (sym y.1 ∙ at) in
        let is : x.state.view.timer ≡ 0 = rw (← same) (y.2 (start y.0.state.view.phase (ap (λ (z : PortNode). is_resetting z.state.view.phase) same ∙ there))) in
        omega (arith, is);
    waits = λ k x h at there.
        let y = some-of (slice_get w.nodes k) _ (fresh.waits k h) in
        let same : y.0 ≡ x = some-same y.0 x (sym y.1 ∙ at) in
        not-wait x.state.view.phase there (rw (← same) y.2);
  }
    where
      start : (p : Phase) → is_resetting p ≡ true → p ≡ phase.ResetStart
      start p h = grind arith

      not-wait :
          (p : Phase) → is_in_bus_reset p ≡ true → (p ≡ phase.ResetWait → ⊥) → is_resetting p ≡ true
      not-wait phase.ResetStart h n = refl
      not-wait phase.ResetWait h n = absurd (n refl)
      not-wait p h n = absurd cc

  pub spreads : (i : ℕ) → i < 64 * w.delay → Spreads (quiet_after hs i w) set i
  unfolding quiet_after
  spreads zero soon = spreads-held (hs 0) w set 0 start-spreads
  spreads (suc i) soon =
      spreads-held (hs (suc i)) (turn (quiet_after hs i w)) set (suc i)
      (subst (Spreads (turn (quiet_after hs i w)) set) (add-one i)
      (turn-spreads set (quiet_after hs i w) (quiet-lawful hs i w l) i (omega (arith, soon, after-delay hs w l i)) (spreads i (omega (arith, soon)))))

  -- whoever is in R0 stays there
  pub resets-stay :
      (j i k : ℕ) → i + j < 64 * w.delay → Holds set k → Resets (quiet_after hs i w) k →
      Resets (quiet_after hs (i + j) w) k
  resets-stay zero i k soon h r = let z : i ≡ i + 0 = omega arith in subst (λ n. Resets (quiet_after hs n w) k) z r
  resets-stay (suc j) i k soon h r =
      let v : CableWorld = quiet_after hs (i + j) w in
      let m : IsLawful v = quiet-lawful hs (i + j) w l in
      let z : i + j + 1 ≡ i + suc j = omega arith in
      let was : Resets v k = resets-stay j i k (omega (arith, soon)) h r in
      let next : Turns v k was.node = turns-to v m k was.node was.at in
      let timer : was.node.state.view.timer ≤ i + j = (spreads (i + j) (omega (arith, soon))).timers k was.node h was.at was.resets in
      subst (λ n. Resets (quiet_after hs n w) k) z
      (subst (λ u. Resets u k) (sym (one-quiet hs (i + j) w))
      (record { node = next.node; at = next.at; resets = (in-turn v m k was.node next.node was.at next.at).stays was.resets (omega (arith, timer, soon, after-delay hs w l (i + j))) }))

  -- d turns after one node is in R0 its neighbours are
  module _
      (i : ℕ) (soon : i + w.delay < 64 * w.delay) (a b : End) (e : far w.cabling a ≡ Some b)
      (has : Holds set a.node) (r : Resets (quiet_after hs i w) a.node) where
    abbrev later : ℕ → CableWorld
    later t = quiet_after hs (i + t) w

    cable : (t : ℕ) → far (later t).cabling a ≡ Some b
    cable t = ap (λ (c : Wiring). far c a) (after-cabling hs (i + t) w) ∙ e

    has-b : Holds set b.node
    has-b = comp.closed a b e has

    module _ (never : (t : ℕ) → t ≤ w.delay → Resets (later t) b.node → ⊥) where
      out-of :
          (t : ℕ) → t ≤ w.delay → (y : PortNode) → slice_get (later t).nodes b.node ≡ Some y →
          is_resetting y.state.view.phase ≡ false
      out-of t h y at = false_from_ne_true _ (λ f. never t h (record { node = y; at = at; resets = f }))

      under-way : (t : ℕ) → t ≤ w.delay → OldReset t (wire_of (later t) a).signals
      under-way zero h =
          let z : i ≡ i + 0 = omega arith in
          let x : Resets (later 0) a.node = subst (λ n. Resets (quiet_after hs n w) a.node) z r in
          let m : IsLawful (later 0) = quiet-lawful hs (i + 0) w l in
          let y = (joined-of (later 0) a b m.well_formed (cable 0)).other in
          let at_y = (joined-of (later 0) a b m.well_formed (cable 0)).other_at in
          some-old (wire_of (later 0) a).signals
          (reset-told (later 0) m a b x.node y (cable 0) x.at at_y x.resets
          (not-waiting y at_y (is_in_bus_reset y.state.view.phase) refl))
        where
          not-waiting :
              (y : PortNode) → slice_get (later 0).nodes b.node ≡ Some y → (c : Bool) →
              is_in_bus_reset y.state.view.phase ≡ c → c ≡ false
          not-waiting y at false f = refl
          not-waiting y at true f =
              let none : 0 ≤ w.delay = omega arith in
              contrary ((spreads (i + 0) (omega (arith, soon))).waits b.node y has-b at f) (out-of 0 none y at)
      under-way (suc t) h =
          let v : CableWorld = later t in
          let m : IsLawful v = quiet-lawful hs (i + t) w l in
          let y = (joined-of v a b m.well_formed (cable t)).other in
          let at_y = (joined-of v a b m.well_formed (cable t)).other_at in
          let next : Turns v b.node y = turns-to v m b.node y at_y in
          let z : i + t + 1 ≡ i + suc t = omega arith in
          let held : CableWorld = with_holds (hs (i + t + 1)) (turn v) in
          let is : quiet_after hs (i + suc t) w ≡ held = sym (ap (λ n. quiet_after hs n w) z) ∙ one-quiet hs (i + t) w in
          let n : t + 1 ≡ suc t = add-one t in
          subst (λ j. OldReset j (wire_of (later (suc t)) a).signals) n
          (subst (λ (u : CableWorld). OldReset (t + 1) (wire_of u a).signals) (sym is)
          (subst (OldReset (t + 1)) (sym (holds-signals (hs (i + t + 1)) (turn v) a (turn-lawful v m)))
          (old-after v m a b y next.node t (cable t) at_y next.at (out-of t (omega (arith, h)) y at_y) (out-of (suc t) h next.node (ap (λ (u : CableWorld). slice_get u.nodes b.node) is ∙ next.at)) (under-way t (omega (arith, h))))))

      no-way : ⊥
      no-way =
          let m : IsLawful (later w.delay) = quiet-lawful hs (i + w.delay) w l in
          let all : w.delay ≤ w.delay = omega arith in
          none-older ((later w.delay).delay - 1) w.delay (wire_of (later w.delay) a).signals (omega (arith, after-delay hs w l (i + w.delay), l.well_formed.some_delay)) (m.well_formed.ages a) (under-way w.delay all)

    crosses : Resets (later w.delay) b.node
    crosses = go (is_resetting y.state.view.phase) refl
      where
        m : IsLawful (later w.delay)
        m = quiet-lawful hs (i + w.delay) w l

        y : PortNode
        y = (joined-of (later w.delay) a b m.well_formed (cable w.delay)).other

        at : slice_get (later w.delay).nodes b.node ≡ Some y
        at = (joined-of (later w.delay) a b m.well_formed (cable w.delay)).other_at

        go : (c : Bool) → is_resetting y.state.view.phase ≡ c → Resets (later w.delay) b.node
        go true f = record { node = y; at = at; resets = f }
        go false f = absurd (no-way (λ t h s.
            let z : i + t + (w.delay - t) ≡ i + w.delay = omega (arith, h) in
            let then : Resets (later w.delay) b.node = subst (λ n. Resets (quiet_after hs n w) b.node) z (resets-stay (w.delay - t) (i + t) b.node (omega (arith, z, soon)) has-b s) in
            let same : then.node ≡ y = some-same then.node y (sym then.at ∙ at) in
            contrary then.resets (ap (λ (u : PortNode). is_resetting u.state.view.phase) same ∙ f)))

  -- ---- all of them

  member : ℕ → ℕ → Bool
  member i k = (bit_at set k == 1) && resets_there (slice_get (quiet_after hs i w).nodes k)

  member-parts : (i k : ℕ) → member i k ≡ true → Holds set k × Resets (quiet_after hs i w) k
  unfolding member
  member-parts i k h =
      let p = and_parts (bit_at set k == 1) (resets_there (slice_get (quiet_after hs i w).nodes k)) h in
      (eqb-true (bit_at set k) 1 p.0, go (slice_get (quiet_after hs i w).nodes k) refl p.1)
    where
      go :
          (o : Option PortNode) → slice_get (quiet_after hs i w).nodes k ≡ o →
          resets_there o ≡ true →
          Resets (quiet_after hs i w) k
      go None e f = absurd (true≢false (sym f))
      go (Some x) e f = record { node = x; at = e; resets = f }

  member-from : (i k : ℕ) → Holds set k → Resets (quiet_after hs i w) k → member i k ≡ true
  unfolding member
  member-from i k h r = and_from (bit_at set k == 1) (resets_there (slice_get (quiet_after hs i w).nodes k)) (eq-eqb (bit_at set k) 1 h) (ap resets_there r.at ∙ r.resets)

  member-stays : (i j k : ℕ) → i + j < 64 * w.delay → member i k ≡ true → member (i + j) k ≡ true
  member-stays i j k soon h = let p = member-parts i k h in member-from (i + j) k p.0 (resets-stay j i k soon p.0 p.1)

  abbrev n : ℕ
  n = length w.nodes

  first : Resets w fresh.node
  first = let y = some-of (slice_get w.nodes fresh.node) _ fresh.resets in record { node = y.0; at = y.1; resets = ap is_resetting y.2 }

  first-at : (i : ℕ) → i < 64 * w.delay → member i fresh.node ≡ true
  first-at i soon =
      let z : 0 + i ≡ i = omega arith in
      member-from i fresh.node fresh.holds (subst (λ j. Resets (quiet_after hs j w) fresh.node) z (resets-stay i 0 fresh.node (omega (arith, soon)) fresh.holds (subst (λ u. Resets u fresh.node) (sym (no-quiet hs w)) (record { node = first.node; at = first.at; resets = first.resets }))))

  abbrev AllIn : ℕ → Type 0
  AllIn i = (k : ℕ) → Holds set k → Resets (quiet_after hs i w) k

  -- in d turns there are more, unless they are all
  grows :
      (i : ℕ) → i + w.delay < 64 * w.delay →
      (count (member i) n + 1 ≤ count (member (i + w.delay)) n) ⊎ AllIn i
  grows i soon = elim (cases_lt (count (member i) n) (count (member (i + w.delay)) n)) [
    | inl less ↦ inl (omega (arith, less))
    | inr same ↦ inr (λ k h. (member-parts i k (all k h same)).1)
  ]
    where
      was :
          count (member (i + w.delay)) n ≤ count (member i) n → (k : ℕ) → k < n → (b : Bool) →
          member i k ≡ b → member (i + w.delay) k ≡ true → b ≡ true
      was same k inside true e f = refl
      was same k inside false e f = absurd (omega (arith, same, count-less (member i) (member (i + w.delay)) (λ j. member-stays i w.delay j soon) n k inside e f))

      closed :
          count (member (i + w.delay)) n ≤ count (member i) n → (a b : End) →
          far w.cabling a ≡ Some b → member i a.node ≡ true → member i b.node ≡ true
      closed same a b e m =
          let p = member-parts i a.node m in
          let inside : b.node < n = omega (arith, (plugged w.cabling b a (l.well_formed.cabling.both_ways a b e)).node, l.well_formed.count) in
          was same b.node inside (member i b.node) refl (member-from (i + w.delay) b.node (comp.closed a b e p.0) (crosses i soon a b e p.0 p.1))

      all :
          (k : ℕ) → Holds set k → count (member (i + w.delay)) n ≤ count (member i) n →
          member i k ≡ true
      all k h same = true_from_ne_false _ (λ e. in-component w.cabling fresh.node set (λ j. member i j ≡ true) l.well_formed.cabling (shared w.cabling node fresh.node set l.well_formed.cabling comp fresh.holds) start (first-at i (omega (arith, soon))) (closed same) k h (λ f. contrary f e))
        where
          start : fresh.node < length w.cabling
          start = omega (arith, slice_get_within w.nodes fresh.node first.node first.at, l.well_formed.count)

  few : n ≤ 63
  few = omega (arith, l.well_formed.count, l.well_formed.cabling.few_nodes)

  reaches : (j : ℕ) → j ≤ 62 → (j + 1 ≤ count (member (j * w.delay)) n) ⊎ AllIn (j * w.delay)
  reaches zero h =
      let z : 0 ≡ 0 * w.delay = omega arith in
      subst (λ t. (0 + 1 ≤ count (member t) n) ⊎ AllIn t) z (inl (count-some (member 0) n fresh.node (slice_get_within w.nodes fresh.node first.node first.at) (first-at 0 (omega (arith, l.well_formed.some_delay)))))
  reaches (suc j) h =
      let z : j * w.delay + w.delay ≡ suc j * w.delay = grind arith in
      let soon : j * w.delay + w.delay < 64 * w.delay = room j w.delay h l.well_formed.some_delay in
      subst (λ t. (suc j + 1 ≤ count (member t) n) ⊎ AllIn t) z (elim (reaches j (omega (arith, h))) [
        | inr all ↦ inr (λ k has. resets-stay w.delay (j * w.delay) k soon has (all k has))
        | inl some ↦ elim (grows (j * w.delay) soon) [
          | inl more ↦ inl (omega (arith, some, more))
          | inr all ↦ inr (λ k has. resets-stay w.delay (j * w.delay) k soon has (all k has))
        ]
      ])
    where
      room : (j d : ℕ) → suc j ≤ 62 → 1 ≤ d → j * d + d < 64 * d
      room j d h o = omega (arith, mul-le-mul_left d h, o)

  some-node : 1 ≤ n
  some-node = omega (arith, slice_get_within w.nodes fresh.node first.node first.at)

  first-all : AllIn ((n - 1) * w.delay)
  first-all = elim (reaches (n - 1) (omega (arith, few))) [
    | inr all ↦ all
    | inl many ↦ (λ k h. (member-parts ((n - 1) * w.delay) k (go many k h (member ((n - 1) * w.delay) k) refl)).1)
  ]
    where
      go :
          n - 1 + 1 ≤ count (member ((n - 1) * w.delay)) n → (k : ℕ) → Holds set k → (b : Bool) →
          member ((n - 1) * w.delay) k ≡ b → b ≡ true
      go many k h true e = refl
      go many k h false e =
          let y = some-of (slice_get w.nodes k) _ (fresh.begins k h) in
          absurd (omega (arith, many, some-node, count-most (λ j. true) n, count-less (member ((n - 1) * w.delay)) (λ j. true) (λ j f. refl) n k (slice_get_within w.nodes k y.0 y.1) e refl))

  -- after (n - 1) d turns all are in R0, and stay there until 64 d turns are done
  pub all-reset :
      (i : ℕ) → (n - 1) * w.delay ≤ i → i < 64 * w.delay → (k : ℕ) (x : PortNode) → Holds set k →
      slice_get (quiet_after hs i w).nodes k ≡ Some x → (is_resetting x.state.view.phase ≡ true)
      × (x.state.view.timer ≤ i)
  all-reset i late soon k x h at = (there, (spreads i soon).timers k x h at there)
    where
      z : (n - 1) * w.delay + (i - (n - 1) * w.delay) ≡ i
      z = omega (arith, late)

      r : Resets (quiet_after hs i w) k
      r = subst (λ j. Resets (quiet_after hs j w) k) z (resets-stay (i - (n - 1) * w.delay) ((n - 1) * w.delay) k (omega (arith, z, soon)) h (first-all k h))

      there : is_resetting x.state.view.phase ≡ true
      there = ap (λ (u : PortNode). is_resetting u.state.view.phase) (some-same x r.node (sym at ∙ r.at)) ∙ r.resets

pub some-nodes : (w : CableWorld) (set : ℕ) → IsFresh w set → 1 ≤ length w.nodes
some-nodes w set fresh = let y = some-of (slice_get w.nodes fresh.node) _ fresh.resets in omega (arith, slice_get_within w.nodes fresh.node y.0 y.1)
