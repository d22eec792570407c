-- Where one node alone waits, each other node that comes past T0 has its port towards it for parent
-- port. So no two
-- nodes ask each other, and nobody contends.
use Rattle.std.proofs.Common.{◌≡◌, ◌≢◌, inl, inr, ℕ, zero, suc, ◌+◌, ◌-◌, ◌*◌, ◌^◌, ◌<◌, ◌≤◌, Bool, true, false, not, ◌&&◌, ◌||◌, [], length, Option, Some, None, slice_get, if◌then◌else◌, refl, sym, ◌∙◌, ap, subst, arith, true≢false}
use Rattle.std.specs.Prelude.{◌⊎◌, ◌/◌, nat_lt}
use Rattle.std.proofs.Math.Nat.{div-eq_of_lt}
use Rattle.std.proofs.lemmas.Bool.{cases_eq, cases_lt, true_from_ne_false}
use Rattle.std.proofs.lemmas.Bool.Decides.{nat_tests}
use Rattle.outcomes.proofs.Common.{contrary, Level, Phase, PortView, NodeState, Timing, coin, is_parent, is_remaining, lowest, passes, port_is, is_connected, is_port, is_resetting, is_decided, Row, raise_timer, does, next_row, tick, PortNode, End, Wiring, far, Holds, IsEmpty, IsComponent, IsCore, LeadsUp, end_at, age_wire, gives, CableWorld, wire_of, turn, level_sent, shown_or_idle, level_shown, leads_down, level_after, is_before_tree, is_after_hold, signals_of, has_reset, IsLawful, IsFresh, after-delay, child-if, cable-connected, some-same, late-roles, Chosen, chosen, comes, port-is, start-before_tree, one-quiet, quiet-lawful, after-cabling, joined-of, Calmly, signals, heard_by, port-is-not, WaitsAlone, HoldSchedule, with_holds, quiet_after}
use Rattle.port_state.specs.Row as row
use Rattle.port_state.proofs.Lemmas.{decided_few, left_is}
use Rattle.cable_world.specs.Agreement.{level_sent_at}
use Rattle.cable_world.specs.Phases.{is_contending}
use Rattle.cable_world.specs.Signals.{shows_no_notice}
use Rattle.cable_world.specs.Coupling.{is_reset_known, Coupling}
use Rattle.cable_world.proofs.Lemmas.{hears, steady, between-known}
use Rattle.convergence.proofs.Lemmas.{late-start}
use Rattle.outcomes.proofs.forced.Forced.{kept-heard, Takes, beat-tick-takes}
use Rattle.outcomes.proofs.forced.ForcedRoot.{up, late, parentless, enough}
use Rattle.outcomes.proofs.forced.Spread.{Turned, turned, spreads, all-reset, some-nodes}
use Rattle.outcomes.specs.Forced.{CanBeForcedAt}
use Rattle.outcomes.proofs.forced.Waits.{outside, steadily, seen-most, spread-most, waiting}
use Rattle.port_state.specs.Machine.{beat, on_beat}
use Rattle.convergence.proofs.Lemmas.{coin_of}
use Rattle.port_state.specs.Clock.{misses, clock_after}
use Rattle.cable_world.specs.Times.{Suits, KeepsTime}
use Rattle.cable_world.specs.Turn.{turn_at}
use Rattle.cable_world.proofs.Lemmas.{after-longest, beat-misses, in-turn-rises, node-after}
use Rattle.convergence.specs.Turns.{slack, seen_turns}
use Rattle.convergence.proofs.Lemmas.{HasRun, run-on, run-over, some-slack}

-- ---- ticks

-- in R1, T0 and after, a node that isn't shown Parent by its parent port doesn't contend
record Calms (coin : Bool) (x y : NodeState) : Type 0 where
  calm : is_contending y.view.phase ≡ false
  draws : y.view.draws ≡ x.view.draws
  parent : is_before_tree x.view.phase ≡ false → y.view.parent ≡ x.view.parent

-- a node past T0 has this parent port, which doesn't show Parent
abbrev Unasked : Option ℕ → NodeState → Type 0
Unasked o x = is_before_tree x.view.phase ≡ false → (x.view.parent ≡ o) × ((p : ℕ) → o ≡ Some p → port_is (λ q. is_parent q.shown) x.view.ports p ≡ false)

row-calms :
    (coin : Bool) (r : Row) (x : NodeState) (o : Option ℕ) → Chosen r x →
    is_contending x.view.phase ≡ false → Unasked o x → Calms coin x (does coin r x).state
row-calms coin row.none x o c h u = record { calm = h; draws = refl; parent = λ g. refl }
row-calms coin row.ends_reset x o c h u = record { calm = refl; draws = refl; parent = λ g. refl }
row-calms coin row.begins_tree x o c h u = record { calm = refl; draws = refl; parent = λ g. refl }
row-calms coin row.takes_roles x o c h u = record { calm = refl; draws = refl; parent = λ g. contrary (ap is_before_tree c.0) g }
row-calms coin row.times_out x o c h u = record { calm = h; draws = refl; parent = λ g. refl }
row-calms coin row.awaits_parent x o c h u = record { calm = refl; draws = refl; parent = λ g. refl }
row-calms coin row.becomes_root x o c h u = record { calm = refl; draws = refl; parent = λ g. refl }
row-calms coin (row.finds_parent p) x o c h u = record { calm = refl; draws = refl; parent = λ g. refl }
row-calms coin (row.begins_contention p) x o c h u =
    let k = u (ap is_before_tree c.0) in
    contrary c.2 (k.1 p (sym k.0 ∙ c.1))
row-calms coin (row.takes_rival p) x o c h u = contrary (ap is_contending c.0) h
row-calms coin (row.asks_again p) x o c h u = contrary (ap is_contending c.0) h
row-calms coin (row.asks_child p) x o c h u = record { calm = h; draws = refl; parent = λ g. refl }
row-calms coin row.names_itself x o c h u = record { calm = refl; draws = refl; parent = λ g. refl }

tick-calms :
    (coin : Bool) (x : NodeState) (o : Option ℕ) → is_contending x.view.phase ≡ false →
    Unasked o x → Calms coin x (tick coin x).state
unfolding tick
tick-calms coin x o h u =
    let c = row-calms coin (next_row x) (raise_timer x) o (chosen x.view.phase (raise_timer x) refl) h u in
    record { calm = c.calm; draws = c.draws; parent = c.parent }

beat-tick-calms :
    (b : Option Bool) (x : NodeState) (o : Option ℕ) → is_contending x.view.phase ≡ false →
    Unasked o x → Calms (coin_of b) x (on_beat b x).state
beat-tick-calms None x o h u = record { calm = h; draws = refl; parent = λ g. refl }
beat-tick-calms (Some coin) x o h u = tick-calms coin x o h u

-- the one port that is left becomes the parent port
left-parent :
    (x : NodeState) (k : ℕ) → is_decided x ≡ true → is_connected x.view.ports k ≡ true →
    is_parent (level_shown x k) ≡ false → is_port (lowest is_remaining x.view.ports) k ≡ true
left-parent x k d c l = go (slice_get x.view.ports k) refl c l
  where
    left : (b s : Bool) → b ≡ true → s ≡ false → (b && not s) ≡ true
    left b s e h = grind arith

    go :
        (o : Option PortView) → slice_get x.view.ports k ≡ o → passes (λ p. p.connected) o ≡ true →
        is_parent (shown_or_idle o) ≡ false → is_port (lowest is_remaining x.view.ports) k ≡ true
    go None at c l = absurd (true≢false (sym c))
    go (Some p) at c l =
        let same : 0 + k ≡ k = omega arith in
        subst (λ j. is_port (lowest is_remaining x.view.ports) j ≡ is_remaining p) same (left_is 0 x.view.ports (decided_few x d) k p at) ∙ left p.connected (is_parent p.shown) c l

-- ---- phases

early-tells : (h : Phase) (c : Bool) → is_before_tree h ≡ true → is_parent (level_sent h c) ≡ false
early-tells h c e = grind arith

late-tells :
    (h : Phase) (c : Bool) → is_before_tree h ≡ false → c ≡ true → is_parent (level_sent h c)
    ≡ false
late-tells h c e f = grind arith

low-unasked : (l : Level) → shows_no_notice l ≡ true → is_parent l ≡ false
low-unasked l e = grind arith

start-known :
    (h : Phase) (d t : ℕ) → is_resetting h ≡ true → d < t →
    ((is_resetting h && nat_lt d t) || is_after_hold h) ≡ true
start-known h d t e l = grind (arith, nat_tests)

start-calm : (h : Phase) → is_resetting h ≡ true → is_contending h ≡ false
start-calm h e = grind arith

module _
    (hs : HoldSchedule) (w : CableWorld) (l : IsLawful w) (node set core : ℕ) (comp : IsComponent w.cabling node set)
    (is_core : IsCore w.cabling set core) (empty : IsEmpty core) (small : set < 2 ^ 63)
    (fresh : IsFresh w set) (f : ℕ) (alone : WaitsAlone w set f) (can : CanBeForcedAt w f) where
  abbrev spread : ℕ
  spread = length w.nodes * w.delay

  abbrev reached : ℕ
  reached = (length w.nodes - 1) * w.delay

  reached-is : reached + w.delay ≤ 63 * w.delay
  reached-is = omega (arith, sum (length w.nodes) w.delay (omega (arith, slice_inside)), spread-most hs w l node set comp fresh)
    where
      slice_inside : 1 ≤ length w.nodes
      slice_inside = some-nodes w set fresh

      sum : (n d : ℕ) → 1 ≤ n → (n - 1) * d + d ≡ n * d
      sum zero d h = absurd (omega (arith, h))
      sum (suc n) d h = let z : suc n - 1 ≡ n = omega arith in rw z (grind arith)

  -- ---- nodes in R0

  -- its timer tells so many turns, or its clock missed some
  abbrev HasTicked : ℕ → PortNode → Type 0
  HasTicked n x = (n ≤ x.state.view.timer) ⊎ ((slack w ≡ 1) × HasRun w.longest n x)

  -- one turn more
  ticked :
      (n : ℕ) (x y : PortNode) → 1 ≤ x.state.timing.long → KeepsTime w.longest x.state.timing x.clock →
      y.state.timing ≡ x.state.timing → y.clock ≡ clock_after x.clock →
      (misses x.clock ≡ true → slack w ≡ 1) →
      ((misses x.clock ≡ true) × (y.state.view.timer ≡ x.state.view.timer))
      ⊎ (y.state.view.timer ≡ x.state.view.timer + 1) →
      HasTicked n x → HasTicked (n + 1) y
  ticked n x y some keeps same clock one (inr t) (inl a) = inl (omega (arith, t, a))
  ticked n x y some keeps same clock one (inl m) (inl a) = inr (one m.0, run-on w.longest n x y some keeps same clock (inl m) (inl a))
  ticked n x y some keeps same clock one r (inr h) = inr (h.0, run-on w.longest n x y some keeps same clock r h.1)

  some-long :
      (i k : ℕ) (x : PortNode) → slice_get (quiet_after hs i w).nodes k ≡ Some x →
      (2 * w.delay < x.state.timing.short) × (x.state.timing.short + 2 * w.delay ≤ x.state.timing.long)
  some-long i k x at =
      let fits : Suits (quiet_after hs i w).delay (quiet_after hs i w).longest x.state.timing = ((quiet-lawful hs i w l).well_formed.nodes k x at).timing in
      (omega (arith, fits.short_least, after-delay hs w l i), omega (arith, fits.long_least, fits.short_most, after-delay hs w l i))

  keeps :
      (i k : ℕ) (x : PortNode) → slice_get (quiet_after hs i w).nodes k ≡ Some x →
      KeepsTime w.longest x.state.timing x.clock
  keeps i k x at = subst (λ (t : Timing). KeepsTime t x.state.timing x.clock) (after-longest hs w l i) ((quiet-lawful hs i w l).paced k x at)

  -- after so many turns the timer is past d
  past :
      (i n k : ℕ) (x : PortNode) → slice_get (quiet_after hs i w).nodes k ≡ Some x → w.delay + 2 ≤ n →
      HasTicked n x → w.delay < x.state.view.timer
  past i n k x at late (inl a) = omega (arith, late, a)
  past i n k x at late (inr h) =
      let long = some-long i k x at in
      let none : (w.delay + 1) / x.state.timing.long ≡ 0 = div-eq_of_lt (omega (arith, long.0, long.1, l.well_formed.some_delay)) in
      let over : w.delay + 1 ≤ x.state.view.timer =
      run-over w.longest n x (w.delay + 1) (w.delay + 2) (omega (arith, long.0, long.1)) (omega arith) (λ s. omega (arith, none)) late h.1 in
      omega (arith, over)

  -- the turn in which a node comes to R0 may be its first tick there
  module _ (i : ℕ) (soon : i + 1 < 64 * w.delay) (k : ℕ) (y : PortNode) (h : Holds set k)
      (at : slice_get (turn (quiet_after hs i w)).nodes k ≡ Some y) (r : is_resetting y.state.view.phase ≡ true) where
    come : Turned (quiet_after hs i w) k y
    come = turned (quiet_after hs i w) (quiet-lawful hs i w l) k y at

    abbrev heard : NodeState
    heard = heard_by (quiet_after hs i w) k come.node

    fits : Suits (quiet_after hs i w).delay (quiet_after hs i w).longest come.node.state.timing
    fits = ((quiet-lawful hs i w l).well_formed.nodes k come.node come.at).timing

    resets : is_resetting heard.view.phase ≡ true
    resets = true_from_ne_false _ (λ e. true≢false (sym r ∙ ap (λ (z : NodeState). is_resetting z.view.phase) come.is ∙ come.ticks.out e))

    timer : heard.view.timer ≤ i
    timer = elim come.hears.cases [
      | inl s ↦ omega (arith, s.timer, (spreads hs w l node set comp fresh i (omega (arith, soon))).timers k come.node h come.at (sym (ap is_resetting s.phase) ∙ resets))
      | inr s ↦ omega (arith, s.timer)
    ]

    rises : (beat come.node ≡ None) ⊎ ((on_beat (beat come.node) heard).state.view.timer ≡ heard.view.timer + 1)
    rises = come.ticks.rises resets
        (omega (arith, timer, soon, ap (λ (z : Timing). z.hold) come.hears.timing, fits.hold_least, after-delay hs w l i))
        (omega (arith, ap (λ (z : Timing). z.hold) come.hears.timing, fits.hold_most, fits.counted.hold))

    clock-is : y.clock ≡ clock_after come.node.clock
    clock-is = ap (λ (z : PortNode). z.clock) (sym (some-same (turn_at (quiet_after hs i w) k come.node).node y (sym (node-after (quiet_after hs i w) k come.node (quiet-lawful hs i w l).well_formed.count come.at) ∙ at)))

    same-times : y.state.timing ≡ heard.timing
    same-times = ap (λ (z : NodeState). z.timing) come.is ∙ come.ticks.timing

    -- it counts as a node that has heard, and ticks
    abbrev first : PortNode
    first = record { state = heard; coins = come.node.coins; clock = come.node.clock }

    stood : beat come.node ≡ None → y.state.view.timer ≡ heard.view.timer
    stood none = ap (λ (z : NodeState). z.view.timer) come.is ∙ ap (λ b. (on_beat b heard).state.view.timer) none

    began : HasTicked 1 y
    began = ticked 0 first y
        (omega (arith, ap (λ (z : Timing). z.long) come.hears.timing, (some-long i k come.node come.at).0, (some-long i k come.node come.at).1))
        (subst (λ (z : Timing). KeepsTime w.longest z come.node.clock) (sym come.hears.timing) (keeps i k come.node come.at))
        same-times clock-is
        (λ missed. some-slack hs w l i k (record { node = come.node; at = come.at; missed = missed }))
        (elim rises [
          | inl none ↦ inl (beat-misses come.node none, stood none)
          | inr one ↦ inr (ap (λ (z : NodeState). z.view.timer) come.is ∙ one)
        ])
        (inl (omega arith))

  -- whoever is in R0 has been there since all were
  risen :
      (b : ℕ) →
      ((k : ℕ) (x : PortNode) → Holds set k → slice_get (quiet_after hs reached w).nodes k ≡ Some x →
      is_resetting x.state.view.phase ≡ true → HasTicked b x) →
      (j k : ℕ) (x : PortNode) → Holds set k →
      slice_get (quiet_after hs (reached + j) w).nodes k ≡ Some x →
      is_resetting x.state.view.phase ≡ true → HasTicked (b + j) x
  risen b base zero k x h at r =
      let z : b + 0 ≡ b = omega arith in
      let y : reached + 0 ≡ reached = omega arith in
      subst (λ n. HasTicked n x) (sym z) (base k x h (subst (λ n. slice_get (quiet_after hs n w).nodes k ≡ Some x) y at) r)
  risen b base (suc j) k y h at r = go (risen b base j k)
    where
      v : CableWorld
      v = quiet_after hs (reached + j) w

      step : quiet_after hs (reached + suc j) w
          ≡ with_holds (hs (reached + j + 1)) (turn (quiet_after hs (reached + j) w))
      step = let z : reached + suc j ≡ reached + j + 1 = omega arith in ap (λ n. quiet_after hs n w) z ∙ one-quiet hs (reached + j) w

      at-turn : slice_get (turn (quiet_after hs (reached + j) w)).nodes k ≡ Some y
      at-turn = ap (λ (u : CableWorld). slice_get u.nodes k) (sym step) ∙ at

      t : Turned (quiet_after hs (reached + j) w) k y
      t = turned (quiet_after hs (reached + j) w) (quiet-lawful hs (reached + j) w l) k y at-turn

      was : (b : Bool) → is_resetting t.node.state.view.phase ≡ b → b ≡ true
      was true e = refl
      was false e = elim (cases_lt (reached + j) (64 * w.delay)) [
        | inl soon ↦ (let low : reached ≤ reached + j = omega arith in sym e ∙ (all-reset hs w l node set comp fresh (reached + j) low soon k t.node h t.at).0)
        | inr later ↦
            absurd (true≢false (sym r ∙ steady hs w l (reached + j) (omega (arith, later, spread-most hs w l node set comp fresh)) k t.node y t.at
            (ap (λ (u : CableWorld). slice_get u.nodes k) (one-quiet hs (reached + j) w) ∙ at-turn) e))
      ]

      go :
          ((x : PortNode) → Holds set k →
          slice_get (quiet_after hs (reached + j) w).nodes k ≡ Some x →
          is_resetting x.state.view.phase ≡ true → HasTicked (b + j) x)
          → HasTicked (b + suc j) y
      go before =
          let there : is_resetting t.node.state.view.phase ≡ true = was (is_resetting t.node.state.view.phase) refl in
          let rises = in-turn-rises (quiet_after hs (reached + j) w) (quiet-lawful hs (reached + j) w l) k t.node y t.at at-turn there r in
          let long = some-long (reached + j) k t.node t.at in
          let z : b + j + 1 ≡ b + suc j = omega arith in
          subst (λ n. HasTicked n y) z
          (ticked (b + j) t.node y (omega (arith, long.0, long.1)) (keeps (reached + j) k t.node t.at)
          (ap (λ (z : NodeState). z.timing) t.is ∙ t.ticks.timing ∙ t.hears.timing) rises.1
          (λ missed. some-slack hs w l (reached + j) k (record { node = t.node; at = t.at; missed = missed }))
          (elim rises.0 [ inl m ↦ inl m | inr u ↦ inr u.0 ])
          (before t.node h t.at there))

  -- from 64 d turns on the timers of all that are in R0 are past d
  all-past :
      (i : ℕ) → 64 * w.delay ≤ i → (k : ℕ) (x : PortNode) → Holds set k →
      slice_get (quiet_after hs i w).nodes k ≡ Some x → is_resetting x.state.view.phase ≡ true →
      w.delay < x.state.view.timer
  all-past i old k x h at r = elim (cases_lt 0 reached) [
    | inl some ↦
        let z : reached + (i - reached) ≡ i = omega (arith, reached-is, old) in
        let one : reached ≡ reached - 1 + 1 = omega (arith, some) in
        past i (1 + (i - reached)) k x at (omega (arith, reached-is, old, l.well_formed.some_delay))
        (risen 1 (λ j y has there in-reset.
        began (reached - 1) (omega (arith, one, reached-is, l.well_formed.some_delay)) j y has
        (ap (λ (u : CableWorld). slice_get u.nodes j) (sym (one-quiet hs (reached - 1) w)) ∙ subst (λ n. slice_get (quiet_after hs n w).nodes j ≡ Some y) one there) in-reset)
        (i - reached) k x h (subst (λ n. slice_get (quiet_after hs n w).nodes k ≡ Some x) (sym z) at) r)
    | inr none ↦
        let z : reached + (i - reached) ≡ i = omega (arith, reached-is, old) in
        past i (0 + (i - reached)) k x at (omega (arith, none, old, l.well_formed.some_delay))
        (risen 0 (λ j y has there in-reset. inl (omega arith)) (i - reached) k x h (subst (λ n. slice_get (quiet_after hs n w).nodes k ≡ Some x) (sym z) at) r)
  ]

  -- once a node has left R0, those in R0 or before the tree have known of the reset for long
  known :
      (i : ℕ) → spread ≤ i → (k : ℕ) (x : PortNode) → Holds set k →
      slice_get (quiet_after hs i w).nodes k ≡ Some x → is_resetting x.state.view.phase ≡ false →
      (j : ℕ) (y : PortNode) → Holds set j → slice_get (quiet_after hs i w).nodes j ≡ Some y →
      is_before_tree y.state.view.phase ≡ true →
      is_reset_known (quiet_after hs i w).delay y.state ≡ true
  known i late k x h at out_x j y has at_y early = go (is_resetting y.state.view.phase) refl
    where
      before : reached ≤ i
      before = omega (arith, late, reached-below)
        where
          reached-below : reached ≤ spread
          reached-below = less (length w.nodes) w.delay (some-nodes w set fresh)
            where
              less : (n d : ℕ) → 1 ≤ n → (n - 1) * d ≤ n * d
              less zero d h = absurd (omega (arith, h))
              less (suc n) d h = let z : suc n - 1 ≡ n = omega arith in let p : suc n * d ≡ n * d + d = grind arith in rw z (omega (arith, p))

      old : 64 * w.delay ≤ i
      old = elim (cases_lt i (64 * w.delay)) [
        | inl soon ↦ absurd (true≢false (sym (all-reset hs w l node set comp fresh i before soon k x h at).0 ∙ out_x))
        | inr later ↦ omega (arith, later)
      ]

      go :
          (b : Bool) → is_resetting y.state.view.phase ≡ b →
          is_reset_known (quiet_after hs i w).delay y.state ≡ true
      go false e = between-known (quiet_after hs i w).delay y.state (outside y.state.view.phase early e)
      go true e =
          start-known y.state.view.phase (quiet_after hs i w).delay y.state.view.timer e (omega (arith, all-past i old j y has at_y e, after-delay hs w l i))

  -- ---- one turn

  -- the port of each node towards the one that waits
  abbrev pub way : ℕ → Option ℕ
  way = (up hs w l node set core comp is_core empty small fresh f alone can).0

  -- what is so of each node
  pub record Faces (i k : ℕ) (x : NodeState) : Type 0 where
    pub faces : is_before_tree x.view.phase ≡ false → x.view.parent ≡ way k
    pub calm : is_contending x.view.phase ≡ false

  abbrev AllFace : ℕ → Type 0
  AllFace i = (k : ℕ) (x : PortNode) → Holds set k → slice_get (quiet_after hs i w).nodes k ≡ Some x → Faces i k x.state

  module _ (i : ℕ) (past : spread ≤ i) (all : AllFace i) (k : ℕ) (x : PortNode) (h : Holds set k) (at : slice_get (quiet_after hs i w).nodes k ≡ Some x) (out_x : is_resetting x.state.view.phase ≡ false)
      (p : ℕ) (b : End) (e : far w.cabling (end_at k p) ≡ Some b) (ne : way b.node ≢ Some b.port) where
    abbrev v : CableWorld
    v = quiet_after hs i w

    m : IsLawful (quiet_after hs i w)
    m = quiet-lawful hs i w l

    cable : far (quiet_after hs i w).cabling (end_at k p) ≡ Some b
    cable = ap (λ (c : Wiring). far c (end_at k p)) (after-cabling hs i w) ∙ e

    back : far (quiet_after hs i w).cabling b ≡ Some (end_at k p)
    back = m.well_formed.cabling.both_ways (end_at k p) b cable

    has : Holds set b.node
    has = comp.closed (end_at k p) b e h

    abbrev y : PortNode
    y = (joined-of (quiet_after hs i w) b (end_at k p) (quiet-lawful hs i w l).well_formed back).near

    at_y : slice_get (quiet_after hs i w).nodes b.node ≡ Some y
    at_y = (joined-of (quiet_after hs i w) b (end_at k p) (quiet-lawful hs i w l).well_formed back).near_at

    from_y :
        Coupling (quiet_after hs i w).delay y.state b.port (wire_of (quiet_after hs i w) b).signals x.state p (wire_of (quiet_after hs i w) (end_at k p)).signals
    from_y = m.coupled.cables b (end_at k p) y x back at_y at

    from_x :
        Coupling (quiet_after hs i w).delay x.state p (wire_of (quiet_after hs i w) (end_at k p)).signals y.state b.port (wire_of (quiet_after hs i w) b).signals
    from_x = m.coupled.cables (end_at k p) b x y cable at at_y

    none-comes : has_reset (signals_of (wire_of (quiet_after hs i w) (end_at k p)).signals) ≡ false
    none-comes = go (has_reset (signals_of (wire_of (quiet_after hs i w) (end_at k p)).signals)) refl
      where
        go :
            (r : Bool) → has_reset (signals_of (wire_of (quiet_after hs i w) (end_at k p)).signals)
            ≡ r → r ≡ false
        go false g = refl
        go true g = contrary (from_x.reset g) out_x

    -- the node up the way neither tells Parent nor is shown to
    both :
        (is_parent (level_sent_at y.state b.port) ≡ false)
        × (is_parent (level_shown x.state p) ≡ false)
    both = go (is_before_tree y.state.view.phase) refl
      where
        go :
            (c : Bool) → is_before_tree y.state.view.phase ≡ c →
            (is_parent (level_sent_at y.state b.port) ≡ false)
            × (is_parent (level_shown x.state p) ≡ false)
        go true g = (
          early-tells y.state.view.phase (leads_down y.state.view.ports b.port) g,
          low-unasked (level_shown x.state p) (from_y.no_notice (known i past k x h at out_x b.node y has at_y g)).0,
        )
        go false g =
            let faced : y.state.view.parent ≡ way b.node = (all b.node y has at_y).faces g in
            let other : is_port y.state.view.parent b.port ≡ false = port-is-not y.state.view.parent b.port (λ s. ne (sym faced ∙ s)) in
            let child : leads_down y.state.view.ports b.port ≡ true =
            child-if y.state.view.parent y.state.view.ports b.port (late-roles y.state (m.well_formed.nodes b.node y at_y).valid g) (cable-connected v b (end_at k p) y m.well_formed back at_y) ∙ ap not other in
            (late-tells y.state.view.phase (leads_down y.state.view.ports b.port) g child, (from_y.child child none-comes).1)

    -- so the port shows no Parent before the clock ticks
    heard-unasked : is_parent (level_shown (heard_by (quiet_after hs i w) k x) p) ≡ false
    heard-unasked =
        ap is_parent ((hears v k x m.well_formed at).shown p (cable-connected v (end_at k p) b x m.well_formed cable at) ∙ ap (level_after (level_shown x.state p)) (comes v b (end_at k p) cable))
        ∙ go (gives v.delay (age_wire (wire_of v b)))
      where
        level :
            level_after (level_shown x.state p) (signals_of (wire_of (quiet_after hs i w) b).signals)
            ≡ level_sent_at y.state b.port
        level = m.agrees.levels b (end_at k p) y x back at_y at

        go :
            (g : Bool) →
            is_parent (level_after (level_shown x.state p) (if g then signals_of (wire_of (quiet_after hs i w) b).signals else []))
            ≡ false
        go true = ap is_parent level ∙ both.0
        go false = both.1

    on : is_connected (heard_by (quiet_after hs i w) k x).view.ports p ≡ true
    on = (hears v k x m.well_formed at).cables p ∙ cable-connected v (end_at k p) b x m.well_formed cable at

  -- the way up of a node leads to one whose way up isn't there
  way-leads :
      (k p : ℕ) → Holds set k → way k ≡ Some p → (b : End) × (far w.cabling (end_at k p) ≡ Some b)
      × (way b.node ≢ Some b.port)
  way-leads k p h e = elim (cases_eq k f) [
    | inl same ↦ (let none : None ≡ Some p = sym (ap way same ∙ (up hs w l node set core comp is_core empty small fresh f alone can).1.ups.none) ∙ e in absurd cc)
    | inr other ↦
        let u : LeadsUp w.cabling way k = (up hs w l node set core comp is_core empty small fresh f alone can).1.ups.others k h other in
        let same : u.port ≡ p = some-same u.port p (sym u.is ∙ e) in
        (u.end, ap (λ q. far w.cabling (end_at k q)) (sym same) ∙ u.joined, u.child)
  ]

  unasked-at :
      (x : NodeState) (p : ℕ) → is_parent (level_shown x p) ≡ false →
      port_is (λ q. is_parent q.shown) x.view.ports p ≡ false
  unasked-at x p s = go (slice_get x.view.ports p) s
    where
      go :
          (o : Option PortView) → is_parent (shown_or_idle o) ≡ false →
          passes (λ q. is_parent q.shown) o ≡ false
      go None s = refl
      go (Some q) s = s

  -- the node that waits gets no parent port
  alone-parentless :
      (i : ℕ) (y : PortNode) → spread ≤ i → slice_get (quiet_after hs i w).nodes f ≡ Some y →
      is_before_tree y.state.view.phase ≡ false → y.state.view.parent ≡ None
  alone-parentless i y past at g = elim (cases_lt i (w.longest.hold + 127 * seen_turns w + 1)) [
    | inl soon ↦
        let z : i ≡ spread + (i - spread) = omega (arith, past) in
        (waiting hs w l node set comp fresh (i - spread) f y can (omega (arith, soon, past)) alone.holds alone.waits (subst (λ n. slice_get (quiet_after hs n w).nodes f ≡ Some y) z at)).late g
    | inr later ↦
        let most : enough hs w l node set core comp is_core empty small fresh f alone can ≤ i = omega (arith, later, spread-most hs w l node set comp fresh, seen-most hs w l node set comp fresh) in
        let z : i ≡ enough hs w l node set core comp is_core empty small fresh f alone can + (i - enough hs w l node set core comp is_core empty small fresh f alone can) = omega (arith, most) in
        parentless hs w l node set core comp is_core empty small fresh f alone can (i - enough hs w l node set core comp is_core empty small fresh f alone can) y (subst (λ n. slice_get (quiet_after hs n w).nodes f ≡ Some y) z at)
  ]

  module _
      (i : ℕ) (past : spread ≤ i) (all : AllFace i) (k : ℕ) (y : PortNode) (h : Holds set k)
      (at : slice_get (quiet_after hs (i + 1) w).nodes k ≡ Some y) where
    abbrev c : Calmly (quiet_after hs i w) k y.state
    c = steadily hs w l i past k y at

    abbrev now : NodeState
    now = heard_by (quiet_after hs i w) k (steadily hs w l i past k y at).node

    out-of : is_before_tree now.view.phase ≡ false → is_resetting c.node.state.view.phase ≡ false
    out-of g = late-start c.node.state.view.phase (ap is_before_tree (sym c.heard.phase) ∙ g)

    unasked : Unasked (way k) now
    unasked g = (
      c.heard.parent ∙ (all k c.node h c.at).faces (ap is_before_tree (sym c.heard.phase) ∙ g),
      (λ p e. let b = way-leads k p h e in unasked-at now p (heard-unasked i past all k c.node h c.at (out-of g) p b.0 b.1 b.2)),
    )

    calms : Calms (coin_of (beat c.node)) now (on_beat (beat c.node) now).state
    calms = beat-tick-calms (beat c.node) now (way k) (ap is_contending c.heard.phase ∙ (all k c.node h c.at).calm) unasked

    faces-next : is_before_tree y.state.view.phase ≡ false → y.state.view.parent ≡ way k
    faces-next g = go (is_before_tree now.view.phase) refl
      where
        taken : is_before_tree now.view.phase ≡ true → k ≢ f → y.state.view.parent ≡ way k
        taken e other =
            let takes : Takes now (on_beat (beat c.node) now).state = beat-tick-takes (beat c.node) now e (sym (ap (λ (z : NodeState). is_before_tree z.view.phase) c.is) ∙ g) in
            let u : LeadsUp w.cabling way k = (up hs w l node set core comp is_core empty small fresh f alone can).1.ups.others k h other in
            let out_x : is_resetting c.node.state.view.phase ≡ false = ap is_resetting (sym c.heard.phase ∙ takes.start) in
            let quiet : is_parent (level_shown now u.port) ≡ false = heard-unasked i past all k c.node h c.at out_x u.port u.end u.joined u.child in
            let left : is_port (lowest is_remaining now.view.ports) u.port ≡ true = left-parent (raise_timer now) u.port takes.decided (on i past all k c.node h c.at out_x u.port u.end u.joined u.child) quiet in
            ap (λ (z : NodeState). z.view.parent) c.is ∙ takes.parent ∙ port-is (lowest is_remaining now.view.ports) u.port left ∙ sym u.is

        go : (b : Bool) → is_before_tree now.view.phase ≡ b → y.state.view.parent ≡ way k
        go false e = ap (λ (z : NodeState). z.view.parent) c.is ∙ calms.parent e ∙ (unasked e).0
        go true e = elim (cases_eq k f) [
          | inl same ↦
              let late : spread ≤ i + 1 = omega (arith, past) in
              alone-parentless (i + 1) y late (subst (λ j. slice_get (quiet_after hs (i + 1) w).nodes j ≡ Some y) same at) g
              ∙ sym (ap way same ∙ (up hs w l node set core comp is_core empty small fresh f alone can).1.ups.none)
          | inr other ↦ taken e other
        ]

    face-next : Faces (i + 1) k y.state
    face-next = record { faces = faces-next; calm = ap (λ (z : NodeState). is_contending z.view.phase) c.is ∙ calms.calm }

    -- and it draws no coin
    undrawn-next : y.state.view.draws ≡ c.node.state.view.draws
    undrawn-next = ap (λ (z : NodeState). z.view.draws) c.is ∙ calms.draws ∙ (kept-heard (signals (quiet_after hs i w) k) c.node.state (ap is_resetting c.heard.phase)).1

  -- ---- many turns

  all-face : (j : ℕ) → AllFace (spread + j)
  all-face zero k x h at = record { faces = λ g. contrary (start-before_tree x.state.view.phase there) g; calm = start-calm x.state.view.phase there }
    where
      z : spread + 0 ≡ spread
      z = omega arith

      below : (n d : ℕ) → 1 ≤ n → (n - 1) * d ≤ n * d
      below zero d h = absurd (omega (arith, h))
      below (suc n) d h = let z : suc n - 1 ≡ n = omega arith in let p : suc n * d ≡ n * d + d = grind arith in rw z (omega (arith, p))

      there : is_resetting x.state.view.phase ≡ true
      there =
          (all-reset hs w l node set comp fresh spread (below (length w.nodes) w.delay (some-nodes w set fresh)) (omega (arith, spread-most hs w l node set comp fresh, l.well_formed.some_delay)) k x h
          (subst (λ n. slice_get (quiet_after hs n w).nodes k ≡ Some x) z at)).0
  all-face (suc j) k x h at =
      let z : spread + suc j ≡ spread + j + 1 = omega arith in
      let past : spread ≤ spread + j = omega arith in
      let q = face-next (spread + j) past (all-face j) k x h (subst (λ n. slice_get (quiet_after hs n w).nodes k ≡ Some x) z at) in
      record { faces = q.faces; calm = q.calm }

  at-all : (i : ℕ) → spread ≤ i → AllFace i
  at-all i past = let z : spread + (i - spread) ≡ i = omega (arith, past) in subst AllFace z (all-face (i - spread))

  pub faces-up :
      (i k : ℕ) (x : PortNode) → length w.nodes * w.delay ≤ i → Holds set k →
      slice_get (quiet_after hs i w).nodes k ≡ Some x → is_before_tree x.state.view.phase ≡ false →
      x.state.view.parent ≡ (up hs w l node set core comp is_core empty small fresh f alone can).0 k
  faces-up i k x past h at g = (at-all i past k x h at).faces g

  pub no-draws :
      (i k : ℕ) (x y : PortNode) → length w.nodes * w.delay ≤ i → Holds set k →
      slice_get (quiet_after hs i w).nodes k ≡ Some x →
      slice_get (quiet_after hs (i + 1) w).nodes k ≡ Some y →
      y.state.view.draws ≡ x.state.view.draws
  no-draws i k x y past h at_x at =
      let q : Calmly (quiet_after hs i w) k y.state = steadily hs w l i past k y at in
      undrawn-next i past (at-all i past) k y h at ∙ ap (λ (u : PortNode). u.state.view.draws) (some-same q.node x (sym q.at ∙ at_x))
