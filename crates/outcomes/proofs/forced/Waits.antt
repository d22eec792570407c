-- A node of a fresh component that waits to become root: it comes to T0 after its hold at the
-- earliest, and so takes a parent port in none of the first turns, as many as its hold and its force
-- time together.
use Rattle.std.proofs.Math.Nat.{mul-le-mul_left}
use Rattle.std.proofs.Common.{◌≡◌, inl, inr, ℕ, zero, suc, ◌+◌, ◌-◌, ◌*◌, ◌<◌, ◌≤◌, Bool, true, false, Option, Some, None, length, min, slice_get, if◌then◌else◌, refl, sym, ◌∙◌, ap, subst, arith, true≢false}
use Rattle.std.proofs.lemmas.Bool.{eq-eqb}
use Rattle.outcomes.proofs.Common.{contrary, Phase, NodeState, Timing, is_port, is_resetting, raise_timer, PortNode, Holds, IsComponent, CableWorld, turn, is_before_tree, is_after_hold, IsLawful, IsFresh, AtView, in-turn, after-delay, some-of, some-same, risen, one-quiet, quiet-lawful, HoldSchedule, quiet_after, waits_due, gap_due, Calmly, signals, heard_by, parent-was}
use Rattle.port_state.specs.declared.signal.Phase.TheVariants as phase
use Rattle.cable_world.specs.Times.{Suits, CanBeForced}
use Rattle.outcomes.specs.Forced.{CanBeForcedAt}
use Rattle.port_state.specs.declared.view.View.{View}
use Rattle.cable_world.specs.Phases.{is_timed}
use Rattle.cable_world.specs.Run.{IsReached}
use Rattle.convergence.specs.Turns.{seen_turns}
use Rattle.cable_world.proofs.Lemmas.{quiet-timed, reached-runs, steady}
use Rattle.convergence.proofs.Lemmas.{late-start}
use Rattle.outcomes.proofs.forced.Forced.{SameDue, due-heard, kept-heard, beat-tick-holds, Takes, beat-tick-takes, waits-parentless}
use Rattle.outcomes.proofs.forced.Spread.{Turned, turned, spreads, all-reset}
use Rattle.port_state.specs.Machine.{beat, on_beat}

-- a phase is up to T0 or past it; up to T0 it is R0, or R1 or T0
pub outside :
    (p : Phase) → is_before_tree p ≡ true → is_resetting p ≡ false → is_after_hold p ≡ true
outside p h g = grind arith

between-out : (p : Phase) → is_after_hold p ≡ true → is_resetting p ≡ false
between-out p h = grind arith

tree-between : (p : Phase) → p ≡ phase.TreeStart → is_after_hold p ≡ true
tree-between p h = rw h refl

tree-timed : (p : Phase) → p ≡ phase.TreeStart → is_timed p ≡ true
tree-timed p h = rw h refl

-- a world that runs gives each node time enough to be forced
pub reached-enough : (w : CableWorld) (k : ℕ) → IsReached w → CanBeForcedAt w k
reached-enough w k r x at = (reached-runs w r).forced k x at

-- ---- turns after the last entry

module _
    (hs : HoldSchedule) (w : CableWorld) (l : IsLawful w) (i : ℕ) (late : length w.nodes * w.delay ≤ i) (k : ℕ)
    (y : PortNode) (at : slice_get (quiet_after hs (i + 1) w).nodes k ≡ Some y) where
  abbrev u : CableWorld
  u = quiet_after hs i w

  m : IsLawful (quiet_after hs i w)
  m = quiet-lawful hs i w l

  at-turn : slice_get (turn (quiet_after hs i w)).nodes k ≡ Some y
  at-turn = ap (λ (z : CableWorld). slice_get z.nodes k) (sym (one-quiet hs i w)) ∙ at

  t : Turned (quiet_after hs i w) k y
  t = turned (quiet_after hs i w) (quiet-lawful hs i w l) k y (ap (λ (z : CableWorld). slice_get z.nodes k) (sym (one-quiet hs i w)) ∙ at)

  -- whoever is out of R0 stays out of it
  out-stays :
      (x : PortNode) → slice_get (quiet_after hs i w).nodes k ≡ Some x →
      is_resetting x.state.view.phase ≡ false → is_resetting y.state.view.phase ≡ false
  out-stays x at_x = steady hs w l i late k x y at_x at

  -- so no node hears of a reset
  pub steadily : Calmly (quiet_after hs i w) k y.state
  steadily = record {
    node = t.node;
    at = t.at;
    hears = t.hears;
    ticks = t.ticks;
    heard = elim t.hears.cases [
      | inl s ↦ s
      | inr c ↦ absurd (true≢false (sym
          (ap (λ (z : NodeState). is_resetting z.view.phase) t.is
          ∙ (t.ticks.holds (ap is_resetting c.phase) (omega (arith, c.timer, hold-least, m.well_formed.some_delay)) hold-most).0)
          ∙ out-stays t.node t.at c.before))
    ];
    is = t.is;
  }
    where
      hold-least : 64 * u.delay ≤ (heard_by u k t.node).timing.hold
      hold-least = omega (arith, ap (λ (z : Timing). z.hold) t.hears.timing, (m.well_formed.nodes k t.node t.at).timing.hold_least)

      hold-most : (heard_by u k t.node).timing.hold ≤ 65535
      hold-most = omega (arith, ap (λ (z : Timing). z.hold) t.hears.timing, (m.well_formed.nodes k t.node t.at).timing.hold_most, (m.well_formed.nodes k t.node t.at).timing.counted.hold)

  -- and whether a node waits stays, and its gap count
  pub force-stays :
      (y.state.view.force ≡ steadily.node.state.view.force)
      × (y.state.view.gap ≡ steadily.node.state.view.gap)
  force-stays =
      let t = beat-tick-holds (beat steadily.node) (heard_by u k steadily.node) in
      let h = kept-heard (signals u k) steadily.node.state (ap is_resetting steadily.heard.phase) in
      (ap (λ (z : NodeState). z.view.force) steadily.is ∙ t.0 ∙ h.0, ap (λ (z : NodeState). z.view.gap) steadily.is ∙ t.2 ∙ h.2)

-- ---- a node that waits

-- after so many turns of a fresh component
pub record Waiting (i : ℕ) (x : NodeState) : Type 0 where
  pub waits : x.view.force ≡ true
  pub start : is_resetting x.view.phase ≡ true → x.view.timer ≤ i
  pub between : is_after_hold x.view.phase ≡ true → x.timing.hold ≤ i
  pub tree : x.view.phase ≡ phase.TreeStart → x.view.timer + x.timing.hold ≤ i
  pub late : is_before_tree x.view.phase ≡ false → x.view.parent ≡ None

no-port : (o : Option ℕ) → ((k : ℕ) → is_port o k ≡ true → ⊥) → o ≡ None
no-port None h = refl
no-port (Some p) h = absurd (h p (eq-eqb p p refl))

module _
    (hs : HoldSchedule) (w : CableWorld) (l : IsLawful w) (i : ℕ) (late : length w.nodes * w.delay ≤ i) (k : ℕ)
    (y : PortNode) (at : slice_get (quiet_after hs (i + 1) w).nodes k ≡ Some y) where
  abbrev v : CableWorld
  v = quiet_after hs i w

  abbrev pub c : Calmly (quiet_after hs i w) k y.state
  c = steadily hs w l i late k y at

  abbrev now : NodeState
  now = heard_by (quiet_after hs i w) k (steadily hs w l i late k y at).node

  -- a node past T0 gets no parent port
  pub late-parentless :
      is_before_tree c.node.state.view.phase ≡ false → c.node.state.view.parent ≡ None →
      y.state.view.parent ≡ None
  late-parentless past none = no-port y.state.view.parent (λ p h. elim (parent-was (beat c.node) now p (sym (ap (λ (z : NodeState). is_port z.view.parent p) c.is) ∙ h)) [
    | inl was ↦ contrary was (ap (λ o. is_port o p) (c.heard.parent ∙ none))
    | inr start ↦ contrary (ap is_before_tree (sym c.heard.phase ∙ start)) past
  ])

  module _ (q : Waiting i c.node.state) (can : CanBeForcedAt w k) (soon : i + 1 ≤ w.longest.hold + 127 * seen_turns w) where
    same-hold : y.state.timing.hold ≡ c.node.state.timing.hold
    same-hold = ap (λ (z : NodeState). z.timing.hold) c.is ∙ ap (λ (z : Timing). z.hold) (c.ticks.timing ∙ c.hears.timing)

    between-next : is_after_hold y.state.view.phase ≡ true → y.state.timing.hold ≤ i + 1
    between-next h = elim (c.ticks.between (sym (ap (λ (z : NodeState). is_after_hold z.view.phase) c.is) ∙ h)) [
      | inl was ↦ omega (arith, q.between (sym (ap is_after_hold c.heard.phase) ∙ was), same-hold)
      | inr left ↦
          let hold : y.state.timing.hold ≤ now.timing.hold = omega (arith, ap (λ (z : Timing). z.hold) c.hears.timing, same-hold) in
          up y.state.timing.hold now.timing.hold now.view.timer i hold left.1 (omega (arith, q.start (sym (ap is_resetting c.heard.phase) ∙ left.0), c.heard.timer))
    ]
      where
        up : (a h t i : ℕ) → a ≤ h → h ≤ risen t → t ≤ i → a ≤ i + 1
        up a h t i b r s = omega (arith, b, r, s)

    tree-next : y.state.view.phase ≡ phase.TreeStart → y.state.view.timer + y.state.timing.hold ≤ i + 1
    tree-next h = elim (c.ticks.timed (sym (ap (λ (z : NodeState). is_timed z.view.phase) c.is) ∙ tree-timed y.state.view.phase h)) [
      | inl same ↦
          let was : c.node.state.view.timer + c.node.state.timing.hold ≤ i = q.tree (sym c.heard.phase ∙ sym same.0 ∙ sym (ap (λ (z : NodeState). z.view.phase) c.is) ∙ h) in
          omega (arith, same-hold, up y.state.view.timer now.view.timer c.node.state.view.timer c.node.state.timing.hold i (omega (arith, ap (λ (z : NodeState). z.view.timer) c.is, same.1)) c.heard.timer was)
      | inr none ↦ omega (arith, ap (λ (z : NodeState). z.view.timer) c.is, none, between-next (tree-between y.state.view.phase h))
    ]
      where
        up : (a b c e i : ℕ) → a ≤ b + 1 → b ≡ c → c + e ≤ i → a + e ≤ i + 1
        up a b c e i h g f = omega (arith, h, g, f)

    late-next : is_before_tree y.state.view.phase ≡ false → y.state.view.parent ≡ None
    late-next h = go (is_before_tree c.node.state.view.phase) refl
      where
        go : (b : Bool) → is_before_tree c.node.state.view.phase ≡ b → y.state.view.parent ≡ None
        go false e = late-parentless e (q.late e)
        go true e =
            let takes : Takes now (on_beat (beat c.node) now).state = beat-tick-takes (beat c.node) now (ap is_before_tree c.heard.phase ∙ e) (sym (ap (λ (z : NodeState). is_before_tree z.view.phase) c.is) ∙ h) in
            let timer : c.node.state.view.timer + c.node.state.timing.hold ≤ i = q.tree (sym c.heard.phase ∙ takes.start) in
            let time : CanBeForced (seen_turns w) w.longest c.node.state.timing =
            quiet-timed (λ j t c. j ≡ k → CanBeForced (seen_turns w) w.longest t) hs i w (λ j t c p. p) l (λ j x at_j same. can x (subst (λ n. slice_get w.nodes n ≡ Some x) same at_j)) k c.node c.at refl in
            let force : w.longest.hold + 127 * seen_turns w < c.node.state.timing.hold + now.timing.force = omega (arith, time.enough, ap (λ (z : Timing). z.force) c.hears.timing) in
            let waits : now.view.force ≡ true = (kept-heard (signals v k) c.node.state (ap is_resetting c.heard.phase)).0 ∙ q.waits in
            ap (λ (z : NodeState). z.view.parent) c.is ∙ takes.parent
            ∙ waits-parentless (raise_timer now) takes.decided waits (low now.view.timer c.node.state.view.timer c.node.state.timing.hold i now.timing.force (w.longest.hold + 127 * seen_turns w) c.heard.timer timer force soon)
          where
            low :
                (a b c i f n : ℕ) → a ≡ b → b + c ≤ i → n < c + f → i + 1 ≤ n →
                min (a + 1) 65535 < f
            low a b c i f n h g e s = omega (arith, h, g, e, s)

    pub waits-on : Waiting (i + 1) y.state
    waits-on = record {
      waits = (force-stays hs w l i late k y at).0 ∙ q.waits;
      start = λ h.
          let was : is_resetting c.node.state.view.phase ≡ true = back (is_resetting c.node.state.view.phase) refl h in
          omega (arith, (in-turn v (quiet-lawful hs i w l) k c.node y c.at (at-turn hs w l i late k y at)).rises was h, q.start was);
      between = between-next;
      tree = tree-next;
      late = late-next;
    }
      where
        back :
            (b : Bool) → is_resetting c.node.state.view.phase ≡ b →
            is_resetting y.state.view.phase ≡ true → b ≡ true
        back true e h = refl
        back false e h = contrary h (out-stays hs w l i late k y at c.node c.at e)

-- ---- from a fresh component

module _
    (hs : HoldSchedule) (w : CableWorld) (l : IsLawful w) (node set : ℕ) (comp : IsComponent w.cabling node set)
    (fresh : IsFresh w set) where
  abbrev later : ℕ → CableWorld
  later i = quiet_after hs i w

  -- until n d turns are done each node has, or will take over, what it would at the start
  abbrev Due : CableWorld → ℕ → PortNode → Type 0
  Due v k s = (x : PortNode) → slice_get v.nodes k ≡ Some x → SameDue x.state s.state

  due-turn :
      (i k : ℕ) (s : PortNode) → i + 1 < 64 * w.delay → Holds set k → Due (later i) k s →
      Due (turn (later i)) k s
  due-turn i k s soon h due y at =
      let f = beat-tick-holds (beat t.node) x in
      let heard = due-heard (signals (later i) k) t.node.state in
      let was = due t.node t.at in
      let same = same-due x.view (on_beat (beat t.node) x).state.view (stays (is_resetting x.view.phase) refl) f.0 f.1 f.2 f.3 in (
        ap (λ (z : NodeState). waits_due z.view) t.is ∙ same.0 ∙ heard.0 ∙ was.0,
        ap (λ (z : NodeState). gap_due z.view) t.is ∙ same.1 ∙ heard.1 ∙ was.1,
      )
    where
      t : Turned (later i) k y
      t = turned (later i) (quiet-lawful hs i w l) k y at

      x : NodeState
      x = heard_by (later i) k t.node

      timer :
          is_resetting (heard_by (later i) k t.node).view.phase ≡ true →
          (heard_by (later i) k t.node).view.timer ≤ i
      timer r = elim t.hears.cases [
        | inl s ↦ omega (arith, s.timer, (spreads hs w l node set comp fresh i (omega (arith, soon))).timers k t.node h t.at (sym (ap is_resetting s.phase) ∙ r))
        | inr s ↦ omega (arith, s.timer)
      ]

      stays :
          (c : Bool) → is_resetting (heard_by (later i) k t.node).view.phase ≡ c →
          is_resetting (on_beat (beat t.node) (heard_by (later i) k t.node)).state.view.phase
          ≡ c
      stays false e = t.ticks.out e
      stays true e = (t.ticks.holds e (omega (arith, timer e, hold-least, soon)) hold-most).0
        where
          fits : Suits (later i).delay (later i).longest t.node.state.timing
          fits = ((quiet-lawful hs i w l).well_formed.nodes k t.node t.at).timing

          hold-least : 64 * w.delay ≤ (heard_by (later i) k t.node).timing.hold
          hold-least = omega (arith, ap (λ (z : Timing). z.hold) t.hears.timing, fits.hold_least, after-delay hs w l i)

          hold-most : (heard_by (later i) k t.node).timing.hold ≤ 65535
          hold-most = omega (arith, ap (λ (z : Timing). z.hold) t.hears.timing, fits.hold_most, fits.counted.hold)

      same-due :
          (x y : View) → is_resetting y.phase ≡ is_resetting x.phase → y.force ≡ x.force →
          y.next_force ≡ x.next_force → y.gap ≡ x.gap → y.next_gap ≡ x.next_gap →
          (waits_due y ≡ waits_due x) × (gap_due y ≡ gap_due x)
      same-due x y e a b c d = (rw (e, a, b) refl, rw (e, c, d) refl)

  dues :
      (i k : ℕ) (s : PortNode) → i < 64 * w.delay → Holds set k → slice_get w.nodes k ≡ Some s →
      Due (later i) k s
  unfolding quiet_after
  dues zero k s soon h at_s = λ x at.
      let same : s ≡ x = some-same s x (sym at_s ∙ at) in (
        ap (λ (z : PortNode). waits_due z.state.view) (sym same),
        ap (λ (z : PortNode). gap_due z.state.view) (sym same),
      )
  dues (suc i) k s soon h at_s =
      due-turn i k s (omega (arith, soon)) h (dues i k s (omega (arith, soon)) h at_s)

  -- ---- from n d turns on

  abbrev pub spread : ℕ
  spread = length w.nodes * w.delay

  few : length w.nodes ≤ 63
  few = omega (arith, l.well_formed.count, l.well_formed.cabling.few_nodes)

  pub spread-most : spread ≤ 63 * w.delay
  spread-most = room (length w.nodes) w.delay (mul-le-mul_left w.delay few)
    where
      room : (n d : ℕ) → d * n ≤ d * 63 → n * d ≤ 63 * d
      room n d h = grind (arith, h)

  -- and so is what is seen by one node after the other
  pub seen-most : length w.nodes * seen_turns w ≤ 63 * seen_turns w
  seen-most = room (length w.nodes) (seen_turns w) (mul-le-mul_left (seen_turns w) few)
    where
      room : (n d : ℕ) → d * n ≤ d * 63 → n * d ≤ 63 * d
      room n d h = grind (arith, h)

  in-time : spread < 64 * w.delay
  in-time = omega (arith, spread-most, l.well_formed.some_delay)

  spread-after : (length w.nodes - 1) * w.delay ≤ spread
  spread-after = room w.delay (mul-le-mul_left w.delay less)
    where
      less : length w.nodes - 1 ≤ length w.nodes
      less = omega arith

      room :
          (d : ℕ) → d * (length w.nodes - 1) ≤ d * length w.nodes → (length w.nodes - 1)
          * d ≤ length w.nodes * d
      room d h = grind (arith, h)

  -- there all are in R0, and have what they take over
  -- (the first node is the one at the start)
  spread-due :
      (k : ℕ) (s x : PortNode) → Holds set k → slice_get w.nodes k ≡ Some s →
      slice_get (later spread).nodes k ≡ Some x →
      (x.state.view.force ≡ waits_due s.state.view) × (x.state.view.gap ≡ gap_due s.state.view)
  spread-due k s x h at_s at =
      let there = (all-reset hs w l node set comp fresh spread spread-after in-time k x h at).0 in
      let due = dues spread k s in-time h at_s x at in (
        ap (λ c. if c then x.state.view.force else x.state.view.next_force) (sym there) ∙ due.0,
        ap (λ c. if c then x.state.view.gap else x.state.view.next_gap) (sym there) ∙ due.1,
      )

  -- they have it from then on
  pub taken-over :
      (j k : ℕ) (s x : PortNode) → Holds set k → slice_get w.nodes k ≡ Some s →
      slice_get (later (spread + j)).nodes k ≡ Some x →
      (x.state.view.force ≡ waits_due s.state.view) × (x.state.view.gap ≡ gap_due s.state.view)
  taken-over zero k s x h at_s at = let z : spread + 0 ≡ spread = omega arith in spread-due k s x h at_s (subst (λ n. slice_get (later n).nodes k ≡ Some x) z at)
  taken-over (suc j) k s x h at_s at =
      let z : spread + suc j ≡ spread + j + 1 = omega arith in
      let late : spread ≤ spread + j = omega arith in
      let there : slice_get (later (spread + j + 1)).nodes k ≡ Some x = subst (λ n. slice_get (later n).nodes k ≡ Some x) z at in
      let q : Calmly (later (spread + j)) k x.state = steadily hs w l (spread + j) late k x there in
      let now = force-stays hs w l (spread + j) late k x there in
      let was = taken-over j k s q.node h at_s q.at in
      (now.0 ∙ was.0, now.1 ∙ was.1)

  pub taken-by :
      (j k : ℕ) (s x : PortNode) → spread ≤ j → Holds set k → slice_get w.nodes k ≡ Some s →
      slice_get (later j).nodes k ≡ Some x →
      (x.state.view.force ≡ waits_due s.state.view) × (x.state.view.gap ≡ gap_due s.state.view)
  taken-by j k s x late h at_s at =
      let z : j ≡ spread + (j - spread) = omega (arith, late) in
      taken-over (j - spread) k s x h at_s (subst (λ n. slice_get (later n).nodes k ≡ Some x) z at)

  pub forces :
      (j k : ℕ) (b : Bool) (x : PortNode) → Holds set k → AtView w k (λ v. waits_due v ≡ b) →
      slice_get (later (spread + j)).nodes k ≡ Some x → x.state.view.force ≡ b
  forces j k b x h due at = let s = some-of (slice_get w.nodes k) _ due in (taken-over j k s.0 x h s.1 at).0 ∙ s.2

  -- so a node that waits takes no parent port in these turns
  pub waiting :
      (j k : ℕ) (x : PortNode) → CanBeForcedAt w k → spread + j ≤ w.longest.hold + 127 * seen_turns w → Holds set k →
      AtView w k (λ v. waits_due v ≡ true) → slice_get (later (spread + j)).nodes k ≡ Some x →
      Waiting (spread + j) x.state
  waiting zero k x can soon h due at = record {
    waits = forces 0 k true x h due at;
    start = λ r. omega (arith, there.1);
    between = λ b. contrary there.0 (between-out x.state.view.phase b);
    tree = λ b. contrary there.0 (between-out x.state.view.phase (tree-between x.state.view.phase b));
    late = λ b. contrary there.0 (late-start x.state.view.phase b);
  }
    where
      z : spread + 0 ≡ spread
      z = omega arith

      there : (is_resetting x.state.view.phase ≡ true) × (x.state.view.timer ≤ spread)
      there = all-reset hs w l node set comp fresh spread spread-after in-time k x h (subst (λ n. slice_get (later n).nodes k ≡ Some x) z at)
  waiting (suc j) k x can soon h due at =
      let z : spread + suc j ≡ spread + j + 1 = omega arith in
      let late : spread ≤ spread + j = omega arith in
      let there : slice_get (later (spread + j + 1)).nodes k ≡ Some x = subst (λ n. slice_get (later n).nodes k ≡ Some x) z at in
      let q : Calmly (later (spread + j)) k x.state = steadily hs w l (spread + j) late k x there in
      subst (λ n. Waiting n x.state) (sym z)
      (waits-on hs w l (spread + j) late k x there (waiting j k q.node can (omega (arith, soon)) h due q.at) can (omega (arith, soon)))
