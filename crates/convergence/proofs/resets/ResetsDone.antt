-- In quiet turns nobody is in R0 or R1 any more, the longest hold and d turns after the last entry
-- at the latest.
use Rattle.std.proofs.Common.{◌≡◌, ◌⊎◌, inl, inr, ℕ, zero, suc, ◌+◌, ◌-◌, ◌*◌, ◌<◌, ◌≤◌, Bool, true, false, not, ◌&&◌, ◌||◌, length, Option, Some, None, is_some, slice_get, refl, sym, ◌∙◌, ap, subst, arith, add-one, true≢false}
use Rattle.std.proofs.lemmas.Bool.{false_from_ne_true}
use Rattle.convergence.proofs.Common.{Phase, PortView, NodeState, Timing, beat, passes, port_is, is_connected, is_port, is_resetting, PortNode, IsValid, End, Wiring, far, end_at, CableWorld, wire_of, turn_at, turn, level_sent, level_shown, shown_or_idle, leads_down, level_sent_at, signals_of, has_reset, is_before_tree, is_in_bus_reset, is_shaking, is_asking, Coupling, IsLawful, node-after, some-same, before, steady, after-delay, child-if, cable-connected, late-roles, one-quiet, quiet-then, quiet-lawful, after-cabling, HoldSchedule, holds_after, with_holds, quiet_after, ResetsAreOver, NoneIn, ResetsAreDone, contrary}
use Rattle.port_state.specs.declared.signal.Phase.TheVariants as phase
use Rattle.port_state.specs.Resetting.{is_calm}
use Rattle.cable_world.specs.Phases.{is_after_hold}
use Rattle.cable_world.specs.Times.{Suits, KeepsTime}
use Rattle.port_state.specs.Clock.{clock_after, TicksFor}
use Rattle.port_state.proofs.Lemmas.{ticks-fewer}
use Rattle.cable_world.proofs.Lemmas.{after-longest, in-turn-rises, beat-misses, between-known, misses-slowly, steady-at}
use Rattle.convergence.proofs.turns.Clocks.{ticks-missed, misses-none}
use Rattle.convergence.specs.Turns.{slack, seen_turns}
use Rattle.convergence.proofs.turns.SlowTurns.{HasRun, run-on, run-over}
use Rattle.convergence.proofs.turns.TwoTurns.{Misses, slack-later, not-missed}
use Rattle.convergence.proofs.turns.Cables.{joined-of}
use Rattle.convergence.proofs.turns.CalmTurns.{Calmly, calmly, heard_by, waiting-before, done-calm}
use Rattle.convergence.proofs.turns.BeforeTree.{waits-for, every-from}
use Rattle.convergence.proofs.turns.Flush.{Tells, Shown, flush}

-- ---- holds end

-- with these holds no quiet turn makes a node enter R0
abbrev pub NoneEnters : HoldSchedule → CableWorld → Type 0
NoneEnters hs w =
    (i k : ℕ) (x y : PortNode) → slice_get (quiet_after hs i w).nodes k ≡ Some x →
    slice_get (quiet_after hs (i + 1) w).nodes k ≡ Some y → is_resetting x.state.view.phase ≡ false →
    is_resetting y.state.view.phase ≡ false

-- Its hold isn't over, once its clock has ticked.
abbrev IsUnder : ℕ → PortNode → Type 0
IsUnder n x = (x.state.view.timer < x.state.timing.hold) ⊎ ((n ≡ 0) ⊎ TicksFor 1 x.clock)

module _
    (hs : HoldSchedule) (w : CableWorld) (l : IsLawful w) (none : NoneEnters hs w) where
  abbrev later : ℕ → CableWorld
  later i = quiet_after hs i w

  lawful-then : (i : ℕ) → IsLawful (later i)
  lawful-then i = quiet-lawful hs i w l

  next : (i : ℕ) → with_holds (hs (i + 1)) (turn (later i)) ≡ later (suc i)
  next i = let z : i + 1 ≡ suc i = omega arith in sym (one-quiet hs i w) ∙ ap (λ n. later n) z

  -- each node in R0 has been there for so many turns
  abbrev Risen : ℕ → CableWorld → Type 0
  Risen n v = (k : ℕ) (x : PortNode) → slice_get v.nodes k ≡ Some x → is_resetting x.state.view.phase ≡ true → HasRun w.longest n x × IsUnder n x

  -- it was there before
  stayed :
      (i k : ℕ) (y : PortNode) → slice_get (turn (later i)).nodes k ≡ Some y →
      is_resetting y.state.view.phase ≡ true → (x : PortNode)
      × (slice_get (later i).nodes k ≡ Some x) × (is_resetting x.state.view.phase ≡ true)
  stayed i k y at there =
      let x = before (later i) k y (lawful-then i).well_formed at in
      (x.0, x.1, was x.0 x.1 (is_resetting x.0.state.view.phase) refl)
    where
      was :
          (x : PortNode) → slice_get (later i).nodes k ≡ Some x → (b : Bool) →
          is_resetting x.state.view.phase ≡ b → b ≡ true
      was x at_x true e = refl
      was x at_x false e =
          contrary there (none i k x y at_x (ap (λ (u : CableWorld). slice_get u.nodes k) (one-quiet hs i w) ∙ at) e)

  same-longest : (i : ℕ) → (later i).longest ≡ w.longest
  same-longest i = after-longest hs w l i

  some-long : (i k : ℕ) (x : PortNode) → slice_get (later i).nodes k ≡ Some x → 1 ≤ x.state.timing.long
  some-long i k x at =
      let fits : Suits (later i).delay (later i).longest x.state.timing = ((lawful-then i).well_formed.nodes k x at).timing in
      omega (arith, fits.long_least, fits.short_most, fits.short_least)

  keeps : (i k : ℕ) (x : PortNode) → slice_get (later i).nodes k ≡ Some x → KeepsTime w.longest x.state.timing x.clock
  keeps i k x at = subst (λ (t : Timing). KeepsTime t x.state.timing x.clock) (same-longest i) ((lawful-then i).paced k x at)

  same-times :
      (i k : ℕ) (x y : PortNode) → slice_get (later i).nodes k ≡ Some x →
      slice_get (turn (later i)).nodes k ≡ Some y → y.state.timing ≡ x.state.timing
  same-times i k x y at_x at_y =
      let f = (lawful-then i).well_formed in
      ap (λ (z : PortNode). z.state.timing) (sym (some-same (turn_at (later i) k x).node y (sym (node-after (later i) k x f.count at_x) ∙ at_y))) ∙ (steady-at (later i) k x f at_x).timing

  rises : (i : ℕ) → Risen i (later i) → Risen (i + 1) (turn (later i))
  rises i h k y at there =
      let x = stayed i k y at there in
      let t = in-turn-rises (later i) (lawful-then i) k x.0 y x.1 at x.2 there in
      let same = same-times i k x.0 y x.1 at in (
        run-on w.longest i x.0 y (some-long i k x.0 x.1) (keeps i k x.0 x.1) same t.1 (elim t.0 [ inl m ↦ inl m | inr r ↦ inr r.0 ]) (h k x.0 x.1 x.2).0,
        elim t.0 [
          | inl m ↦
              let pace = (misses-slowly w.longest x.0.state.timing x.0.clock m.0 (keeps i k x.0 x.1)).0 in
              inr (inr (subst (TicksFor 1) (sym t.1) (ticks-fewer 1 x.0.state.timing.long (clock_after x.0.clock) (some-long i k x.0 x.1) (ticks-missed x.0.state.timing.long x.0.clock m.0 pace))))
          | inr r ↦ inl (omega (arith, r.1, ap (λ (t : Timing). t.hold) same))
        ],
      )

  all-risen : (i : ℕ) → Risen i (later i)
  all-risen zero = λ k x at r. (inl (omega arith), inr (inl refl))
  all-risen (suc i) = subst (Risen (suc i)) (next i) (subst (λ n. Risen n (turn (later i))) (add-one i) (rises i (all-risen i)))

  -- after the longest hold none is there
  holds-over : (i : ℕ) → w.longest.hold ≤ i → NoneIn is_resetting (later i)
  holds-over zero h = λ k x at.
      let fits : Suits (later 0).delay (later 0).longest x.state.timing = ((lawful-then 0).well_formed.nodes k x at).timing in
      absurd (omega (arith, h, fits.hold_least, fits.hold_most, (lawful-then 0).well_formed.some_delay, ap (λ (t : Timing). t.hold) (same-longest 0)))
  holds-over (suc i) h = subst (NoneIn is_resetting) (next i) nobody
    where
      nobody : NoneIn is_resetting (turn (later i))
      nobody k y at = false_from_ne_true _ (λ e.
          let x = stayed i k y at e in
          let t = in-turn-rises (later i) (lawful-then i) k x.0 y x.1 at x.2 e in
          let same = ap (λ (t : Timing). t.hold) (same-times i k x.0 y x.1 at) in
          let fits : Suits (later i).delay (later i).longest x.0.state.timing = ((lawful-then i).well_formed.nodes k x.0 x.1).timing in
          let most : x.0.state.timing.hold ≤ w.longest.hold = omega (arith, fits.hold_most, ap (λ (t : Timing). t.hold) (same-longest i)) in
          let one : i + 1 ≡ suc i = add-one i in
          let over : y.state.timing.hold ≤ y.state.view.timer = run-over w.longest (i + 1) y y.state.timing.hold w.longest.hold (omega (arith, some-long i k x.0 x.1, ap (λ (t : Timing). t.long) (same-times i k x.0 y x.1 at))) (omega (arith, same, most)) (λ s. s.hold_most) (omega (arith, h, one)) (rises i (all-risen i) k y at e).0 in
          elim t.0 [
            | inr r ↦ omega (arith, r.1, over, same)
            | inl m ↦ elim (all-risen i k x.0 x.1 x.2).1 [
              | inl u ↦ omega (arith, m.1, u, over, same)
              | inr u ↦ elim u [
                | inl z ↦ omega (arith, z, h, fits.hold_least, most, (lawful-then i).well_formed.some_delay)
                | inr ticks ↦ misses-none 0 x.0.clock ticks m.0
              ]
            ]
          ])

-- ---- R1

-- towards a node in R1 another node out of R0 tells Idle or Parent
calm-told :
    (y : NodeState) (q : ℕ) → IsValid y → is_connected y.view.ports q ≡ true →
    is_resetting y.view.phase ≡ false → (is_before_tree y.view.phase || is_asking y q) ≡ true →
    is_calm (level_sent_at y q) ≡ true
calm-told y q v on past early = go (is_before_tree y.view.phase) refl
  where
    first :
        (f : Phase) (c : Bool) → is_resetting f ≡ false → is_before_tree f ≡ true →
        is_calm (level_sent f c) ≡ true
    first f c a b = grind arith

    second :
        (f : Phase) (c i : Bool) → is_before_tree f ≡ false → c ≡ not i →
        (is_before_tree f || (is_shaking f && i)) ≡ true → is_calm (level_sent f c) ≡ true
    second f c i a b e = grind arith

    go : (b : Bool) → is_before_tree y.view.phase ≡ b → is_calm (level_sent_at y q) ≡ true
    go true e = first y.view.phase (leads_down y.view.ports q) past e
    go false e = second y.view.phase (leads_down y.view.ports q) (is_port y.view.parent q) e (child-if y.view.parent y.view.ports q (late-roles y v e) on) early

pub only-wait : (p : Phase) → is_in_bus_reset p ≡ true → is_resetting p ≡ false →
    p ≡ phase.ResetWait
only-wait p h g = grind arith

wait-between :
    (p : Phase) → is_in_bus_reset p ≡ true → is_resetting p ≡ false → is_after_hold p ≡ true
wait-between p h g = grind arith

-- in a world with nobody in R0, and in the turns from there
module _
    (hs : HoldSchedule) (v : CableWorld) (l : IsLawful v) (calm : (i : ℕ) → NoneIn is_resetting (quiet_after hs i v))
    (k : ℕ) where
  -- the node is in R1
  abbrev Waits : ℕ → Type 0
  Waits i = (x : PortNode) × (slice_get (quiet_after hs i v).nodes k ≡ Some x) × (is_in_bus_reset x.state.view.phase ≡ true)

  waited : (i : ℕ) → Waits (i + 1) → Waits i
  waited i h =
      let c : Calmly (quiet_after hs i v) k h.0.state = calmly (quiet_after hs i v) (quiet-lawful hs i v l) (calm i) k h.0 (ap (λ (u : CableWorld). slice_get u.nodes k) (sym (one-quiet hs i v)) ∙ h.1) in
      (c.node, c.at, waiting-before (quiet_after hs i v) k h.0.state c h.2)

  module _ (a : End) (p : ℕ) (e : far v.cabling (end_at k p) ≡ Some a) where
    back : far v.cabling a ≡ Some (end_at k p)
    back = l.well_formed.cabling.both_ways (end_at k p) a e

    tells-calm : (i : ℕ) → Waits i → Tells (quiet_after hs i v) a is_calm
    tells-calm i h y at =
        let u : CableWorld = quiet_after hs i v in
        let m : IsLawful u = quiet-lawful hs i v l in
        let there : far u.cabling (end_at k p) ≡ Some a = ap (λ (c : Wiring). far c (end_at k p)) (after-cabling hs i v) ∙ e in
        let here : far u.cabling a ≡ Some (end_at k p) = ap (λ (c : Wiring). far c a) (after-cabling hs i v) ∙ back in
        let c : Coupling u.delay h.0.state p (wire_of u (end_at k p)).signals y.state a.port (wire_of u a).signals = m.coupled.cables (end_at k p) a h.0 y there h.1 at in
        calm-told y.state a.port (m.well_formed.nodes a.node y at).valid (cable-connected u a (end_at k p) y m.well_formed here at) (calm i a.node y at)
        (c.early (between-known u.delay h.0.state (wait-between h.0.state.view.phase h.2 (calm i k h.0 h.1))))

    shows-calm : (i : ℕ) → v.delay ≤ i → Waits i → Shown (quiet_after hs i v) (end_at k p) is_calm
    shows-calm = flush hs v l a (end_at k p) back is_calm Waits waited tells-calm

  -- d turns later every port is calm, so that R1 ends with the next tick
  wait-misses : (i : ℕ) → v.delay ≤ i + 1 → (h : Waits (i + 1)) → Misses hs v i k
  wait-misses i late h = record {
    node = c.node;
    at = c.at;
    missed = elim (waits-for (beat c.node) now (only-wait now.view.phase (ap is_in_bus_reset c.heard.phase ∙ waiting-before u k h.0.state c h.2) (ap is_resetting c.heard.phase ∙ calm i k c.node c.at))
        (sym (ap (λ (s : NodeState). is_in_bus_reset s.view.phase) c.is) ∙ h.2)) [
          | inl none ↦ beat-misses c.node none
          | inr not ↦ absurd (true≢false (sym (every-from (λ q. is_calm q.shown) now.view.ports each) ∙ not))
        ];
  }
    where
      u : CableWorld
      u = quiet_after hs i v

      c : Calmly (quiet_after hs i v) k h.0.state
      c = calmly (quiet_after hs i v) (quiet-lawful hs i v l) (calm i) k h.0 (ap (λ (u : CableWorld). slice_get u.nodes k) (sym (one-quiet hs i v)) ∙ h.1)

      now : NodeState
      now = heard_by (quiet_after hs i v) k c.node

      -- what a port shows is shown after the turn too
      same : (q : ℕ) → level_shown h.0.state q ≡ level_shown now q
      same q = ap (λ (s : NodeState). level_shown s q) c.is ∙ c.ticks.shown q

      test-at :
          (x : NodeState) (q : ℕ) → is_connected x.view.ports q ≡ true → is_calm (level_shown x q)
          ≡ true → port_is (λ r. is_calm r.shown) x.view.ports q ≡ true
      test-at x q on s = go (slice_get x.view.ports q) on s
        where
          go :
              (o : Option PortView) → passes (λ r. r.connected) o ≡ true → is_calm (shown_or_idle o)
              ≡ true → passes (λ r. is_calm r.shown) o ≡ true
          go None on s = on
          go (Some r) on s = s

      each :
          (q : ℕ) → is_connected now.view.ports q ≡ true → port_is (λ r. is_calm r.shown)
          now.view.ports q ≡ true
      each q on = test-at now q on (go (far (quiet_after hs i v).cabling (end_at k q)) refl)
        where
          on-first : is_connected c.node.state.view.ports q ≡ true
          on-first = sym (c.hears.cables q) ∙ on

          go :
              (o : Option End) → far (quiet_after hs i v).cabling (end_at k q) ≡ o →
              is_calm (level_shown now q) ≡ true
          go None e = contrary on-first (((quiet-lawful hs i v l).well_formed.nodes k c.node c.at).connected q ∙ ap is_some e)
          go (Some a) e = ap is_calm (sym (same q)) ∙ shows-calm a q (sym (ap (λ (d : Wiring). far d (end_at k q)) (after-cabling hs i v)) ∙ e) (i + 1) late h h.0 h.1

  wait-ends : (i : ℕ) → v.delay ≤ i + 1 → Waits (i + slack v + 1) → ⊥
  wait-ends i late h =
      not-missed hs v l i k (wait-misses (i + slack v) (omega (arith, late)) h) (λ one.
      let z : i + slack v ≡ i + 1 = omega (arith, one) in
      wait-misses i late (subst Waits z (waited (i + slack v) h)))

-- ---- the longest hold, and what is told then is seen

pub none-enters-done :
    (hs : HoldSchedule) (w : CableWorld) → IsLawful w → NoneEnters hs w → (i : ℕ) →
    w.longest.hold + seen_turns w ≤ i → ResetsAreDone (quiet_after hs i w)
none-enters-done hs w l none i late k x at = false_from_ne_true _ (λ e.
    let few : slack start ≤ slack w = slack-later hs w l w.longest.hold in
    let j : ℕ = i - w.longest.hold - 1 - slack start in
    let some : 1 ≤ w.delay = l.well_formed.some_delay in
    let z : i ≡ w.longest.hold + (j + slack start + 1) = omega (arith, late, some, few) in
    let is : quiet_after hs i w ≡ quiet_after rest (j + slack start + 1) start = ap (λ n. quiet_after hs n w) z ∙ quiet-then hs w.longest.hold (j + slack start + 1) w in
    wait-ends rest start m calm k j (omega (arith, late, some, few, after-delay hs w l w.longest.hold))
    (x, ap (λ (u : CableWorld). slice_get u.nodes k) (sym is) ∙ at, e))
  where
    rest : HoldSchedule
    rest = holds_after w.longest.hold hs

    start : CableWorld
    start = quiet_after hs w.longest.hold w

    m : IsLawful (quiet_after hs w.longest.hold w)
    m = quiet-lawful hs w.longest.hold w l

    calm :
        (j : ℕ) →
        NoneIn is_resetting
        (quiet_after (holds_after w.longest.hold hs) j (quiet_after hs w.longest.hold w))
    calm j =
        let low : w.longest.hold ≤ w.longest.hold + j = omega arith in
        subst (NoneIn is_resetting) (quiet-then hs w.longest.hold j w) (holds-over hs w l none (w.longest.hold + j) low)

-- after n d turns nobody enters
pub steady-enters :
    (hs : HoldSchedule) (w : CableWorld) (n : ℕ) → IsLawful w → length w.nodes * w.delay ≤ n →
    NoneEnters (holds_after n hs) (quiet_after hs n w)
steady-enters hs w n l late i k x y at_x at_y out =
    let one : n + (i + 1) ≡ n + i + 1 = omega arith in
    let past : length w.nodes * w.delay ≤ n + i = omega (arith, late) in
    steady hs w l (n + i) past k x y
    (ap (λ (u : CableWorld). slice_get u.nodes k) (quiet-then hs n i w) ∙ at_x)
    (ap (λ j. slice_get (quiet_after hs j w).nodes k) (sym one) ∙ ap (λ (u : CableWorld). slice_get u.nodes k) (quiet-then hs n (i + 1) w) ∙ at_y) out

pub resets-done :
    (hs : HoldSchedule) (w : CableWorld) → IsLawful w → (i : ℕ) → w.longest.hold + seen_turns w ≤ i →
    ResetsAreDone (quiet_after hs (length w.nodes * w.delay + i) w)
resets-done hs w l i late =
    let n : ℕ = length w.nodes * w.delay in
    let past : n ≤ n = omega arith in
    subst ResetsAreDone (sym (quiet-then hs n i w))
    (none-enters-done (holds_after n hs) (quiet_after hs n w) (quiet-lawful hs n w l) (steady-enters hs w n l past) i
    (omega (arith, late, slack-later hs w l n, after-delay hs w l n, ap (λ (t : Timing). t.hold) (after-longest hs w l n))))

-- then no Reset is under way
pub no-resets :
    (w : CableWorld) (a b : End) → IsLawful w → ResetsAreDone w → far w.cabling a ≡ Some b →
    has_reset (signals_of (wire_of w a).signals) ≡ false
no-resets w a b l done e = go (has_reset (signals_of (wire_of w a).signals)) refl
  where
    go : (r : Bool) → has_reset (signals_of (wire_of w a).signals) ≡ r → r ≡ false
    go false h = refl
    go true h =
        let j = joined-of w a b l.well_formed e in
        let there : is_resetting j.near.state.view.phase ≡ true = (l.coupled.cables a b j.near j.other e j.near_at j.other_at).reset h in
        contrary there (done-calm w done a.node j.near j.near_at)

pub done-over : (w : CableWorld) → IsLawful w → ResetsAreDone w → ResetsAreOver w
done-over w l done a b y e at r = contrary r (no-resets w a b l done e)
