-- Nodes in T0 once resets are done: their timers rise, until they know their tree.
use Rattle.std.proofs.Common.{◌≡◌, ◌⊎◌, inl, inr, ℕ, zero, suc, ◌+◌, ◌≤◌, true, false, Some, slice_get, refl, sym, ◌∙◌, ap, subst, arith, add-one}
use Rattle.convergence.proofs.Common.{Phase, NodeState, Timing, beat, PortNode, CableWorld, turn, turn_at, node-after, some-same, is_before_tree, is_in_bus_reset, IsLawful, risen, one-quiet, no-quiet, quiet-lawful, HoldSchedule, quiet_after, ResetsAreDone}
use Rattle.port_state.specs.declared.signal.Phase.TheVariants as phase
use Rattle.cable_world.specs.Times.{Suits, KeepsTime}
use Rattle.port_state.specs.Clock.{misses, clock_after, TicksFor}
use Rattle.port_state.proofs.Lemmas.{ticks-fewer}
use Rattle.cable_world.proofs.Lemmas.{after-longest, after-delay, beat-misses, misses-slowly}
use Rattle.convergence.specs.Turns.{slack}
use Rattle.convergence.proofs.turns.SlowTurns.{HasRun, run-on, run-over}
use Rattle.convergence.proofs.turns.TwoTurns.{some-slack}
use Rattle.convergence.proofs.turns.Clocks.{ticks-missed, misses-none}
use Rattle.convergence.proofs.turns.CalmTurns.{Calmly, calmly, heard_by, early-before, done-calm, turn-done}
use Rattle.convergence.proofs.turns.BeforeTree.{StaysInStart, start-on}

pub only-start :
    (p : Phase) → is_before_tree p ≡ true → is_in_bus_reset p ≡ false → p ≡ phase.TreeStart
only-start p h g = grind arith

pub start-early : (p : Phase) → p ≡ phase.TreeStart → is_before_tree p ≡ true
start-early p h = rw h refl

-- node number k of a world is before the tree
pub record IsEarly (w : CableWorld) (k : ℕ) : Type 0 where
  pub node : PortNode
  pub at : slice_get w.nodes k ≡ Some node
  pub early : is_before_tree node.state.view.phase ≡ true

module _ (hs : HoldSchedule) (v : CableWorld) (l : IsLawful v) (done : ResetsAreDone v) where
  abbrev later : ℕ → CableWorld
  later i = quiet_after hs i v

  pub done-at : (i : ℕ) → ResetsAreDone (later i)
  unfolding quiet_after
  done-at zero = done
  done-at (suc i) = turn-done (later i) (quiet-lawful hs i v l) (done-at i)

  -- a node in T0 after a turn, and what kept it there: its clock missed the turn, or a tick did
  pub record Started (i k : ℕ) (y : PortNode) : Type 0 where
    pub calm : Calmly (later i) k y.state
    pub start : calm.node.state.view.phase ≡ phase.TreeStart
    pub kept : ((misses calm.node.clock ≡ true) × (y.state ≡ heard_by (later i) k calm.node)) ⊎ StaysInStart (heard_by (later i) k calm.node) y.state
    pub is_start : y.state.view.phase ≡ phase.TreeStart
    pub clock : y.clock ≡ clock_after calm.node.clock

  pub started :
      (i k : ℕ) (y : PortNode) → slice_get (later (i + 1)).nodes k ≡ Some y →
      is_before_tree y.state.view.phase ≡ true → Started i k y
  started i k y at h =
      let u : CableWorld = later i in
      let m : IsLawful u = quiet-lawful hs i v l in
      let now : slice_get (turn u).nodes k ≡ Some y = ap (λ (z : CableWorld). slice_get z.nodes k) (sym (one-quiet hs i v)) ∙ at in
      let c : Calmly u k y.state = calmly u m (done-calm u (done-at i)) k y now in
      let x-start : c.node.state.view.phase ≡ phase.TreeStart = only-start c.node.state.view.phase (early-before u k y.state c h) (done-at i k c.node c.at) in
      let y-start : y.state.view.phase ≡ phase.TreeStart = only-start y.state.view.phase h (done-at (i + 1) k y at) in
      let is : (turn_at u k c.node).node ≡ y = some-same (turn_at u k c.node).node y (sym (node-after u k c.node m.well_formed.count c.at) ∙ now) in
      record {
        calm = c;
        start = x-start;
        kept = elim (start-on (beat c.node) (heard_by u k c.node) (c.heard.phase ∙ x-start) (sym (ap (λ (z : NodeState). z.view.phase) c.is) ∙ y-start)) [
          | inl a ↦ inl (beat-misses c.node a.0, c.is ∙ a.1)
          | inr s ↦ inr (subst (StaysInStart (heard_by u k c.node)) (sym c.is) s)
        ];
        is_start = y-start;
        clock = ap (λ (z : PortNode). z.clock) (sym is);
      }

  pub early-was : (i k : ℕ) → IsEarly (later (i + 1)) k → IsEarly (later i) k
  early-was i k n =
      let s = started i k n.node n.at n.early in
      record { node = s.calm.node; at = s.calm.at; early = start-early s.calm.node.state.view.phase s.start }

  pub early-at-first : (i k : ℕ) → IsEarly (later i) k → IsEarly v k
  early-at-first zero k n = let m = subst (λ u. IsEarly u k) (no-quiet hs v) n in record { node = m.node; at = m.at; early = m.early }
  early-at-first (suc i) k n = early-at-first i k (early-was i k (subst (λ m. IsEarly (later m) k) (sym (add-one i)) n))

  -- the timer rises with the turns
  abbrev IsLate : ℕ → PortNode → Type 0
  IsLate i x = HasRun v.longest i x ⊎ (65535 ≤ x.state.view.timer)

  abbrev has-reported : ℕ → PortNode → Type 0
  has-reported i x = (x.state.timing.timeout ≤ x.state.view.timer → x.state.view.timed_out ≡ true) ⊎ ((i ≡ 0) ⊎ TicksFor 1 x.clock)

  keeps : (i k : ℕ) (x : PortNode) → slice_get (later i).nodes k ≡ Some x → KeepsTime v.longest x.state.timing x.clock
  keeps i k x at = subst (λ (t : Timing). KeepsTime t x.state.timing x.clock) (after-longest hs v l i) ((quiet-lawful hs i v l).paced k x at)

  fits : (i k : ℕ) (x : PortNode) → slice_get (later i).nodes k ≡ Some x → Suits v.delay v.longest x.state.timing
  fits i k x at = subst (λ d. Suits d v.longest x.state.timing) (after-delay hs v l i) (subst (λ (t : Timing). Suits (later i).delay t x.state.timing) (after-longest hs v l i) ((quiet-lawful hs i v l).well_formed.nodes k x at).timing)

  some-long : (i k : ℕ) (x : PortNode) → slice_get (later i).nodes k ≡ Some x → 1 ≤ x.state.timing.long
  some-long i k x at = let s = fits i k x at in omega (arith, s.long_least, s.short_most, s.short_least)

  same-times : (i k : ℕ) (y : PortNode) → (s : Started i k y) → y.state.timing ≡ s.calm.node.state.timing
  same-times i k y s = ap (λ (z : NodeState). z.timing) s.calm.is ∙ s.calm.ticks.timing ∙ s.calm.hears.timing

  -- what a clock that missed a turn does next
  pub rests :
      (i k : ℕ) (x : PortNode) → slice_get (later i).nodes k ≡ Some x → misses x.clock ≡ true →
      TicksFor 1 (clock_after x.clock)
  rests i k x at m =
      let pace = (misses-slowly v.longest x.state.timing x.clock m (keeps i k x at)).0 in
      ticks-fewer 1 x.state.timing.long (clock_after x.clock) (some-long i k x at) (ticks-missed x.state.timing.long x.clock m pace)

  abbrev pub first-of : (i k : ℕ) (y : PortNode) → Started i k y → IsEarly (later i) k
  first-of i k y s = record { node = s.calm.node; at = s.calm.at; early = start-early s.calm.node.state.view.phase s.start }

  late-by :
      (i k : ℕ) → (e : IsEarly (later i) k) → IsLate i e.node
  late-by zero k e = inl (inl (omega arith))
  late-by (suc i) k e =
      let s = started i k e.node (subst (λ m. slice_get (later m).nodes k ≡ Some e.node) (sym (add-one i)) e.at) e.early in
      go s (late-by i k (first-of i k e.node s)) s.kept
    where
      run :
          (s : Started i k e.node) →
          ((misses s.calm.node.clock ≡ true) × (e.node.state.view.timer ≡ s.calm.node.state.view.timer))
          ⊎ (e.node.state.view.timer ≡ s.calm.node.state.view.timer + 1) →
          HasRun v.longest i s.calm.node → HasRun v.longest (suc i) e.node
      run s r a =
          subst (λ n. HasRun v.longest n e.node) (add-one i)
          (run-on v.longest i s.calm.node e.node (some-long i k s.calm.node s.calm.at) (keeps i k s.calm.node s.calm.at) (same-times i k e.node s) s.clock r a)

      up : (b c n : ℕ) → b ≡ n → c ≡ risen b → (c ≡ n + 1) ⊎ (65535 ≤ c)
      up b c n e f = grind (arith, e, f)

      full : (b c n : ℕ) → 65535 ≤ n → b ≡ n → c ≡ risen b → 65535 ≤ c
      full b c n h e f = omega (arith, h, e, f)

      go :
          (s : Started i k e.node) → IsLate i s.calm.node →
          ((misses s.calm.node.clock ≡ true) × (e.node.state ≡ heard_by (later i) k s.calm.node)) ⊎ StaysInStart (heard_by (later i) k s.calm.node) e.node.state →
          IsLate (suc i) e.node
      go s (inl a) (inl m) = inl (run s (inl (m.0, ap (λ (z : NodeState). z.view.timer) m.1 ∙ s.calm.heard.timer)) a)
      go s (inr a) (inl m) = inr (omega (arith, a, ap (λ (z : NodeState). z.view.timer) m.1, s.calm.heard.timer))
      go s (inl a) (inr t) = elim (up (heard_by (later i) k s.calm.node).view.timer e.node.state.view.timer s.calm.node.state.view.timer s.calm.heard.timer t.timer) [
        | inl one ↦ inl (run s (inr one) a)
        | inr last ↦ inr last
      ]
      go s (inr a) (inr t) = inr (full (heard_by (later i) k s.calm.node).view.timer e.node.state.view.timer s.calm.node.state.view.timer a s.calm.heard.timer t.timer)

  pub start-timer :
      (i k : ℕ) → v.longest.force ≤ i → (e : IsEarly (later i) k) →
      e.node.state.timing.force ≤ e.node.state.view.timer
  start-timer i k low e = elim (late-by i k e) [
    | inl a ↦ run-over v.longest i e.node e.node.state.timing.force v.longest.force (some-long i k e.node e.at) (fits i k e.node e.at).force_most (λ s. s.force_most) low a
    | inr a ↦ omega (arith, a, (fits i k e.node e.at).force_most, (fits i k e.node e.at).counted.force)
  ]

  pub start-timeout :
      (i k : ℕ) → v.longest.timeout ≤ i → (e : IsEarly (later i) k) →
      e.node.state.timing.timeout ≤ e.node.state.view.timer
  start-timeout i k low e = elim (late-by i k e) [
    | inl a ↦ run-over v.longest i e.node e.node.state.timing.timeout v.longest.timeout (some-long i k e.node e.at) (fits i k e.node e.at).timeout_most (λ s. s.timeout_most) low a
    | inr a ↦ omega (arith, a, (fits i k e.node e.at).timeout_most, (fits i k e.node e.at).counted.timeout)
  ]

  -- the timeout of a node
  timeout-at :
      (i k : ℕ) (y : PortNode) → (s : Started i k y) →
      (heard_by (later i) k s.calm.node).timing.timeout ≡ y.state.timing.timeout
  timeout-at i k y s = ap (λ (t : Timing). t.timeout) (s.calm.hears.timing ∙ sym (same-times i k y s))

  reported :
      (i k : ℕ) → (e : IsEarly (later i) k) → has-reported i e.node
  reported zero k e = inr (inl refl)
  reported (suc i) k e =
      let s = started i k e.node (subst (λ m. slice_get (later m).nodes k ≡ Some e.node) (sym (add-one i)) e.at) e.early in
      elim s.kept [
        | inl m ↦ inr (inr (subst (TicksFor 1) (sym s.clock) (rests i k s.calm.node s.calm.at m.0)))
        | inr t ↦ inl (λ old. t.reports (omega (arith, old, timeout-at i k e.node s)))
      ]

  -- so after the longest timeout it reports that
  pub start-reports :
      (i k : ℕ) → v.longest.timeout + 1 + slack v ≤ i → (e : IsEarly (later i) k) →
      (e.node.state.view.phase ≡ phase.TreeStart) × (e.node.state.view.timed_out ≡ true)
  start-reports zero k late e = absurd (omega (arith, late))
  start-reports (suc i) k late e =
      let at : slice_get (later (i + 1)).nodes k ≡ Some e.node = subst (λ m. slice_get (later m).nodes k ≡ Some e.node) (sym (add-one i)) e.at in
      let s = started i k e.node at e.early in (
        s.is_start,
        elim s.kept [
          | inl m ↦ ap (λ (z : NodeState). z.view.timed_out) m.1 ∙ s.calm.heard.timed_out
              ∙ before s m.0 (start-timeout i k (omega (arith, late)) (first-of i k e.node s)) (reported i k (first-of i k e.node s))
          | inr t ↦ t.reports (omega (arith, timeout-at i k e.node s, start-timeout (suc i) k (omega (arith, late)) e))
        ],
      )
    where
      before :
          (s : Started i k e.node) → misses s.calm.node.clock ≡ true →
          s.calm.node.state.timing.timeout ≤ s.calm.node.state.view.timer →
          has-reported i s.calm.node → s.calm.node.state.view.timed_out ≡ true
      before s m old (inl r) = r old
      before s m old (inr (inl z)) = absurd (omega (arith, z, late, some-slack hs v l i k (record { node = s.calm.node; at = s.calm.at; missed = m })))
      before s m old (inr (inr t)) = absurd (misses-none 0 s.calm.node.clock t m)
