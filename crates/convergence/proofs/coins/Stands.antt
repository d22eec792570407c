-- Where two rivals stand after a turn.
use Rattle.std.proofs.Common.{◌≡◌, ◌⊎◌, inl, inr, ℕ, suc, None, ◌+◌, ◌-◌, ◌*◌, ◌<◌, ◌≤◌, Bool, true, false, [], map, refl, sym, ◌∙◌, ap, subst, arith}
use Rattle.std.proofs.lemmas.Bool.{leb-true}
use Rattle.convergence.proofs.Common.{Level, Phase, NodeState, draws_with, is_port, raise_timer, new_signal, level_sent, level_shown, leads_down, level_after, level_sent_at, is_shaking, signals_of, NoEntry, risen, not-both, Side, hearing, ticking, departures, wire_after, heard_shown, last_coin, AddsDraw, DrewTogether, KnowsCoins, IsAhead, AsksAgain, HaveMet, AreApart, AreRivals, contrary}
use Rattle.convergence.proofs.turns.PhaseFacts.{contend-shake}
use Rattle.port_state.specs.declared.signal.Level.TheVariants as level
use Rattle.port_state.specs.declared.signal.Phase.TheVariants as phase
use Rattle.cable_world.specs.Phases.{is_timed, slack}
use Rattle.cable_world.specs.Signals.{AllAsOldAs}
use Rattle.cable_world.proofs.Lemmas.{AllAsOldAs-zero, AllAsOldAs-less, arrivals, leftovers, kept_since, same_wire, kept_levels, heard_idle}
use Rattle.convergence.specs.Coins.{DrewTheSame}
use Rattle.convergence.specs.Rivals.{AreAlike, IsNear}
use Rattle.port_state.specs.declared.timing.Timing.{Timing}
use Rattle.cable_world.specs.Times.{SuitsSlowly}
use Rattle.cable_world.proofs.Lemmas.{misses-slowly}
use Rattle.port_state.specs.Clock.{Clock, clock_after, TicksFor}
use Rattle.port_state.proofs.Lemmas.{ticks-fewer, ticks-later}
use Rattle.convergence.proofs.turns.Clocks.{ticks-missed, misses-none}
use Rattle.convergence.proofs.turns.Moves.{Drew, DrewNone, Shook, Waits, TookRival, AskedAgain, Fights, coin_of, beat-shaken, beat-fought}
use Rattle.convergence.proofs.coins.Rivals.{none-so-old, ages-first, Beats, Rivals, swapped, together-round, same-round, stand-round, no-contend, shaking-silent, other-level, up-late, up-mid, not-down, drew-sees, accepted-sees, took-sees, again-sees, draws-not, adds-draw, adds-still, coin-still, asks-on, asks-here, sees-child}

pub idle-parent : (l : Level) → l ≡ level.Idle → l ≡ level.Parent → ⊥
idle-parent l a b = cc

pub contend-shaking : (f : Phase) → f ≡ phase.Contend → is_shaking f ≡ true → ⊥
contend-shaking f a b = grind arith

-- equal last coins
pub same-coins :
    (x y : NodeState) → DrewTogether x y → last_coin x ≡ last_coin y → DrewTheSame x y
same-coins x y t e = record {
  draws = t.here.count ∙ sym t.there.count;
  first_draws = t.here.coins ∙ ap (λ b. draws_with b t.draws t.first) e ∙ sym t.there.coins;
}

pub coin-long : (x : NodeState) → last_coin x ≡ true → x.timing.long ≤ x.view.wait
coin-long x e = leb-true _ _ e

pub coin-short :
    (x : NodeState) → KnowsCoins x → x.view.phase ≡ phase.Contend →
    last_coin x ≡ false → x.view.wait ≤ x.timing.short
coin-short x k c e = elim (k.shows c) [ inl s ↦ omega (arith, s) | inr l ↦ absurd (clash (omega (arith, l))) ]
  where
    clash : x.timing.long ≤ x.view.wait → ⊥
    clash l = grind (arith, l, e)

-- ---- clocks

pub near-most :
    (d : ℕ) (x y : NodeState) (e : Clock) → IsNear d x y e → x.view.timer ≤ y.view.timer + d
near-most d x y e (inl a) = omega (arith, a)
near-most d x y e (inr a) = a.0

-- a short wait and the way there and back are within a long one
pub near-room :
    (d : ℕ) (x y : NodeState) (e : Clock) → IsNear d x y e →
    y.timing.short + 2 * d ≤ x.timing.long →
    x.view.timer + y.timing.short + d + 1 ≤ y.view.timer + x.timing.long
near-room d x y e (inl a) h = omega (arith, a, h)
near-room d x y e (inr a) h = omega (arith, a.0, a.2)

-- who misses a turn
pub missed-by :
    (s : Side) → (b : Beats s) → s.beat ≡ None →
    TicksFor s.node.timing.long (clock_after s.clock) × SuitsSlowly b.longest s.node.timing
missed-by s b n =
    let h = misses-slowly b.longest s.node.timing s.clock (b.missed n) b.keeps in
    (ticks-missed s.node.timing.long s.clock (b.missed n) h.0, h.1)

apart :
    (d : ℕ) (x y : Side) → Rivals d x y →
    y.node.timing.short + 2 * d ≤ x.node.timing.long
apart d x y r = omega (arith, r.waits, r.short_back)

-- where y misses turns
apart-slow :
    (d : ℕ) (x y : Side) → (r : Rivals d x y) → SuitsSlowly r.beats_back.longest y.node.timing →
    y.node.timing.short + 2 * d < x.node.timing.long
apart-slow d x y r h = omega (arith, r.waits, h.short_most)

-- ---- before the turn

module _
    (d : ℕ) (x y : Side) (r : Rivals d x y) (ux : is_port x.node.view.parent x.port ≡ true)
    (uy : is_port y.node.view.parent y.port ≡ true) where
  -- what comes of T1 and T2
  pub shaken :
      NoEntry x.node (hearing x) → is_shaking x.node.view.phase ≡ true →
      Shook (hearing x).state (ticking x).state (ticking x).sends
      ⊎ Drew (coin_of x.beat) (hearing x).state (ticking x).state
  shaken h s = elim (beat-shaken x.beat (hearing x).state (ap is_shaking h.phase ∙ s)) [
    | inl a ↦ inl a
    | inr a ↦ elim a [
      | inl b ↦ inr b
      | inr b ↦ elim b [
        | inl none ↦ contrary (up-mid d x y r h ux) (ap (λ o. is_port o x.port) none)
        | inr c ↦ absurd (not-both (leads_down y.node.view.ports y.port)
            (sees-child d x y r (up-late d y x (swapped d x y r) uy) (accepted-sees d x y r c (up-mid d x y r h ux))) (not-down d y x (swapped d x y r) uy))
      ]
    ]
  ]

  -- and of T3
  pub fought :
      NoEntry x.node (hearing x) → x.node.view.phase ≡ phase.Contend →
      Fights x.beat (hearing x).state (ticking x).state (ticking x).sends
  fought h c = beat-fought x.beat (hearing x).state r.pair.near.hears.valid (h.phase ∙ c) (omega (arith, h.timer, h.wait, r.near.waits c))

  -- a wait isn't longer than a timer counts
  pub wait-counted : x.node.view.phase ≡ phase.Contend → x.node.view.wait ≤ x.node.timing.long
  wait-counted c = elim (r.near.shows c) [
    | inl s ↦ omega (arith, s, r.pair.near.timing.apart)
    | inr l ↦ omega (arith, l)
  ]

  pub waited-timer :
      NoEntry x.node (hearing x) → x.node.view.phase ≡ phase.Contend →
      Waits x.beat (hearing x).state (ticking x).state (ticking x).sends →
      (((x.beat ≡ None) × ((ticking x).state.view.timer ≡ x.node.view.timer))
      ⊎ ((ticking x).state.view.timer ≡ x.node.view.timer + 1))
      × ((ticking x).state.view.timer < x.node.view.wait)
  waited-timer h c w = (
    elim w.timer [
      | inl a ↦ inl (a.0, a.1 ∙ h.timer)
      | inr t ↦ inr (rose (hearing x).state.view.timer (ticking x).state.view.timer x.node.view.timer t h.timer (omega (arith, r.near.waits c, wait-counted c, r.pair.near.timing.long_most)))
    ],
    omega (arith, w.not_yet, h.wait),
  )
    where
      rose : (a t n : ℕ) → t ≡ risen a → a ≡ n → n + 1 ≤ 65535 → t ≡ n + 1
      rose a t n e f g = grind (arith, e, f, g)

  pub waited-least :
      NoEntry x.node (hearing x) → x.node.view.phase ≡ phase.Contend →
      Waits x.beat (hearing x).state (ticking x).state (ticking x).sends →
      (x.node.view.timer ≤ (ticking x).state.view.timer)
      × ((ticking x).state.view.timer ≤ x.node.view.timer + 1)
  waited-least h c w = elim (waited-timer h c w).0 [
    | inl a ↦ (omega (arith, a.1), omega (arith, a.1))
    | inr t ↦ (omega (arith, t), omega (arith, t))
  ]

  -- a wait that is over was long
  pub over-timer :
      NoEntry x.node (hearing x) → x.node.view.phase ≡ phase.Contend →
      (hearing x).state.view.wait ≤ risen (hearing x).state.view.timer →
      (x.node.view.wait ≤ x.node.view.timer + 1) × (2 * d ≤ x.node.view.timer)
  over-timer h c o =
      let w : x.node.view.wait ≤ x.node.view.timer + 1 = most (hearing x).state.view.wait (hearing x).state.view.timer x.node.view.wait x.node.view.timer o h.wait h.timer in
      (w, omega (arith, w, r.pair.near.waits c))
    where
      most : (a b c e : ℕ) → a ≤ risen b → a ≡ c → b ≡ e → c ≤ e + 1
      most a b c e o f g = grind (arith, o, f, g)

  -- after a wait that long the other end sees Idle, and doesn't draw
  pub long-idle :
      x.node.view.phase ≡ phase.Contend → d ≤ x.node.view.timer →
      level_shown (hearing y).state y.port ≡ level.Idle
  long-idle c t = heard_idle d x y r.pair c ux t

  pub long-undrawn :
      x.node.view.phase ≡ phase.Contend → d ≤ x.node.view.timer → NoEntry y.node (hearing y) →
      Drew (coin_of y.beat) (hearing y).state (ticking y).state → ⊥
  long-undrawn c t h w = idle-parent (level_shown (hearing y).state y.port) (long-idle c t) (drew-sees d y x (swapped d x y r) w (up-mid d y x (swapped d x y r) h uy))

  -- where the other end draws, the wait just began
  pub young :
      x.node.view.phase ≡ phase.Contend → NoEntry x.node (hearing x) → NoEntry y.node (hearing y) →
      Drew (coin_of y.beat) (hearing y).state (ticking y).state → x.node.view.timer + 1 < d
  young c hx hy w = elim (less-or (x.node.view.timer + 1) d) [
    | inl a ↦ a
    | inr a ↦ absurd (idle-parent (level_shown (hearing y).state y.port) (idle a) (drew-sees d y x (swapped d x y r) w (up-mid d y x (swapped d x y r) hy uy)))
  ]
    where
      less-or : (a b : ℕ) → (a < b) ⊎ (b ≤ a)
      less-or a b = grind arith

      none : d ≤ x.node.view.timer + 1 → leftovers x ≡ []
      none a =
          let s : AllAsOldAs (x.node.view.timer - slack x.node.view.phase + 1) (leftovers x) = kept_since x (x.node.view.timer - slack x.node.view.phase) (r.pair.coupled.timed (ap is_timed c)) in
          none-so-old d (x.node.view.timer - slack x.node.view.phase + 1) (leftovers x) r.pair.some_delay (omega (arith, a, ap slack c)) s (ages-first (d - 1) (leftovers x) (map new_signal (departures x)) r.pair.near.ages_after)

      tells-idle : level_sent_at x.node x.port ≡ level.Idle
      tells-idle = go x.node.view.phase (leads_down x.node.view.ports x.port) c (not-down d x y r ux)
        where
          go : (f : Phase) (b : Bool) → f ≡ phase.Contend → b ≡ false → level_sent f b ≡ level.Idle
          go f b e g = grind arith

      idle : d ≤ x.node.view.timer + 1 → level_shown (hearing y).state y.port ≡ level.Idle
      idle a =
          heard_shown d x y r.pair
          ∙ ap (λ ts. level_after (level_after (level_shown y.node y.port) (arrivals x)) (signals_of ts)) (sym (none a))
          ∙ kept_levels d x y r.pair
          ∙ tells-idle

-- ---- the turn, case by case

module _
    (d : ℕ) (x y : Side) (r : Rivals d x y) (ux : is_port x.node.view.parent x.port ≡ true)
    (uy : is_port y.node.view.parent y.port ≡ true) (hx : NoEntry x.node (hearing x))
    (hy : NoEntry y.node (hearing y)) where
  s2 : Rivals d y x
  s2 = swapped d x y r

  abbrev After : Type 0
  After = AreRivals d (ticking x).state (clock_after x.clock) x.port (wire_after x) (ticking y).state (clock_after y.clock) y.port (wire_after y)

  shook-none :
      Shook (hearing x).state (ticking x).state (ticking x).sends →
      DrewNone x.node (ticking x).state
  shook-none a = draws-not d x y r hx (λ w. no-contend (ticking x).state.view.phase a.phase w.phase)

  pub contend-none : x.node.view.phase ≡ phase.Contend → DrewNone x.node (ticking x).state
  contend-none c = draws-not d x y r hx (λ w. contend-shake x.node.view.phase c (sym hx.phase ∙ w.before))

  -- both drew alike, and x draws once more
  first-draw :
      DrewTheSame x.node y.node → DrewNone y.node (ticking y).state →
      Drew (coin_of x.beat) (hearing x).state (ticking x).state →
      is_shaking (ticking y).state.view.phase ≡ true →
      AreApart d (ticking x).state x.port (ticking y).state (wire_after y)
  first-draw same n w sh = record {
    here = w.phase;
    there = sh;
    how = inl (record {
      drew =
          let a : AddsDraw x.node.view.draws x.node.view.first_draws (ticking x).state = adds-draw d x y r hx w in
          subst (λ f. AddsDraw (ticking y).state.view.draws f (ticking x).state) (same.first_draws ∙ sym n.first_draws)
          (subst (λ k. AddsDraw k x.node.view.first_draws (ticking x).state) (same.draws ∙ sym n.draws) a);
      shown = r.pair.near.ticks.shown x.port ∙ drew-sees d x y r w (up-mid d x y r hx ux);
    });
  }

  -- the wait of x goes on, and y, whose wait is over, asks again
  pub waits-on :
      HaveMet d x.node x.clock y.node y.clock → Waits x.beat (hearing x).state (ticking x).state (ticking x).sends → AskedAgain (raise_timer (hearing y).state)
      (ticking y).state → AsksAgain d (ticking x).state (ticking y).state (wire_after y)
  waits-on m w a = record {
    drew = record { draws = m.drew.draws; first = m.drew.first; here = adds-still d x y r nx m.drew.draws m.drew.first m.drew.here; there = adds-still d y x s2 ny m.drew.draws m.drew.first m.drew.there };
    long = omega (arith, tx.0, once);
    coins = two (last_coin x.node) (last_coin y.node) refl refl;
  }
    where
      nx : DrewNone x.node (ticking x).state
      nx = contend-none m.here

      ny : DrewNone y.node (ticking y).state
      ny = draws-not d y x s2 hy (λ v. contend-shake y.node.view.phase m.there (sym hy.phase ∙ v.before))

      tx : (x.node.view.timer ≤ (ticking x).state.view.timer) × ((ticking x).state.view.timer ≤ x.node.view.timer + 1)
      tx = waited-least d x y r ux uy hx m.here w

      o : (y.node.view.wait ≤ y.node.view.timer + 1) × (2 * d ≤ y.node.view.timer)
      o = over-timer d y x s2 uy ux hy m.there a.over

      once : d ≤ x.node.view.timer
      once = omega (arith, o.1, near-most d y.node x.node x.clock m.far, r.pair.some_delay)

      y-under : y.node.view.timer < y.node.view.wait
      y-under = r.other.waits m.there

      early :
          y.node.view.wait ≤ y.node.timing.short → x.node.timing.long ≤ x.node.view.wait →
          (ticking x).state.view.timer + d + 1 - (ticking x).state.view.wait ≤ 0
      early sh lo = omega (arith, tx.1, nx.wait, near-room d x.node y.node y.clock m.near (apart d x y r), y-under, sh, lo)

      two :
          (b c : Bool) → last_coin x.node ≡ b → last_coin y.node ≡ c →
          (last_coin (ticking x).state ≡ last_coin (ticking y).state) ⊎
          ((last_coin (ticking x).state ≡ true) × (last_coin (ticking y).state ≡ false)
          × AllAsOldAs ((ticking x).state.view.timer + d + 1 - (ticking x).state.view.wait) (wire_after y))
      two true true e f = inl (coin-still d x y r nx ∙ e ∙ sym f ∙ sym (coin-still d y x s2 ny))
      two false false e f = inl (coin-still d x y r nx ∙ e ∙ sym f ∙ sym (coin-still d y x s2 ny))
      two true false e f = inr (
        coin-still d x y r nx ∙ e,
        coin-still d y x s2 ny ∙ f,
        AllAsOldAs-less ((ticking x).state.view.timer + d + 1 - (ticking x).state.view.wait) 0 (wire_after y)
            (early (coin-short y.node r.other m.there f) (coin-long x.node e)) (AllAsOldAs-zero (wire_after y)),
      )
      two false true e f =
          let sh : x.node.view.wait ≤ x.node.timing.short = coin-short x.node r.near m.here e in
          let lo : y.node.timing.long ≤ y.node.view.wait = coin-long y.node f in
          absurd (omega (arith, sh, lo, o.0, near-room d y.node x.node x.clock m.far (apart d y x s2), r.near.waits m.here))

  -- y asks again, and the wait of x goes on
  pub asks-still :
      x.node.view.phase ≡ phase.Contend → is_shaking y.node.view.phase ≡ true →
      Waits x.beat (hearing x).state (ticking x).state (ticking x).sends →
      Shook (hearing y).state (ticking y).state (ticking y).sends →
      AsksAgain d x.node y.node y.wire →
      AsksAgain d (ticking x).state (ticking y).state (wire_after y)
  asks-still c sh w v h = record {
    drew = record { draws = h.drew.draws; first = h.drew.first; here = adds-still d x y r nx h.drew.draws h.drew.first h.drew.here; there = adds-still d y x s2 ny h.drew.draws h.drew.first h.drew.there };
    long = omega (arith, t.0, h.long);
    coins = elim h.coins [
      | inl e ↦ inl (coin-still d x y r nx ∙ e ∙ sym (coin-still d y x s2 ny))
      | inr e ↦ inr (coin-still d x y r nx ∙ e.0, coin-still d y x s2 ny ∙ e.1, older e.2)
    ];
  }
    where
      nx : DrewNone x.node (ticking x).state
      nx = contend-none c

      ny : DrewNone y.node (ticking y).state
      ny = draws-not d y x s2 hy (λ u. no-contend (ticking y).state.view.phase v.phase u.phase)

      t : (x.node.view.timer ≤ (ticking x).state.view.timer) × ((ticking x).state.view.timer ≤ x.node.view.timer + 1)
      t = waited-least d x y r ux uy hx c w

      less : (a b c e : ℕ) → a ≤ b + 1 → a + e + 1 - c ≤ b + e + 1 - c + 1
      less a b c e h = omega (arith, h)

      nothing : wire_after y ≡ leftovers y
      nothing = same_wire y (hy.sends (shaking-silent y.node.view.phase sh)) v.sends_none

      older :
          AllAsOldAs (x.node.view.timer + d + 1 - x.node.view.wait) y.wire →
          AllAsOldAs ((ticking x).state.view.timer + d + 1 - (ticking x).state.view.wait)
          (wire_after y)
      older e =
          subst (AllAsOldAs ((ticking x).state.view.timer + d + 1 - (ticking x).state.view.wait)) (sym nothing)
          (AllAsOldAs-less ((ticking x).state.view.timer + d + 1 - (ticking x).state.view.wait) (x.node.view.timer + d + 1 - x.node.view.wait + 1) (leftovers y)
          (subst (λ u. (ticking x).state.view.timer + d + 1 - u ≤ x.node.view.timer + d + 1 - x.node.view.wait + 1) (sym nx.wait)
          (less (ticking x).state.view.timer x.node.view.timer x.node.view.wait d t.1))
          (kept_since y (x.node.view.timer + d + 1 - x.node.view.wait) e))

  -- y asks again, and is seen before the wait of x is over
  pub not-again :
      x.node.view.phase ≡ phase.Contend → is_shaking y.node.view.phase ≡ true →
      AskedAgain (raise_timer (hearing x).state) (ticking x).state →
      AllAsOldAs (x.node.view.timer + d + 1 - x.node.view.wait) y.wire → ⊥
  not-again c sh b e =
      let o = over-timer d x y r ux uy hx c b.over in
      let none : y.wire ≡ [] = none-so-old d (x.node.view.timer + d + 1 - x.node.view.wait) y.wire r.pair.some_delay (omega (arith, o.0, r.pair.some_delay)) e r.pair.other.ages in
      other-level (level_shown (hearing x).state x.port) (asks-here d x y r sh uy none) (again-sees d x y r b (up-mid d x y r hx ux))

  -- both are in T3 with unequal coins, x with the long wait: it isn't over yet
  pub not-over :
      HaveMet d x.node x.clock y.node y.clock → x.node.view.wait ≤ x.node.view.timer + 1 →
      last_coin x.node ≡ true → last_coin y.node ≡ false → ⊥
  not-over m o e f =
      let lo : x.node.timing.long ≤ x.node.view.wait = coin-long x.node e in
      let sh : y.node.view.wait ≤ y.node.timing.short = coin-short y.node r.other m.there f in
      omega (arith, lo, sh, o, near-room d x.node y.node y.clock m.near (apart d x y r), r.other.waits m.there, r.pair.some_delay)

  -- no rival is seen while both are in T3
  pub took-none :
      HaveMet d x.node x.clock y.node y.clock → TookRival (raise_timer (hearing x).state) (ticking x).state → ⊥
  took-none m t =
      let o = over-timer d x y r ux uy hx m.here t.over in
      idle-parent (level_shown (hearing x).state x.port)
      (long-idle d y x s2 uy ux m.there (omega (arith, o.1, near-most d x.node y.node y.clock m.near, r.pair.some_delay)))
      (took-sees d x y r t (up-mid d x y r hx ux))

-- two waits that go on stay near
near-on :
    (d : ℕ) (x y : Side) (r : Rivals d x y) (ux : is_port x.node.view.parent x.port ≡ true)
    (uy : is_port y.node.view.parent y.port ≡ true) → NoEntry x.node (hearing x) →
    NoEntry y.node (hearing y) → x.node.view.phase ≡ phase.Contend →
    y.node.view.phase ≡ phase.Contend →
    Waits x.beat (hearing x).state (ticking x).state (ticking x).sends →
    Waits y.beat (hearing y).state (ticking y).state (ticking y).sends →
    (ticking y).state.view.wait ≡ y.node.view.wait → IsNear d x.node y.node y.clock →
    IsNear d (ticking x).state (ticking y).state (clock_after y.clock)
near-on d x y r ux uy hx hy cx cy w v same near = go (waited-timer d y x s uy ux hy cy v).0 near
  where
    s : Rivals d y x
    s = swapped d x y r

    up : (ticking x).state.view.timer ≤ x.node.view.timer + 1
    up = (waited-least d x y r ux uy hx cx w).1

    under : y.node.view.timer < y.node.view.wait
    under = r.other.waits cy

    -- the rest of the wait, and one turn
    rest : ℕ
    rest = y.node.view.wait - y.node.view.timer - 1

    split : y.node.view.wait - y.node.view.timer ≡ suc rest
    split = omega (arith, under)

    -- times stay
    times :
        y.node.timing.short + 2 * d < x.node.timing.long →
        (ticking y).state.timing.short + 2 * d < (ticking x).state.timing.long
    times h = omega (arith, h, ap (λ (t : Timing). t.short) (r.pair.other.ticks.timing ∙ r.pair.other.hears.timing), ap (λ (t : Timing). t.long) (r.pair.near.ticks.timing ∙ r.pair.near.hears.timing))

    go :
        ((y.beat ≡ None) × ((ticking y).state.view.timer ≡ y.node.view.timer))
        ⊎ ((ticking y).state.view.timer ≡ y.node.view.timer + 1) →
        IsNear d x.node y.node y.clock → IsNear d (ticking x).state (ticking y).state (clock_after y.clock)
    go (inr t) (inl a) = inl (omega (arith, up, t, a))
    go (inr t) (inr a) =
        let left : (ticking y).state.view.wait - (ticking y).state.view.timer ≡ rest = omega (arith, same, t, split) in
        inr (omega (arith, up, t, a.0), subst (λ n. TicksFor n (clock_after y.clock)) (sym left) (ticks-later rest y.clock (subst (λ n. TicksFor n y.clock) split a.1)), times a.2)
    go (inl t) (inl a) =
        let left : (ticking y).state.view.wait - (ticking y).state.view.timer ≤ y.node.timing.long = omega (arith, same, t.1, wait-counted d y x s uy ux cy) in
        let slow = missed-by y r.beats_back t.0 in
        inr (omega (arith, up, t.1, a), ticks-fewer _ y.node.timing.long (clock_after y.clock) left slow.0, times (apart-slow d x y r slow.1))
    go (inl t) (inr a) = absurd (misses-none rest y.clock (subst (λ n. TicksFor n y.clock) split a.1) (r.beats_back.missed t.0))

module _
    (d : ℕ) (x y : Side) (r : Rivals d x y) (ux : is_port x.node.view.parent x.port ≡ true)
    (uy : is_port y.node.view.parent y.port ≡ true) (hx : NoEntry x.node (hearing x))
    (hy : NoEntry y.node (hearing y)) where
  s3 : Rivals d y x
  s3 = swapped d x y r

  both-shaking : AreAlike x.node y.node → After d x y r ux uy hx hy
  both-shaking a = go (shaken d x y r ux uy hx a.here) (shaken d y x s3 uy ux hy a.there)
    where
      go :
          Shook (hearing x).state (ticking x).state (ticking x).sends
          ⊎ Drew (coin_of x.beat) (hearing x).state (ticking x).state →
          Shook (hearing y).state (ticking y).state (ticking y).sends
          ⊎ Drew (coin_of y.beat) (hearing y).state (ticking y).state →
          After d x y r ux uy hx hy
      go (inl b) (inl c) =
          let nx : DrewNone x.node (ticking x).state = shook-none d x y r ux uy hx hy b in
          let ny : DrewNone y.node (ticking y).state = shook-none d y x s3 uy ux hy hx c in
          inl (record {
            here = b.phase;
            there = c.phase;
            drew = record { draws = nx.draws ∙ a.drew.draws ∙ sym ny.draws; first_draws = nx.first_draws ∙ a.drew.first_draws ∙ sym ny.first_draws };
          })
      go (inr b) (inl c) = inr (inr (inl (first-draw d x y r ux uy hx hy a.drew (shook-none d y x s3 uy ux hy hx c) b c.phase)))
      go (inl b) (inr c) = inr (inr (inr (first-draw d y x s3 uy ux hy hx (same-round x.node y.node a.drew) (shook-none d x y r ux uy hx hy b) c b.phase)))
      go (inr b) (inr c) = inr (inl (record {
        here = b.phase;
        there = c.phase;
        drew = record {
          draws = x.node.view.draws;
          first = x.node.view.first_draws;
          here = adds-draw d x y r hx b;
          there = subst (λ f. AddsDraw x.node.view.draws f (ticking y).state) (sym a.drew.first_draws)
              (subst (λ k. AddsDraw k y.node.view.first_draws (ticking y).state) (sym a.drew.draws) (adds-draw d y x s3 hy c));
        };
        near = inl (omega (arith, b.timer, c.timer, r.pair.some_delay));
        far = inl (omega (arith, b.timer, c.timer, r.pair.some_delay));
      }))

  both-waiting : HaveMet d x.node x.clock y.node y.clock → After d x y r ux uy hx hy
  both-waiting m = go (fought d x y r ux uy hx m.here) (fought d y x s3 uy ux hy m.there)
    where
      back : HaveMet d y.node y.clock x.node x.clock
      back = record { here = m.there; there = m.here; drew = together-round x.node y.node m.drew; near = m.far; far = m.near }

      nx : DrewNone x.node (ticking x).state
      nx = contend-none d x y r ux uy hx hy m.here

      ny : DrewNone y.node (ticking y).state
      ny = contend-none d y x s3 uy ux hy hx m.there

      equal :
          x.node.view.wait ≤ x.node.view.timer + 1 → y.node.view.wait ≤ y.node.view.timer + 1 →
          (b c : Bool) → last_coin x.node ≡ b → last_coin y.node ≡ c →
          last_coin x.node ≡ last_coin y.node
      equal o p true true e f = e ∙ sym f
      equal o p false false e f = e ∙ sym f
      equal o p true false e f = absurd (not-over d x y r ux uy hx hy m o e f)
      equal o p false true e f = absurd (not-over d y x s3 uy ux hy hx back p f e)

      go :
          Fights x.beat (hearing x).state (ticking x).state (ticking x).sends →
          Fights y.beat (hearing y).state (ticking y).state (ticking y).sends →
          After d x y r ux uy hx hy
      go (inr (inl t)) q = absurd (took-none d x y r ux uy hx hy m t)
      go (inl w) (inr (inl t)) = absurd (took-none d y x s3 uy ux hy hx back t)
      go (inr (inr a)) (inr (inl t)) = absurd (took-none d y x s3 uy ux hy hx back t)
      go (inl w) (inl v) =
          inr (inl (record {
            here = w.phase;
            there = v.phase;
            drew = record { draws = m.drew.draws; first = m.drew.first; here = adds-still d x y r nx m.drew.draws m.drew.first m.drew.here; there = adds-still d y x s3 ny m.drew.draws m.drew.first m.drew.there };
            near = near-on d x y r ux uy hx hy m.here m.there w v ny.wait m.near;
            far = near-on d y x s3 uy ux hy hx m.there m.here v w nx.wait m.far;
          }))
      go (inl w) (inr (inr a)) = inr (inr (inl (record { here = w.phase; there = ap is_shaking a.phase; how = inr (waits-on d x y r ux uy hx hy m w a) })))
      go (inr (inr a)) (inl w) = inr (inr (inr (record { here = w.phase; there = ap is_shaking a.phase; how = inr (waits-on d y x s3 uy ux hy hx back w a) })))
      go (inr (inr a)) (inr (inr b)) =
          let o = (over-timer d x y r ux uy hx m.here a.over).0 in
          let p = (over-timer d y x s3 uy ux hy m.there b.over).0 in
          let same : DrewTheSame x.node y.node = same-coins x.node y.node m.drew (equal o p (last_coin x.node) (last_coin y.node) refl refl) in
          inl (record {
            here = ap is_shaking a.phase;
            there = ap is_shaking b.phase;
            drew = record { draws = nx.draws ∙ same.draws ∙ sym ny.draws; first_draws = nx.first_draws ∙ same.first_draws ∙ sym ny.first_draws };
          })

  one-waiting :
      AreApart d x.node x.port y.node y.wire → is_port (ticking x).state.view.parent x.port ≡ true →
      After d x y r ux uy hx hy
  one-waiting a stays = go (fought d x y r ux uy hx a.here) (shaken d y x s3 uy ux hy a.there)
    where
      nx : DrewNone x.node (ticking x).state
      nx = contend-none d x y r ux uy hx hy a.here

      -- y draws too
      meets :
          Waits x.beat (hearing x).state (ticking x).state (ticking x).sends →
          Drew (coin_of y.beat) (hearing y).state (ticking y).state →
          IsAhead x.node x.port y.node ⊎ AsksAgain d x.node y.node y.wire →
          DrewTogether (ticking x).state (ticking y).state
      meets w v (inl h) = record { draws = y.node.view.draws; first = y.node.view.first_draws; here = adds-still d x y r nx y.node.view.draws y.node.view.first_draws h.drew; there = adds-draw d y x s3 hy v }
      meets w v (inr h) = absurd (omega (arith, h.long, young d x y r ux uy a.here hx hy v))

      -- it doesn't, and the wait goes on
      waits :
          Waits x.beat (hearing x).state (ticking x).state (ticking x).sends →
          Shook (hearing y).state (ticking y).state (ticking y).sends →
          IsAhead x.node x.port y.node ⊎ AsksAgain d x.node y.node y.wire →
          IsAhead (ticking x).state x.port (ticking y).state
          ⊎ AsksAgain d (ticking x).state (ticking y).state (wire_after y)
      waits w v (inl h) =
          let ny : DrewNone y.node (ticking y).state = shook-none d y x s3 uy ux hy hx v in
          let kept_draws = adds-still d x y r nx y.node.view.draws y.node.view.first_draws h.drew in
          inl (record {
            drew = subst (λ f. AddsDraw (ticking y).state.view.draws f (ticking x).state) (sym ny.first_draws) (subst (λ k. AddsDraw k y.node.view.first_draws (ticking x).state) (sym ny.draws) kept_draws);
            shown = r.pair.near.ticks.shown x.port ∙ asks-on d x y r a.there uy h.shown;
          })
      waits w v (inr h) = inr (asks-still d x y r ux uy hx hy a.here a.there w v h)

      -- the wait is over, and no Parent is shown
      again :
          AskedAgain (raise_timer (hearing x).state) (ticking x).state →
          IsAhead x.node x.port y.node ⊎ AsksAgain d x.node y.node y.wire →
          DrewTheSame x.node y.node
      again b (inl h) = absurd (other-level (level_shown (hearing x).state x.port) (asks-on d x y r a.there uy h.shown) (again-sees d x y r b (up-mid d x y r hx ux)))
      again b (inr h) = elim h.coins [
        | inl e ↦ same-coins x.node y.node h.drew e
        | inr e ↦ absurd (not-again d x y r ux uy hx hy a.here a.there b e.2)
      ]

      over-young :
          (hearing x).state.view.wait ≤ risen (hearing x).state.view.timer →
          Drew (coin_of y.beat) (hearing y).state (ticking y).state → ⊥
      over-young o v = omega (arith, (over-timer d x y r ux uy hx a.here o).1, young d x y r ux uy a.here hx hy v, r.pair.some_delay)

      go :
          Fights x.beat (hearing x).state (ticking x).state (ticking x).sends →
          Shook (hearing y).state (ticking y).state (ticking y).sends
          ⊎ Drew (coin_of y.beat) (hearing y).state (ticking y).state →
          After d x y r ux uy hx hy
      go (inl w) (inl v) = inr (inr (inl (record { here = w.phase; there = v.phase; how = waits w v a.how })))
      go (inl w) (inr v) =
          let t = (waited-least d x y r ux uy hx a.here w).1 in
          let u = young d x y r ux uy a.here hx hy v in
          inr (inl (record {
            here = w.phase;
            there = v.phase;
            drew = meets w v a.how;
            near = inl (omega (arith, t, u, v.timer));
            far = inl (omega (arith, v.timer, r.pair.some_delay));
          }))
      go (inr (inl b)) q = contrary stays (ap (λ o. is_port o x.port) b.root)
      go (inr (inr b)) (inl v) =
          let ny : DrewNone y.node (ticking y).state = shook-none d y x s3 uy ux hy hx v in
          let same : DrewTheSame x.node y.node = again b a.how in
          inl (record {
            here = ap is_shaking b.phase;
            there = v.phase;
            drew = record { draws = nx.draws ∙ same.draws ∙ sym ny.draws; first_draws = nx.first_draws ∙ same.first_draws ∙ sym ny.first_draws };
          })
      go (inr (inr b)) (inr v) = absurd (over-young b.over v)

-- two nodes that have each other for parent, before and after
pub stand-after :
    (d : ℕ) (x y : Side) → Rivals d x y → is_port x.node.view.parent x.port ≡ true →
    is_port y.node.view.parent y.port ≡ true → NoEntry x.node (hearing x) →
    NoEntry y.node (hearing y) →
    is_port (ticking x).state.view.parent x.port ≡ true →
    is_port (ticking y).state.view.parent y.port ≡ true →
    AreRivals d (ticking x).state (clock_after x.clock) x.port (wire_after x) (ticking y).state (clock_after y.clock) y.port (wire_after y)
stand-after d x y r ux uy hx hy vx vy = go (r.here.rivals ux uy)
  where
    go :
        AreRivals d x.node x.clock x.port x.wire y.node y.clock y.port y.wire →
        AreRivals d (ticking x).state (clock_after x.clock) x.port (wire_after x) (ticking y).state (clock_after y.clock) y.port (wire_after y)
    go (inl a) = both-shaking d x y r ux uy hx hy a
    go (inr (inl m)) = both-waiting d x y r ux uy hx hy m
    go (inr (inr (inl a))) = one-waiting d x y r ux uy hx hy a vx
    go (inr (inr (inr a))) =
        stand-round d (ticking y).state (clock_after y.clock) y.port (wire_after y) (ticking x).state (clock_after x.clock) x.port (wire_after x) (one-waiting d y x (swapped d x y r) uy ux hy hx a vy)

-- ---- how long a wait is

-- It has lasted for so many turns, of which the clock missed one at most. Then a long wait is shorter than
-- the longest, and clocks have slack.
abbrev pub HasWaited : ℕ → ℕ → ℕ → NodeState → Clock → Type 0
HasWaited most slack i x c =
    (i ≤ x.view.timer)
    ⊎ ((i ≤ x.view.timer + 1) × TicksFor (x.view.wait - x.view.timer) c
    × (x.timing.long + 1 ≤ most) × (1 ≤ slack))

pub waited-most :
    (most slack i : ℕ) (x : NodeState) (c : Clock) → HasWaited most slack i x c → i ≤ x.view.timer + slack
waited-most most slack i x c (inl a) = omega (arith, a)
waited-most most slack i x c (inr a) = omega (arith, a.0, a.3)

-- it isn't so long
pub waited-less :
    (most slack i : ℕ) (x : NodeState) (c : Clock) → x.view.timer < x.timing.long → x.timing.long ≤ most →
    HasWaited most slack i x c → i < most
waited-less most slack i x c u l (inl a) = omega (arith, a, u, l)
waited-less most slack i x c u l (inr a) = omega (arith, a.0, u, a.2)

-- what is known where a clock misses a turn
abbrev pub MissesSlowly : ℕ → ℕ → Side → Type 0
MissesSlowly most slack x = x.beat ≡ None → (x.node.timing.long + 1 ≤ most) × (1 ≤ slack)

module _
    (d : ℕ) (x y : Side) (r : Rivals d x y) (ux : is_port x.node.view.parent x.port ≡ true)
    (uy : is_port y.node.view.parent y.port ≡ true) (hx : NoEntry x.node (hearing x))
    (cx : x.node.view.phase ≡ phase.Contend) where
  pub waited-on :
      Waits x.beat (hearing x).state (ticking x).state (ticking x).sends →
      (ticking x).state.view.wait ≡ x.node.view.wait → (most slack i : ℕ) → MissesSlowly most slack x →
      HasWaited most slack i x.node x.clock →
      HasWaited most slack (i + 1) (ticking x).state (clock_after x.clock)
  waited-on w same most slack i slowly = go (waited-timer d x y r ux uy hx cx w).0
    where
      -- the rest of the wait, and one turn
      rest : ℕ
      rest = x.node.view.wait - x.node.view.timer - 1

      split : x.node.view.wait - x.node.view.timer ≡ suc rest
      split = omega (arith, r.near.waits cx)

      long-on : x.node.timing.long + 1 ≤ most → (ticking x).state.timing.long + 1 ≤ most
      long-on h = omega (arith, h, ap (λ (t : Timing). t.long) (r.pair.near.ticks.timing ∙ r.pair.near.hears.timing))

      go :
          ((x.beat ≡ None) × ((ticking x).state.view.timer ≡ x.node.view.timer))
          ⊎ ((ticking x).state.view.timer ≡ x.node.view.timer + 1) →
          HasWaited most slack i x.node x.clock →
          HasWaited most slack (i + 1) (ticking x).state (clock_after x.clock)
      go (inr t) (inl a) = inl (omega (arith, t, a))
      go (inr t) (inr a) =
          let left : (ticking x).state.view.wait - (ticking x).state.view.timer ≡ rest = omega (arith, same, t, split) in
          inr (omega (arith, t, a.0), subst (λ n. TicksFor n (clock_after x.clock)) (sym left) (ticks-later rest x.clock (subst (λ n. TicksFor n x.clock) split a.1)), long-on a.2, a.3)
      go (inl t) (inl a) =
          let left : (ticking x).state.view.wait - (ticking x).state.view.timer ≤ x.node.timing.long = omega (arith, same, t.1, wait-counted d x y r ux uy cx) in
          let slow = missed-by x r.beats t.0 in
          let known = slowly t.0 in
          inr (omega (arith, t.1, a), ticks-fewer _ x.node.timing.long (clock_after x.clock) left slow.0, long-on known.0, known.1)
      go (inl t) (inr a) = absurd (misses-none rest x.clock (subst (λ n. TicksFor n x.clock) split a.1) (r.beats.missed t.0))
