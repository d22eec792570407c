-- What becomes of two rivals in T2 and T3 in a turn, by the phases they are in.
use Rattle.std.proofs.Common.{◌≡◌, ◌⊎◌, inl, inr, ℕ, ◌+◌, ◌*◌, ◌<◌, ◌≤◌, true, false, None, refl, sym, ◌∙◌, ap, arith, true≢false}
use Rattle.std.specs.Prelude.{min}
use Rattle.port_state.specs.declared.signal.Level.TheVariants as level
use Rattle.convergence.proofs.Common.{Phase, NodeState, is_parent, is_port, is_shaking, level_shown, NoEntry, Side, hearing, ticking, HaveMet, AreRivals}
use Rattle.port_state.specs.declared.signal.Phase.TheVariants as phase
use Rattle.port_state.specs.Clock.{Clock, clock_after}
use Rattle.convergence.proofs.turns.Moves.{Drew, coin_of}
use Rattle.convergence.proofs.coins.Rivals.{Rivals, swapped, other-level, no-contend, up-mid, drew-sees, again-sees, draws-not, asks-on}
use Rattle.convergence.proofs.coins.Stands.{shaken, fought, near-most, HasWaited, MissesSlowly, waited-most, waited-least, waited-on, over-timer, contend-none, long-undrawn}
use Rattle.convergence.proofs.turns.Weights.{beat-child-shake-by}
use Rattle.convergence.proofs.turns.PhaseFacts.{not-shake}

shake-parent :
    (f : Phase) → is_shaking f ≡ true → (f ≡ phase.ChildShake → ⊥) → f ≡ phase.ParentShake
shake-parent phase.ChildShake s n = absurd (n refl)
shake-parent phase.ParentShake s n = refl
shake-parent f s n = absurd (true≢false (sym s))

apart-two : (f : Phase) → f ≡ phase.ParentShake → f ≡ phase.TreeStart → ⊥
apart-two f a b = cc

apart-three : (f : Phase) → f ≡ phase.ParentShake → f ≡ phase.Contend → ⊥
apart-three f a b = cc

-- two rivals, with at least m draws each
pub record Stands (p : ℕ) (m : ℕ) (x : NodeState) : Type 0 where
  pub up : is_port x.view.parent p ≡ true
  pub draws : m ≤ x.view.draws

-- both in T3 for so many turns
pub record BothWait (most slack i p q m : ℕ) (x : NodeState) (c : Clock) (y : NodeState) (e : Clock) : Type 0 where
  pub here : Stands p m x
  pub there : Stands q m y
  pub contends : x.view.phase ≡ phase.Contend
  pub contends_too : y.view.phase ≡ phase.Contend
  pub waited : HasWaited most slack i x c
  pub waited_too : HasWaited most slack i y e

-- the first is, for d turns at least, and the other asks
pub record OneWaits (d most slack i p q m : ℕ) (x : NodeState) (c : Clock) (y : NodeState) (e : Clock) : Type 0 where
  pub here : Stands p m x
  pub there : Stands q m y
  pub contends : x.view.phase ≡ phase.Contend
  pub asks : y.view.phase ≡ phase.ParentShake
  pub long : d ≤ x.view.timer
  pub waited : HasWaited most slack i x c

-- both ask
pub record BothAsk (p q m : ℕ) (x : NodeState) (c : Clock) (y : NodeState) (e : Clock) : Type 0 where
  pub here : Stands p m x
  pub there : Stands q m y
  pub asks : x.view.phase ≡ phase.ParentShake
  pub asks_too : y.view.phase ≡ phase.ParentShake

-- the first drew once more, and is shown that the other asks
pub record OneAhead (most slack i p q m : ℕ) (x : NodeState) (c : Clock) (y : NodeState) (e : Clock) : Type 0 where
  pub here : Stands p (m + 1) x
  pub there : Stands q m y
  pub contends : x.view.phase ≡ phase.Contend
  pub asks : y.view.phase ≡ phase.ParentShake
  pub shown : level_shown x p ≡ level.Parent
  pub waited : HasWaited most slack i x c

-- in T2 or T3
pub record AreUp (p q m : ℕ) (x : NodeState) (c : Clock) (y : NodeState) (e : Clock) : Type 0 where
  pub here : Stands p m x
  pub there : Stands q m y
  pub first : (x.view.phase ≡ phase.ParentShake) ⊎ (x.view.phase ≡ phase.Contend)
  pub second : (y.view.phase ≡ phase.ParentShake) ⊎ (y.view.phase ≡ phase.Contend)

module _
    (d : ℕ) (x y : Side) (r : Rivals d x y) (ux : is_port x.node.view.parent x.port ≡ true)
    (uy : is_port y.node.view.parent y.port ≡ true) (hx : NoEntry x.node (hearing x))
    (hy : NoEntry y.node (hearing y)) where
  record Held : Type 0 where
    pub phase : (ticking x).state.view.phase ≡ phase.ParentShake
    pub up : is_port (ticking x).state.view.parent x.port ≡ true
    pub draws : (ticking x).state.view.draws ≡ x.node.view.draws

  record Begun : Type 0 where
    pub drew : Drew (coin_of x.beat) (hearing x).state (ticking x).state
    pub up : is_port (ticking x).state.view.parent x.port ≡ true
    pub draws : (ticking x).state.view.draws ≡ min (x.node.view.draws + 1) 65535
    pub shown : level_shown (ticking x).state x.port ≡ level.Parent

  record OnWait : Type 0 where
    pub phase : (ticking x).state.view.phase ≡ phase.Contend
    pub up : is_port (ticking x).state.view.parent x.port ≡ true
    pub timer : x.node.view.timer ≤ (ticking x).state.view.timer
    pub waited :
        (most slack i : ℕ) → MissesSlowly most slack x → HasWaited most slack i x.node x.clock →
        HasWaited most slack (i + 1) (ticking x).state (clock_after x.clock)
    pub draws : (ticking x).state.view.draws ≡ x.node.view.draws

  record OnAsk : Type 0 where
    pub phase : (ticking x).state.view.phase ≡ phase.ParentShake
    pub up : is_port (ticking x).state.view.parent x.port ≡ true
    pub draws : (ticking x).state.view.draws ≡ x.node.view.draws
    pub shown : is_parent (level_shown (hearing x).state x.port) ≡ false
    pub over : 2 * d ≤ x.node.view.timer

  -- out of T2
  asked : x.node.view.phase ≡ phase.ParentShake → Held ⊎ Begun
  asked t = elim (shaken d x y r ux uy hx (ap is_shaking t)) [
    | inl s ↦ inl (record {
      phase = shake-parent (ticking x).state.view.phase s.phase (λ c. elim (beat-child-shake-by x.beat (hearing x).state c) [
        | inl e ↦ not-shake x.node.view.phase t (sym hx.phase ∙ e)
        | inr e ↦ elim e [ inl e ↦ apart-two x.node.view.phase t (sym hx.phase ∙ e) | inr e ↦ apart-three x.node.view.phase t (sym hx.phase ∙ e) ]
      ]);
      up = ap (λ o. is_port o x.port) s.parent ∙ up-mid d x y r hx ux;
      draws = (draws-not d x y r hx (λ w. no-contend (ticking x).state.view.phase s.phase w.phase)).draws;
    })
    | inr w ↦ inr (record {
      drew = w;
      up = ap (λ o. is_port o x.port) w.stays ∙ up-mid d x y r hx ux;
      draws = w.draws ∙ ap (λ n. min (n + 1) 65535) hx.draws;
      shown = r.pair.near.ticks.shown x.port ∙ drew-sees d x y r w (up-mid d x y r hx ux);
    })
  ]

  -- out of T3
  waited :
      x.node.view.phase ≡ phase.Contend → OnWait ⊎ (OnAsk ⊎ ((ticking x).state.view.parent ≡ None))
  waited t = elim (fought d x y r ux uy hx t) [
    | inl w ↦ inl (record {
      phase = w.phase;
      up = ap (λ o. is_port o x.port) w.parent ∙ up-mid d x y r hx ux;
      timer = (waited-least d x y r ux uy hx t w).0;
      waited = waited-on d x y r ux uy hx t w (contend-none d x y r ux uy hx hy t).wait;
      draws = (contend-none d x y r ux uy hx hy t).draws;
    })
    | inr w ↦ elim w [
      | inl w ↦ inr (inr w.root)
      | inr w ↦ inr (inl (record {
        phase = w.phase;
        up = ap (λ o. is_port o x.port) w.stays ∙ up-mid d x y r hx ux;
        draws = (contend-none d x y r ux uy hx hy t).draws;
        shown = again-sees d x y r w (up-mid d x y r hx ux);
        over = (over-timer d x y r ux uy hx t w.over).1;
      }))
    ]
  ]

module _
    (d : ℕ) (x y : Side) (r : Rivals d x y) (ux : is_port x.node.view.parent x.port ≡ true)
    (uy : is_port y.node.view.parent y.port ≡ true) (hx : NoEntry x.node (hearing x))
    (hy : NoEntry y.node (hearing y)) (most slack : ℕ) (slow_x : MissesSlowly most slack x)
    (slow_y : MissesSlowly most slack y) where
  sw : Rivals d y x
  sw = swapped d x y r

  abbrev X : NodeState
  X = (ticking x).state

  abbrev Y : NodeState
  Y = (ticking y).state

  abbrev CX : Clock
  CX = clock_after x.clock

  abbrev CY : Clock
  CY = clock_after y.clock

  abbrev Rooted : Type 0
  Rooted = (X.view.parent ≡ None) ⊎ (Y.view.parent ≡ None)

  more : (m n k : ℕ) → m ≤ n → m ≤ 64 → k ≡ min (n + 1) 65535 → m + 1 ≤ k
  more m n k h s e = omega (arith, h, s, e)

  keep : (m n k : ℕ) → m ≤ n → k ≡ n → m ≤ k
  keep m n k h e = omega (arith, h, e)

  pub step-both-wait : (i m : ℕ) → BothWait most slack i x.port y.port m x.node x.clock y.node y.clock →
      (BothWait most slack (i + 1) x.port y.port m X CX Y CY
      ⊎ (OneWaits d most slack (i + 1) x.port y.port m X CX Y CY ⊎ OneWaits d most slack (i + 1) y.port x.port m Y CY X CX))
      ⊎ (BothAsk x.port y.port m X CX Y CY ⊎ Rooted)
  step-both-wait i m s = go (waited d x y r ux uy hx hy s.contends) (waited d y x sw uy ux hy hx s.contends_too)
    where
      met : HaveMet d x.node x.clock y.node y.clock
      met = both (r.here.rivals ux uy)
        where
          both : AreRivals d x.node x.clock x.port x.wire y.node y.clock y.port y.wire → HaveMet d x.node x.clock y.node y.clock
          both (inl a) = absurd (no-contend x.node.view.phase a.here s.contends)
          both (inr (inl m)) = m
          both (inr (inr (inl a))) = absurd (no-contend y.node.view.phase a.there s.contends_too)
          both (inr (inr (inr a))) = absurd (no-contend x.node.view.phase a.there s.contends)

      go :
          OnWait d x y r ux uy hx hy ⊎ (OnAsk d x y r ux uy hx hy ⊎ (X.view.parent ≡ None)) →
          OnWait d y x sw uy ux hy hx ⊎ (OnAsk d y x sw uy ux hy hx ⊎ (Y.view.parent ≡ None)) →
          (BothWait most slack (i + 1) x.port y.port m X CX Y CY
          ⊎ (OneWaits d most slack (i + 1) x.port y.port m X CX Y CY ⊎ OneWaits d most slack (i + 1) y.port x.port m Y CY X CX))
          ⊎ (BothAsk x.port y.port m X CX Y CY ⊎ Rooted)
      go (inr (inr a)) b = inr (inr (inl a))
      go a (inr (inr b)) = inr (inr (inr b))
      go (inl a) (inl b) = inl (inl (record {
        here = record { up = a.up; draws = keep m x.node.view.draws X.view.draws s.here.draws a.draws };
        there = record { up = b.up; draws = keep m y.node.view.draws Y.view.draws s.there.draws b.draws };
        contends = a.phase;
        contends_too = b.phase;
        waited = a.waited most slack i slow_x s.waited;
        waited_too = b.waited most slack i slow_y s.waited_too;
      }))
      go (inl a) (inr (inl b)) = inl (inr (inl (record {
        here = record { up = a.up; draws = keep m x.node.view.draws X.view.draws s.here.draws a.draws };
        there = record { up = b.up; draws = keep m y.node.view.draws Y.view.draws s.there.draws b.draws };
        contends = a.phase;
        asks = b.phase;
        long = omega (arith, a.timer, b.over, near-most d y.node x.node x.clock met.far);
        waited = a.waited most slack i slow_x s.waited;
      })))
      go (inr (inl a)) (inl b) = inl (inr (inr (record {
        here = record { up = b.up; draws = keep m y.node.view.draws Y.view.draws s.there.draws b.draws };
        there = record { up = a.up; draws = keep m x.node.view.draws X.view.draws s.here.draws a.draws };
        contends = b.phase;
        asks = a.phase;
        long = omega (arith, b.timer, a.over, near-most d x.node y.node y.clock met.near);
        waited = b.waited most slack i slow_y s.waited_too;
      })))
      go (inr (inl a)) (inr (inl b)) = inr (inl (record {
        here = record { up = a.up; draws = keep m x.node.view.draws X.view.draws s.here.draws a.draws };
        there = record { up = b.up; draws = keep m y.node.view.draws Y.view.draws s.there.draws b.draws };
        asks = a.phase;
        asks_too = b.phase;
      }))

  pub step-one-waits :
      (i m : ℕ) → OneWaits d most slack i x.port y.port m x.node x.clock y.node y.clock → OneWaits d most slack (i + 1)
      x.port y.port m X CX Y CY ⊎ (BothAsk x.port y.port m X CX Y CY ⊎ Rooted)
  step-one-waits i m s = go (waited d x y r ux uy hx hy s.contends) (asked d y x sw uy ux hy hx s.asks)
    where
      go :
          OnWait d x y r ux uy hx hy ⊎ (OnAsk d x y r ux uy hx hy ⊎ (X.view.parent ≡ None)) →
          Held d y x sw uy ux hy hx ⊎ Begun d y x sw uy ux hy hx → OneWaits d most slack (i + 1)
          x.port y.port m X CX Y CY ⊎ (BothAsk x.port y.port m X CX Y CY ⊎ Rooted)
      go a (inr b) = absurd (long-undrawn d x y r ux uy s.contends s.long hy b.drew)
      go (inr (inr a)) (inl b) = inr (inr (inl a))
      go (inl a) (inl b) = inl (record {
        here = record { up = a.up; draws = keep m x.node.view.draws X.view.draws s.here.draws a.draws };
        there = record { up = b.up; draws = keep m y.node.view.draws Y.view.draws s.there.draws b.draws };
        contends = a.phase;
        asks = b.phase;
        long = omega (arith, s.long, a.timer);
        waited = a.waited most slack i slow_x s.waited;
      })
      go (inr (inl a)) (inl b) = inr (inl (record {
        here = record { up = a.up; draws = keep m x.node.view.draws X.view.draws s.here.draws a.draws };
        there = record { up = b.up; draws = keep m y.node.view.draws Y.view.draws s.there.draws b.draws };
        asks = a.phase;
        asks_too = b.phase;
      }))

  pub step-both-ask : (m : ℕ) → m ≤ 64 → BothAsk x.port y.port m x.node x.clock y.node y.clock →
      BothAsk x.port y.port m X CX Y CY
      ⊎ (AreUp x.port y.port (m + 1) X CX Y CY ⊎ (OneAhead most slack 0 x.port y.port m X CX Y CY ⊎ OneAhead most slack 0 y.port x.port m Y CY X CX))
  step-both-ask m small s = go (asked d x y r ux uy hx hy s.asks) (asked d y x sw uy ux hy hx s.asks_too)
    where
      go :
          Held d x y r ux uy hx hy ⊎ Begun d x y r ux uy hx hy →
          Held d y x sw uy ux hy hx ⊎ Begun d y x sw uy ux hy hx →
          BothAsk x.port y.port m X CX Y CY
          ⊎ (AreUp x.port y.port (m + 1) X CX Y CY ⊎ (OneAhead most slack 0 x.port y.port m X CX Y CY ⊎ OneAhead most slack 0 y.port x.port m Y CY X CX))
      go (inl a) (inl b) = inl (record {
        here = record { up = a.up; draws = keep m x.node.view.draws X.view.draws s.here.draws a.draws };
        there = record { up = b.up; draws = keep m y.node.view.draws Y.view.draws s.there.draws b.draws };
        asks = a.phase;
        asks_too = b.phase;
      })
      go (inr a) (inr b) = inr (inl (record {
        here = record { up = a.up; draws = more m x.node.view.draws X.view.draws s.here.draws small a.draws };
        there = record { up = b.up; draws = more m y.node.view.draws Y.view.draws s.there.draws small b.draws };
        first = inr a.drew.phase;
        second = inr b.drew.phase;
      }))
      go (inr a) (inl b) = inr (inr (inl (record {
        here = record { up = a.up; draws = more m x.node.view.draws X.view.draws s.here.draws small a.draws };
        there = record { up = b.up; draws = keep m y.node.view.draws Y.view.draws s.there.draws b.draws };
        contends = a.drew.phase;
        asks = b.phase;
        shown = a.shown;
        waited = inl (omega arith);
      })))
      go (inl a) (inr b) = inr (inr (inr (record {
        here = record { up = b.up; draws = more m y.node.view.draws Y.view.draws s.there.draws small b.draws };
        there = record { up = a.up; draws = keep m x.node.view.draws X.view.draws s.here.draws a.draws };
        contends = b.drew.phase;
        asks = a.phase;
        shown = b.shown;
        waited = inl (omega arith);
      })))

  -- the other meets it while it began to wait lately; else it wins
  pub step-one-ahead :
      (i m : ℕ) → m ≤ 64 → OneAhead most slack i x.port y.port m x.node x.clock y.node y.clock → OneAhead most slack (i + 1)
      x.port y.port m X CX Y CY ⊎ (((i < d + slack) × AreUp x.port y.port (m + 1) X CX Y CY) ⊎ Rooted)
  step-one-ahead i m small s = go (waited d x y r ux uy hx hy s.contends) (asked d y x sw uy ux hy hx s.asks)
    where
      asking : level_shown (hearing x).state x.port ≡ level.Parent
      asking = asks-on d x y r (ap is_shaking s.asks) uy s.shown

      late-or : (a b : ℕ) → (a < b) ⊎ (b ≤ a)
      late-or a b = grind arith

      go :
          OnWait d x y r ux uy hx hy ⊎ (OnAsk d x y r ux uy hx hy ⊎ (X.view.parent ≡ None)) →
          Held d y x sw uy ux hy hx ⊎ Begun d y x sw uy ux hy hx → OneAhead most slack (i + 1)
          x.port y.port m X CX Y CY ⊎ (((i < d + slack) × AreUp x.port y.port (m + 1) X CX Y CY) ⊎ Rooted)
      go (inr (inl a)) b = absurd (other-level (level_shown (hearing x).state x.port) asking a.shown)
      go (inr (inr a)) b = inr (inr (inl a))
      go (inl a) (inl b) = inl (record {
        here = record { up = a.up; draws = keep (m + 1) x.node.view.draws X.view.draws s.here.draws a.draws };
        there = record { up = b.up; draws = keep m y.node.view.draws Y.view.draws s.there.draws b.draws };
        contends = a.phase;
        asks = b.phase;
        shown = r.pair.near.ticks.shown x.port ∙ asking;
        waited = a.waited most slack i slow_x s.waited;
      })
      go (inl a) (inr b) = elim (late-or i (d + slack)) [
        | inr l ↦ absurd (long-undrawn d x y r ux uy s.contends (omega (arith, l, waited-most most slack i x.node x.clock s.waited)) hy b.drew)
        | inl l ↦ inr (inl (
          l,
          record {
            here = record { up = a.up; draws = keep (m + 1) x.node.view.draws X.view.draws s.here.draws a.draws };
            there = record { up = b.up; draws = more m y.node.view.draws Y.view.draws s.there.draws small b.draws };
            first = inr a.phase;
            second = inr b.drew.phase;
          },
        ))
      ]
