-- A round of a contention: within a wait and twice the turns that a level takes to be seen both rivals draw once more, or within
-- one wait more one has taken the other as child.
use Rattle.std.proofs.Common.{◌≡◌, ◌⊎◌, inl, inr, ℕ, zero, suc, ◌+◌, ◌-◌, ◌*◌, ◌<◌, ◌≤◌, Bool, true, false, List, None, Some, slice_get, sym, ◌∙◌, ap, subst, arith}
use Rattle.std.specs.Prelude.{min}
use Rattle.convergence.proofs.Common.{IsLawful, End, Wiring, far, Holds, Phase, NodeState, beat, is_parent, is_port, PortNode, CableWorld, wire_of, turn_at, turn, level_sent, level_shown, leads_down, node-after, cabling-after, delay-after, side, side-node, after-delay, cable-connected, some-same, hearing, ticking, NoEntry, no-quiet, quiet-then, PlacedHold, HoldSchedule, holds_after, with_holds, quiet_after, KnowsCoins, IsAhead, AsksAgain, AreRivals, AreJoined}
use Rattle.convergence.proofs.turns.PhaseFacts.{contend-shake}
use Rattle.port_state.specs.declared.signal.Phase.TheVariants as phase
use Rattle.port_state.specs.declared.timing.Timing.{Timing}
use Rattle.cable_world.specs.Times.{Suits}
use Rattle.cable_world.proofs.Lemmas.{quiet-first, after-longest}
use Rattle.convergence.proofs.turns.Cables.{joined-held}
use Rattle.convergence.proofs.turns.CalmTurns.{Calmly, heard_by}
use Rattle.convergence.proofs.coins.StaysContested.{rivals-of}
use Rattle.convergence.proofs.turns.Flush.{Tells, flush}
use Rattle.convergence.proofs.rounds.Grown.{Grown, parent-only, hears-on, grown-turn, grown-held, grown-after, calm-at}
use Rattle.convergence.proofs.coins.Rivals.{Rivals, swapped, no-contend}
use Rattle.convergence.proofs.rounds.RivalSteps.{BothWait, OneWaits, BothAsk, OneAhead, AreUp, step-both-wait, step-one-waits, step-both-ask, step-one-ahead}
use Rattle.convergence.proofs.rounds.Rooted.{HasRoot, root-held}
use Rattle.convergence.proofs.turns.Weights.{beat-begins}
use Rattle.port_state.specs.Clock.{Clock, misses, clock_after}
use Rattle.cable_world.proofs.Lemmas.{beat-misses, misses-slowly, longest-after}
use Rattle.convergence.specs.Turns as turns
use Rattle.convergence.proofs.turns.TwoTurns.{Misses, misses-slack, slack-turn, slack-later, not-missed}
use Rattle.convergence.proofs.coins.Stands.{HasWaited, MissesSlowly, waited-less}

-- ---- turn by turn

-- holds keep this
abbrev pub KeptInHolds : (CableWorld → Type 0) → Type 0
KeptInHolds P = (holds : List PlacedHold) (w : CableWorld) → P w → P (with_holds holds w)

-- a world in which no long wait takes longer, and clocks have this slack at most
pub record Bounds (most slack : ℕ) (w : CableWorld) : Type 0 where
  pub long : w.longest.long ≤ most
  pub few : turns.slack w ≤ slack

bounds-held : (most slack : ℕ) → KeptInHolds (Bounds most slack)
bounds-held most slack holds w b = record { long = b.long; few = b.few }

bounds-turn :
    (most slack : ℕ) (w : CableWorld) → IsLawful w → Bounds most slack w →
    Bounds most slack (turn w)
bounds-turn most slack w l b = record {
  long = omega (arith, b.long, ap (λ (t : Timing). t.long) (longest-after w));
  few = omega (arith, b.few, slack-turn w l);
}

module _ (set most slack : ℕ) where
  module _
      (S : ℕ → CableWorld → Type 0) (T : CableWorld → Type 0)
      (held : (i : ℕ) → KeptInHolds (S i)) (held-then : KeptInHolds T)
      (step : (w : CableWorld) → Grown w set → Bounds most slack w → (i : ℕ) → S i w → S (i + 1) (turn w) ⊎ T (turn w))
    where
      run :
          (hs : HoldSchedule) (n i : ℕ) (w : CableWorld) → Grown w set → Bounds most slack w → S i w →
          S (i + n) (quiet_after hs n w) ⊎ ((j : ℕ) × (j ≤ n) × T (quiet_after hs j w))
      unfolding quiet_after
      run hs zero i w g f s =
          let z : i ≡ i + 0 = omega arith in
          inl (subst (λ k. S k (with_holds (hs 0) w)) z (held i (hs 0) w s))
      run hs (suc n) i w g f s = elim (step v gv fv i (held i (hs 0) w s)) [
        | inr t ↦
            let few : 1 ≤ suc n = omega arith in
            inr (1, few, held-then (hs 1) (turn v) t)
        | inl t ↦ elim (run rest n (i + 1) (turn v) (grown-turn v set gv) (bounds-turn most slack v gv.lawful fv) t) [
          | inl u ↦ let z : i + 1 + n ≡ i + suc n = omega arith in inl (subst (S (i + suc n)) (sym (quiet-first hs n w)) (subst (λ k. S k (quiet_after rest n (turn v))) z u))
          | inr u ↦ let few : suc u.0 ≤ suc n = omega (arith, u.1) in inr (suc u.0, few, subst T (sym (quiet-first hs u.0 w)) u.2)
        ]
      ]
        where
          v : CableWorld
          v = with_holds (hs 0) w

          gv : Grown (with_holds (hs 0) w) set
          gv = grown-held (hs 0) w set g

          fv : Bounds most slack (with_holds (hs 0) w)
          fv = bounds-held most slack (hs 0) w f

          rest : HoldSchedule
          rest i = hs (suc i)

  module _
      (S T : CableWorld → Type 0) (held : KeptInHolds S) (held-then : KeptInHolds T)
      (step : (w : CableWorld) → Grown w set → Bounds most slack w → S w → S (turn w) ⊎ T (turn w)) where
    all-along :
        (hs : HoldSchedule) (n : ℕ) (w : CableWorld) → S w →
        ((j : ℕ) → j ≤ n → S (quiet_after (λ i. hs (suc i)) j (turn (with_holds (hs 0) w)))) →
        (j : ℕ) → j ≤ suc n → S (quiet_after hs j w)
    unfolding quiet_after
    all-along hs n w s rest zero h = held (hs 0) w s
    all-along hs n w s rest (suc j) h = subst S (sym (quiet-first hs j w)) (rest j (omega (arith, h)))

    run-all :
        (hs : HoldSchedule) (n : ℕ) (w : CableWorld) → Grown w set → Bounds most slack w → S w →
        ((j : ℕ) → j ≤ n → S (quiet_after hs j w))
        ⊎ ((j : ℕ) × (j ≤ n) × T (quiet_after hs j w))
    unfolding quiet_after
    run-all hs zero w g f s = inl (λ j h.
        let z : 0 ≡ j = omega (arith, h) in
        subst (λ k. S (quiet_after hs k w)) z (held (hs 0) w s))
    run-all hs (suc n) w g f s = elim (step v gv fv (held (hs 0) w s)) [
      | inr t ↦
          let few : 1 ≤ suc n = omega arith in
          inr (1, few, held-then (hs 1) (turn v) t)
      | inl t ↦ elim (run-all rest n (turn v) (grown-turn v set gv) (bounds-turn most slack v gv.lawful fv) t) [
        | inl all ↦ inl (all-along hs n w s all)
        | inr u ↦ let few : suc u.0 ≤ suc n = omega (arith, u.1) in inr (suc u.0, few, subst T (sym (quiet-first hs u.0 w)) u.2)
      ]
    ]
      where
        v : CableWorld
        v = with_holds (hs 0) w

        gv : Grown (with_holds (hs 0) w) set
        gv = grown-held (hs 0) w set g

        fv : Bounds most slack (with_holds (hs 0) w)
        fv = bounds-held most slack (hs 0) w f

        rest : HoldSchedule
        rest i = hs (suc i)

-- ---- two ends in a world

pub record At
    (w : CableWorld) (set : ℕ) (a b : End) (S : NodeState → Clock → NodeState → Clock → Type 0)
    : Type 0 where
  pub ends : AreJoined w a b
  pub holds : Holds set a.node
  pub is : S ends.near.state ends.near.clock ends.other.state ends.other.clock

pub at-held :
    (set : ℕ) (a b : End) (S : NodeState → Clock → NodeState → Clock → Type 0) →
    KeptInHolds (λ w. At w set a b S)
at-held set a b S holds w s = record { ends = joined-held holds w a b s.ends; holds = s.holds; is = s.is }

abbrev pub ends-round :
    (w : CableWorld) (set : ℕ) → Grown w set → (a b : End) → AreJoined w a b → AreJoined w b a
ends-round w set g a b e = record { joined = g.lawful.well_formed.cabling.both_ways a b e.joined; near = e.other; near_at = e.other_at; other = e.near; other_at = e.near_at }

abbrev pub up-round :
    (w : CableWorld) (set : ℕ) → Grown w set → (a b : End) (m : ℕ) →
    At w set b a (AreUp b.port a.port m) → At w set a b (AreUp a.port b.port m)
up-round w set g a b m s = record {
  ends = ends-round w set g b a s.ends;
  holds = g.closed b a s.ends.joined s.holds;
  is = record { here = s.is.there; there = s.is.here; first = s.is.second; second = s.is.first };
}

module _
    (w : CableWorld) (set : ℕ) (g : Grown w set) (a b : End) (e : AreJoined w a b)
    (in_a : Holds set a.node) where
  r : Rivals w.delay (side w a e.near) (side w b e.other)
  r = rivals-of w g.lawful g.contested a b e.near e.other e.joined e.near_at e.other_at

  hx : NoEntry e.near.state (hearing (side w a e.near))
  hx = hears-on w set g a b e.near e.other r e.near_at

  hy : NoEntry e.other.state (hearing (side w b e.other))
  hy = hears-on w set g b a e.other e.near (swapped w.delay (side w a e.near) (side w b e.other) r) e.other_at

  in_b : Holds set b.node
  in_b = g.closed a b e.joined in_a

  next : AreJoined (turn w) a b
  next = record {
    joined = ap (λ (c : Wiring). far c a) (cabling-after w) ∙ e.joined;
    near = (turn_at w a.node e.near).node;
    near_at = node-after w a.node e.near g.lawful.well_formed.count e.near_at;
    other = (turn_at w b.node e.other).node;
    other_at = node-after w b.node e.other g.lawful.well_formed.count e.other_at;
  }

  lift :
      (S : NodeState → Clock → NodeState → Clock → Type 0) →
      S (ticking (side w a e.near)).state (clock_after e.near.clock) (ticking (side w b e.other)).state (clock_after e.other.clock) →
      At (turn w) set a b S
  unfolding next
  lift S s = record {
    ends = next;
    holds = in_a;
    is = subst (λ n. S n (clock_after e.near.clock) (turn_at w b.node e.other).node.state (clock_after e.other.clock)) (sym (side-node w a e.near))
        (subst (λ n. S (ticking (side w a e.near)).state (clock_after e.near.clock) n (clock_after e.other.clock)) (sym (side-node w b e.other)) s);
  }

  lift-round :
      (S : NodeState → Clock → NodeState → Clock → Type 0) →
      S (ticking (side w b e.other)).state (clock_after e.other.clock) (ticking (side w a e.near)).state (clock_after e.near.clock) →
      At (turn w) set b a S
  unfolding next
  lift-round S s = record {
    ends = ends-round (turn w) set (grown-turn w set g) a b next;
    holds = in_b;
    is = subst (λ n. S (turn_at w b.node e.other).node.state (clock_after e.other.clock) n (clock_after e.near.clock)) (sym (side-node w a e.near))
        (subst (λ n. S n (clock_after e.other.clock) (ticking (side w a e.near)).state (clock_after e.near.clock)) (sym (side-node w b e.other)) s);
  }

  lift-root :
      ((ticking (side w a e.near)).state.view.parent ≡ None)
      ⊎ ((ticking (side w b e.other)).state.view.parent ≡ None) → HasRoot (turn w) set
  unfolding next
  lift-root (inl n) = record {
    node = a.node;
    holds = in_a;
    root = record {
      node = (turn_at w a.node e.near).node;
      at = next.near_at;
      late = (grown-turn w set g).late a.node (turn_at w a.node e.near).node in_a next.near_at;
      parentless = ap (λ (s : NodeState). s.view.parent) (side-node w a e.near) ∙ n;
    };
  }
  lift-root (inr n) = record {
    node = b.node;
    holds = in_b;
    root = record {
      node = (turn_at w b.node e.other).node;
      at = next.other_at;
      late = (grown-turn w set g).late b.node (turn_at w b.node e.other).node in_b next.other_at;
      parentless = ap (λ (s : NodeState). s.view.parent) (side-node w b e.other) ∙ n;
    };
  }

-- ---- the steps in a world

-- a clock that misses a turn
slow-side :
    (w : CableWorld) → IsLawful w → (most slack : ℕ) → Bounds most slack w → (a : End) (x : PortNode) →
    slice_get w.nodes a.node ≡ Some x → MissesSlowly most slack (side w a x)
slow-side w l most slack f a x at none =
    let m : misses x.clock ≡ true = beat-misses x none in
    let h = misses-slowly w.longest x.state.timing x.clock m (l.paced a.node x at) in
    (omega (arith, h.1.long_most, f.long), omega (arith, misses-slack w a.node x at m, f.few))

module _ (set most slack : ℕ) (a b : End) (m : ℕ) (small : m ≤ 64) where
  abbrev Waiting : ℕ → CableWorld → Type 0
  Waiting i w = At w set a b (BothWait most slack i a.port b.port m) ⊎ (At w set a b (OneWaits w.delay most slack i a.port b.port m) ⊎ At w set b a (OneWaits w.delay most slack i b.port a.port m))

  abbrev Asking : CableWorld → Type 0
  Asking w = At w set a b (BothAsk a.port b.port m)

  abbrev Up : CableWorld → Type 0
  Up w = At w set a b (AreUp a.port b.port (m + 1))

  abbrev Ahead : CableWorld → Type 0
  Ahead w = At w set a b (OneAhead most slack 0 a.port b.port m) ⊎ At w set b a (OneAhead most slack 0 b.port a.port m)

  waiting-held : (i : ℕ) → KeptInHolds (Waiting i)
  waiting-held i holds w (inl s) = inl (at-held set a b (BothWait most slack i a.port b.port m) holds w s)
  waiting-held i holds w (inr (inl s)) = inr (inl (at-held set a b (OneWaits w.delay most slack i a.port b.port m) holds w s))
  waiting-held i holds w (inr (inr s)) = inr (inr (at-held set b a (OneWaits w.delay most slack i b.port a.port m) holds w s))

  up-or-ahead-held : KeptInHolds (λ w. Up w ⊎ Ahead w)
  up-or-ahead-held holds w (inl s) = inl (at-held set a b (AreUp a.port b.port (m + 1)) holds w s)
  up-or-ahead-held holds w (inr (inl s)) = inr (inl (at-held set a b (OneAhead most slack 0 a.port b.port m) holds w s))
  up-or-ahead-held holds w (inr (inr s)) = inr (inr (at-held set b a (OneAhead most slack 0 b.port a.port m) holds w s))

  asking-or-root-held : KeptInHolds (λ w. Asking w ⊎ HasRoot w set)
  asking-or-root-held holds w (inl s) = inl (at-held set a b (BothAsk a.port b.port m) holds w s)
  asking-or-root-held holds w (inr r) = inr (root-held set holds w r)

  up-or-root-held : KeptInHolds (λ w. Up w ⊎ HasRoot w set)
  up-or-root-held holds w (inl s) = inl (at-held set a b (AreUp a.port b.port (m + 1)) holds w s)
  up-or-root-held holds w (inr r) = inr (root-held set holds w r)

  ask-round : (w : CableWorld) → Grown w set → At w set b a (BothAsk b.port a.port m) → Asking w
  ask-round w g s = record {
    ends = ends-round w set g b a s.ends;
    holds = g.closed b a s.ends.joined s.holds;
    is = record { here = s.is.there; there = s.is.here; asks = s.is.asks_too; asks_too = s.is.asks };
  }

  wait-step :
      (w : CableWorld) → Grown w set → Bounds most slack w → (i : ℕ) → Waiting i w → Waiting (i + 1) (turn w)
      ⊎ (Asking (turn w) ⊎ HasRoot (turn w) set)
  wait-step w g f i (inl s) =
      let e = s.ends in
      elim (step-both-wait w.delay (side w a e.near) (side w b e.other) (r w set g a b e s.holds) s.is.here.up s.is.there.up (hx w set g a b e s.holds) (hy w set g a b e s.holds) most slack (slow-side w g.lawful most slack f a e.near e.near_at) (slow-side w g.lawful most slack f b e.other e.other_at) i m s.is) [
        | inl t ↦ elim t [
          | inl t ↦ inl (inl (lift w set g a b e s.holds (BothWait most slack (i + 1) a.port b.port m) t))
          | inr t ↦ elim t [
            | inl t ↦ inl (inr (inl (lift w set g a b e s.holds (OneWaits (turn w).delay most slack (i + 1) a.port b.port m)
                (subst (λ d. OneWaits d most slack (i + 1) a.port b.port m (ticking (side w a e.near)).state (clock_after e.near.clock) (ticking (side w b e.other)).state (clock_after e.other.clock)) (sym (delay-after w)) t))))
            | inr t ↦ inl (inr (inr (lift-round w set g a b e s.holds (OneWaits (turn w).delay most slack (i + 1) b.port a.port m)
                (subst (λ d. OneWaits d most slack (i + 1) b.port a.port m (ticking (side w b e.other)).state (clock_after e.other.clock) (ticking (side w a e.near)).state (clock_after e.near.clock)) (sym (delay-after w)) t))))
          ]
        ]
        | inr t ↦ elim t [
          | inl t ↦ inr (inl (lift w set g a b e s.holds (BothAsk a.port b.port m) t))
          | inr t ↦ inr (inr (lift-root w set g a b e s.holds t))
        ]
      ]
  wait-step w g f i (inr (inl s)) =
      let e = s.ends in
      elim (step-one-waits w.delay (side w a e.near) (side w b e.other) (r w set g a b e s.holds) s.is.here.up s.is.there.up (hx w set g a b e s.holds) (hy w set g a b e s.holds) most slack (slow-side w g.lawful most slack f a e.near e.near_at) (slow-side w g.lawful most slack f b e.other e.other_at) i m s.is) [
        | inl t ↦ inl (inr (inl (lift w set g a b e s.holds (OneWaits (turn w).delay most slack (i + 1) a.port b.port m)
            (subst (λ d. OneWaits d most slack (i + 1) a.port b.port m (ticking (side w a e.near)).state (clock_after e.near.clock) (ticking (side w b e.other)).state (clock_after e.other.clock)) (sym (delay-after w)) t))))
        | inr t ↦ elim t [
          | inl t ↦ inr (inl (lift w set g a b e s.holds (BothAsk a.port b.port m) t))
          | inr t ↦ inr (inr (lift-root w set g a b e s.holds t))
        ]
      ]
  wait-step w g f i (inr (inr s)) =
      let e = s.ends in
      elim (step-one-waits w.delay (side w b e.near) (side w a e.other) (r w set g b a e s.holds) s.is.here.up s.is.there.up (hx w set g b a e s.holds) (hy w set g b a e s.holds) most slack (slow-side w g.lawful most slack f b e.near e.near_at) (slow-side w g.lawful most slack f a e.other e.other_at) i m s.is) [
        | inl t ↦ inl (inr (inr (lift w set g b a e s.holds (OneWaits (turn w).delay most slack (i + 1) b.port a.port m)
            (subst (λ d. OneWaits d most slack (i + 1) b.port a.port m (ticking (side w b e.near)).state (clock_after e.near.clock) (ticking (side w a e.other)).state (clock_after e.other.clock)) (sym (delay-after w)) t))))
        | inr t ↦ elim t [
          | inl t ↦ inr (inl (ask-round (turn w) (grown-turn w set g) (lift w set g b a e s.holds (BothAsk b.port a.port m) t)))
          | inr t ↦ inr (inr (lift-root w set g b a e s.holds t))
        ]
      ]

  ask-step :
      (w : CableWorld) → Grown w set → Bounds most slack w → Asking w → Asking (turn w) ⊎ (Up (turn w) ⊎ Ahead (turn w))
  ask-step w g f s =
      let e = s.ends in
      elim (step-both-ask w.delay (side w a e.near) (side w b e.other) (r w set g a b e s.holds) s.is.here.up s.is.there.up (hx w set g a b e s.holds) (hy w set g a b e s.holds) most slack (slow-side w g.lawful most slack f a e.near e.near_at) (slow-side w g.lawful most slack f b e.other e.other_at) m small s.is) [
        | inl t ↦ inl (lift w set g a b e s.holds (BothAsk a.port b.port m) t)
        | inr t ↦ elim t [
          | inl t ↦ inr (inl (lift w set g a b e s.holds (AreUp a.port b.port (m + 1)) t))
          | inr t ↦ elim t [
            | inl t ↦ inr (inr (inl (lift w set g a b e s.holds (OneAhead most slack 0 a.port b.port m) t)))
            | inr t ↦ inr (inr (inr (lift-round w set g a b e s.holds (OneAhead most slack 0 b.port a.port m) t)))
          ]
        ]
      ]

  ahead-step :
      (w : CableWorld) → Grown w set → Bounds most slack w → (i : ℕ) → At w set a b (OneAhead most slack i a.port b.port m) →
      At (turn w) set a b (OneAhead most slack (i + 1) a.port b.port m)
      ⊎ (((i < w.delay + slack) × Up (turn w)) ⊎ HasRoot (turn w) set)
  ahead-step w g f i s =
      let e = s.ends in
      elim (step-one-ahead w.delay (side w a e.near) (side w b e.other) (r w set g a b e s.holds) s.is.here.up s.is.there.up (hx w set g a b e s.holds) (hy w set g a b e s.holds) most slack (slow-side w g.lawful most slack f a e.near e.near_at) (slow-side w g.lawful most slack f b e.other e.other_at) i m small s.is) [
        | inl t ↦ inl (lift w set g a b e s.holds (OneAhead most slack (i + 1) a.port b.port m) t)
        | inr t ↦ elim t [
          | inl t ↦ inr (inl (t.0, lift w set g a b e s.holds (AreUp a.port b.port (m + 1)) t.1))
          | inr t ↦ inr (inr (lift-root w set g a b e s.holds t))
        ]
      ]

-- a wait isn't so long
not-so-long :
    (w : CableWorld) (set : ℕ) → Grown w set → (k : ℕ) (x : PortNode) →
    slice_get w.nodes k ≡ Some x → x.state.view.phase ≡ phase.Contend → (most slack i : ℕ) →
    Bounds most slack w → HasWaited most slack i x.state x.clock → most ≤ i → ⊥
not-so-long w set g k x at c most slack i f h late =
    let knows : KnowsCoins x.state = g.contested.nodes k x at in
    let fits : Suits w.delay w.longest x.state.timing = (g.lawful.well_formed.nodes k x at).timing in
    let under : x.state.view.timer < x.state.timing.long = elim (knows.shows c) [
      | inl s ↦ omega (arith, knows.waits c, s, fits.short_most, fits.long_least)
      | inr s ↦ omega (arith, knows.waits c, s)
    ] in
    omega (arith, late, waited-less most slack i x.state x.clock under (omega (arith, fits.long_most, f.long)) h)

pub bounds-after :
    (hs : HoldSchedule) (w : CableWorld) (set : ℕ) → Grown w set → (most slack : ℕ) →
    Bounds most slack w → (i : ℕ) → Bounds most slack (quiet_after hs i w)
bounds-after hs w set g most slack f i = record {
  long = omega (arith, f.long, ap (λ (t : Timing). t.long) (after-longest hs w g.lawful i));
  few = omega (arith, f.few, slack-later hs w g.lawful i);
}

-- ---- both ask

parent-out :
    (f : Phase) (b : Bool) → f ≡ phase.ParentShake → b ≡ false → is_parent (level_sent f b) ≡ true
parent-out f b h c = grind arith

module _
    (hs : HoldSchedule) (set : ℕ) (a b : End) (m : ℕ) (w : CableWorld) (g : Grown w set)
    (asking : (j : ℕ) → j ≤ w.delay + turns.slack w → At (quiet_after hs j w) set a b (BothAsk a.port b.port m)) where
  tell : (i : ℕ) → i ≤ w.delay + turns.slack w → Tells (quiet_after hs i w) b is_parent
  tell i h y at =
      let s = asking i h in
      let gi = grown-after hs w set g i in
      let same : s.ends.other ≡ y = some-same s.ends.other y (sym s.ends.other_at ∙ at) in
      parent-out y.state.view.phase (leads_down y.state.view.ports b.port) (ap (λ (n : PortNode). n.state.view.phase) (sym same) ∙ s.is.asks_too)
      (parent-only (quiet_after hs i w) set gi b a y (gi.lawful.well_formed.cabling.both_ways a b s.ends.joined) at (ap (λ (n : PortNode). is_port n.state.view.parent b.port) (sym same) ∙ s.is.there.up))

  -- if both ask even after d turns, a clock missed the turn
  ask-missed :
      (j : ℕ) → w.delay ≤ j + 1 → j + 1 ≤ w.delay + turns.slack w → Misses hs w j a.node
  ask-missed j late most = elim (beat-begins (beat h.node) mid a.port
      (h.heard.phase ∙ ap (λ (n : PortNode). n.state.view.phase) same ∙ s.is.asks)
      (ap (λ o. is_port o a.port) h.heard.parent ∙ ap (λ (n : PortNode). is_port n.state.view.parent a.port) same ∙ s.is.here.up)
      (h.hears.cables a.port ∙ cable-connected (quiet_after hs j w) a b h.node (grown-after hs w set g j).lawful.well_formed s.ends.joined h.at)
      (ap is_parent (sym (h.ticks.shown a.port)) ∙ ap (λ (n : NodeState). is_parent (level_shown n a.port)) (sym h.is) ∙ shown)) [
        | inl none ↦ record { node = h.node; at = h.at; missed = beat-misses h.node none }
        | inr c ↦ absurd (contend-shake z.ends.near.state.view.phase (ap (λ (n : NodeState). n.view.phase) h.is ∙ c) z.is.asks)
      ]
    where
      s : At (quiet_after hs j w) set a b (BothAsk a.port b.port m)
      s = asking j (omega (arith, most))

      z : At (quiet_after hs (j + 1) w) set a b (BothAsk a.port b.port m)
      z = asking (j + 1) (omega (arith, most))

      h : Calmly (quiet_after hs j w) a.node z.ends.near.state
      h = calm-at hs w set g j a.node z.ends.near z.ends.near_at

      same : h.node ≡ s.ends.near
      same = some-same h.node s.ends.near (sym h.at ∙ s.ends.near_at)

      mid : NodeState
      mid = heard_by (quiet_after hs j w) a.node h.node

      joined : far w.cabling a ≡ Some b
      joined = ap (λ (u : CableWorld). far u.cabling a) (sym (no-quiet hs w)) ∙ (asking 0 (omega arith)).ends.joined

      shown : is_parent (level_shown z.ends.near.state a.port) ≡ true
      shown = flush hs w g.lawful b a (g.lawful.well_formed.cabling.both_ways a b joined) is_parent (λ i. i ≤ w.delay + turns.slack w) (λ i l. omega (arith, l)) tell (j + 1) late (omega (arith, most)) z.ends.near z.ends.near_at

  -- not for so many turns
  not-all-along : ⊥
  not-all-along =
      let j : ℕ = w.delay - 1 in
      let more : j + 1 ≡ w.delay = omega (arith, g.lawful.well_formed.some_delay) in
      not-missed hs w g.lawful j a.node (ask-missed (j + turns.slack w) (omega (arith, more)) (omega (arith, more)))
      (λ one. ask-missed j (omega (arith, more)) (omega (arith, more)))

-- ---- a round

module _ (set most slack : ℕ) (m : ℕ) (small : m ≤ 64) where
  -- within so many turns both have drawn once more, or within so many one is root
  abbrev Ends : HoldSchedule → End → End → ℕ → ℕ → CableWorld → Type 0
  Ends hs a b up root w = ((j : ℕ) × (j ≤ up) × At (quiet_after hs j w) set a b (AreUp a.port b.port (m + 1))) ⊎ ((j : ℕ) × (j ≤ root) × HasRoot (quiet_after hs j w) set)

  ends-later :
      (hs : HoldSchedule) (a b : End) (w : CableWorld) (i up root most least : ℕ) → i + up ≤ most →
      i + root ≤ least →
      Ends (holds_after i hs) a b up root (quiet_after hs i w) → Ends hs a b most least w
  ends-later hs a b w i up root most least h l (inl t) =
      inl (i + t.0, omega (arith, h, t.1), subst (λ (u : CableWorld). At u set a b (AreUp a.port b.port (m + 1))) (sym (quiet-then hs i t.0 w)) t.2)
  ends-later hs a b w i up root most least h l (inr t) =
      inr (i + t.0, omega (arith, l, t.1), subst (λ (u : CableWorld). HasRoot u set) (sym (quiet-then hs i t.0 w)) t.2)

  ends-round-two :
      (hs : HoldSchedule) (a b : End) (w : CableWorld) → Grown w set → (up root : ℕ) →
      Ends hs b a up root w →
      Ends hs a b up root w
  ends-round-two hs a b w g up root (inl t) = inl (t.0, t.1, up-round (quiet_after hs t.0 w) set (grown-after hs w set g t.0) a b (m + 1) t.2)
  ends-round-two hs a b w g up root (inr t) = inr t

  from-ahead :
      (hs : HoldSchedule) (a b : End) (w : CableWorld) → Grown w set → Bounds most slack w →
      At w set a b (OneAhead most slack 0 a.port b.port m) →
      Ends hs a b (w.delay + slack) (most + (w.delay + slack)) w
  from-ahead hs a b w g f s = elim (run set most slack (λ i v. At v set a b (OneAhead most slack i a.port b.port m)) (λ v. At v set a b (AreUp a.port b.port (m + 1)) ⊎ HasRoot v set)
      (λ i. at-held set a b (OneAhead most slack i a.port b.port m)) (up-or-root-held set most slack a b m small) first hs (w.delay + slack) 0 w g f s) [
        | inr t ↦ elim t.2 [
          | inl u ↦ inl (t.0, t.1, u)
          | inr u ↦ inr (t.0, omega (arith, t.1), u)
        ]
        | inl t ↦ elim (run set most slack (λ i v. (v.delay + slack ≤ i) × At v set a b (OneAhead most slack i a.port b.port m)) (λ v. HasRoot v set)
            (λ i holds u s. (s.0, at-held set a b (OneAhead most slack i a.port b.port m) holds u s.1)) (root-held set) second rest most (w.delay + slack) v gv fv (omega (arith, same), (let z : 0 + (w.delay + slack) ≡ w.delay + slack = omega arith in subst (λ k. At (quiet_after hs (w.delay + slack) w) set a b (OneAhead most slack k a.port b.port m)) z t))) [
              | inr u ↦ inr (w.delay + slack + u.0, omega (arith, u.1), subst (λ (z : CableWorld). HasRoot z set) (sym (quiet-then hs (w.delay + slack) u.0 w)) u.2)
              | inl u ↦ absurd (not-so-long (quiet_after rest most v) set (grown-after rest v set gv most) a.node u.1.ends.near u.1.ends.near_at u.1.is.contends
                  most slack (w.delay + slack + most) (bounds-after rest v set gv most slack fv most) u.1.is.waited (omega arith))
            ]
      ]
    where
      rest : HoldSchedule
      rest = holds_after (w.delay + slack) hs

      v : CableWorld
      v = quiet_after hs (w.delay + slack) w

      gv : Grown (quiet_after hs (w.delay + slack) w) set
      gv = grown-after hs w set g (w.delay + slack)

      fv : Bounds most slack (quiet_after hs (w.delay + slack) w)
      fv = bounds-after hs w set g most slack f (w.delay + slack)

      same : (quiet_after hs (w.delay + slack) w).delay ≡ w.delay
      same = after-delay hs w g.lawful (w.delay + slack)

      first :
          (u : CableWorld) → Grown u set → Bounds most slack u → (i : ℕ) → At u set a b (OneAhead most slack i a.port b.port m) →
          At (turn u) set a b (OneAhead most slack (i + 1) a.port b.port m)
          ⊎ (At (turn u) set a b (AreUp a.port b.port (m + 1)) ⊎ HasRoot (turn u) set)
      first u gu fu i s = elim (ahead-step set most slack a b m small u gu fu i s) [
        | inl t ↦ inl t
        | inr t ↦ elim t [ inl t ↦ inr (inl t.1) | inr t ↦ inr (inr t) ]
      ]

      second :
          (u : CableWorld) → Grown u set → Bounds most slack u → (i : ℕ) → (u.delay + slack ≤ i)
          × At u set a b (OneAhead most slack i a.port b.port m) →
          (((turn u).delay + slack ≤ i + 1) × At (turn u) set a b (OneAhead most slack (i + 1) a.port b.port m))
          ⊎ HasRoot (turn u) set
      second u gu fu i s = elim (ahead-step set most slack a b m small u gu fu i s.1) [
        | inl t ↦ inl (omega (arith, s.0, delay-after u), t)
        | inr t ↦ elim t [ inl t ↦ absurd (omega (arith, t.0, s.0)) | inr t ↦ inr t ]
      ]

  from-asking :
      (hs : HoldSchedule) (a b : End) (w : CableWorld) → Grown w set → Bounds most slack w →
      At w set a b (BothAsk a.port b.port m) →
      Ends hs a b (2 * (w.delay + slack)) (most + 2 * (w.delay + slack)) w
  from-asking hs a b w g f s = elim (run-all set most slack (Asking set most slack a b m small) (λ v. Up set most slack a b m small v ⊎ Ahead set most slack a b m small v) (at-held set a b (BothAsk a.port b.port m)) (up-or-ahead-held set most slack a b m small) (ask-step set most slack a b m small) hs (w.delay + slack) w g f s) [
    | inl all ↦ absurd (not-all-along hs set a b m w g (λ j h. all j (omega (arith, h, f.few))))
    | inr t ↦ elim t.2 [
      | inl u ↦ inl (t.0, omega (arith, t.1), u)
      | inr u ↦
          let v : CableWorld = quiet_after hs t.0 w in
          let gv : Grown v set = grown-after hs w set g t.0 in
          let fv : Bounds most slack v = bounds-after hs w set g most slack f t.0 in
          let same : v.delay ≡ w.delay = after-delay hs w g.lawful t.0 in
          ends-later hs a b w t.0 (v.delay + slack) (most + (v.delay + slack)) (2 * (w.delay + slack)) (most + 2 * (w.delay + slack)) (omega (arith, t.1, same)) (omega (arith, t.1, same))
          (elim u [ inl c ↦ from-ahead (holds_after t.0 hs) a b v gv fv c | inr c ↦ ends-round-two (holds_after t.0 hs) a b v gv (v.delay + slack) (most + (v.delay + slack)) (from-ahead (holds_after t.0 hs) b a v gv fv c) ])
    ]
  ]

  from-waiting :
      (hs : HoldSchedule) (a b : End) (w : CableWorld) → Grown w set → Bounds most slack w → Waiting set most slack a b m small 0 w →
      Ends hs a b (most + 2 * (w.delay + slack)) (most + (most + 2 * (w.delay + slack))) w
  from-waiting hs a b w g f s = elim (run set most slack (Waiting set most slack a b m small) (λ v. Asking set most slack a b m small v ⊎ HasRoot v set)
      (waiting-held set most slack a b m small) (asking-or-root-held set most slack a b m small) (wait-step set most slack a b m small) hs most 0 w g f s) [
        | inl t ↦ absurd (over t)
        | inr t ↦ elim t.2 [
          | inr u ↦ inr (t.0, omega (arith, t.1), u)
          | inl u ↦
              let v : CableWorld = quiet_after hs t.0 w in
              let gv : Grown v set = grown-after hs w set g t.0 in
              let fv : Bounds most slack v = bounds-after hs w set g most slack f t.0 in
              let same : v.delay ≡ w.delay = after-delay hs w g.lawful t.0 in
              ends-later hs a b w t.0 (2 * (v.delay + slack)) (most + 2 * (v.delay + slack)) (most + 2 * (w.delay + slack)) (most + (most + 2 * (w.delay + slack))) (omega (arith, t.1, same)) (omega (arith, t.1, same)) (from-asking (holds_after t.0 hs) a b v gv fv u)
        ]
      ]
    where
      v : CableWorld
      v = quiet_after hs most w

      gv : Grown (quiet_after hs most w) set
      gv = grown-after hs w set g most

      fv : Bounds most slack (quiet_after hs most w)
      fv = bounds-after hs w set g most slack f most

      over : Waiting set most slack a b m small (0 + most) (quiet_after hs most w) → ⊥
      over (inl t) = not-so-long v set gv a.node t.ends.near t.ends.near_at t.is.contends most slack (0 + most) fv t.is.waited (omega arith)
      over (inr (inl t)) = not-so-long v set gv a.node t.ends.near t.ends.near_at t.is.contends most slack (0 + most) fv t.is.waited (omega arith)
      over (inr (inr t)) = not-so-long v set gv b.node t.ends.near t.ends.near_at t.is.contends most slack (0 + most) fv t.is.waited (omega arith)

  -- one in T3, the other in T2
  one-of :
      (a b : End) (w : CableWorld) → Grown w set → (s : At w set a b (AreUp a.port b.port m)) →
      s.ends.near.state.view.phase ≡ phase.Contend →
      s.ends.other.state.view.phase ≡ phase.ParentShake →
      At w set a b (OneAhead most slack 0 a.port b.port m) ⊎ At w set a b (OneWaits w.delay most slack 0 a.port b.port m)
  one-of a b w g s c t = go ((g.contested.cables a b s.ends.near s.ends.other s.ends.joined s.ends.near_at s.ends.other_at).rivals s.is.here.up s.is.there.up)
    where
      how :
          IsAhead s.ends.near.state a.port s.ends.other.state
          ⊎ AsksAgain w.delay s.ends.near.state s.ends.other.state (wire_of w b).signals →
          At w set a b (OneAhead most slack 0 a.port b.port m)
          ⊎ At w set a b (OneWaits w.delay most slack 0 a.port b.port m)
      how (inl h) = inl (record {
        ends = s.ends;
        holds = s.holds;
        is = record {
          here = record { up = s.is.here.up; draws = more s.ends.near.state.view.draws s.ends.other.state.view.draws h.drew.count s.is.there.draws };
          there = s.is.there;
          contends = c;
          asks = t;
          shown = h.shown;
          waited = inl (omega arith);
        };
      })
        where
          more : (k n : ℕ) → k ≡ min (n + 1) 65535 → m ≤ n → m + 1 ≤ k
          more k n e l = omega (arith, e, l, small)
      how (inr h) = inr (record {
        ends = s.ends;
        holds = s.holds;
        is = record { here = s.is.here; there = s.is.there; contends = c; asks = t; long = h.long; waited = inl (omega arith) };
      })

      go :
          AreRivals w.delay s.ends.near.state s.ends.near.clock a.port (wire_of w a).signals s.ends.other.state s.ends.other.clock b.port (wire_of w b).signals →
          At w set a b (OneAhead most slack 0 a.port b.port m)
          ⊎ At w set a b (OneWaits w.delay most slack 0 a.port b.port m)
      go (inl h) = absurd (no-contend s.ends.near.state.view.phase h.here c)
      go (inr (inl h)) = absurd (contend-shake s.ends.other.state.view.phase h.there t)
      go (inr (inr (inl h))) = how h.how
      go (inr (inr (inr h))) = absurd (contend-shake s.ends.other.state.view.phase h.here t)

  pub round :
      (hs : HoldSchedule) (a b : End) (w : CableWorld) → Grown w set → Bounds most slack w →
      At w set a b (AreUp a.port b.port m) →
      Ends hs a b (most + 2 * (w.delay + slack)) (most + (most + 2 * (w.delay + slack))) w
  round hs a b w g f s = go s.is.first s.is.second
    where
      here :
          (up root : ℕ) → Ends hs a b up root w → up ≤ most + 2 * (w.delay + slack) → root ≤ most + (most + 2 * (w.delay + slack)) →
          Ends hs a b (most + 2 * (w.delay + slack)) (most + (most + 2 * (w.delay + slack))) w
      here up root (inl t) h l = inl (t.0, omega (arith, t.1, h), t.2)
      here up root (inr t) h l = inr (t.0, omega (arith, t.1, l), t.2)

      back : At w set b a (AreUp b.port a.port m)
      back = up-round w set g b a m s

      go :
          (s.ends.near.state.view.phase ≡ phase.ParentShake)
          ⊎ (s.ends.near.state.view.phase ≡ phase.Contend) →
          (s.ends.other.state.view.phase ≡ phase.ParentShake)
          ⊎ (s.ends.other.state.view.phase ≡ phase.Contend) →
          Ends hs a b (most + 2 * (w.delay + slack)) (most + (most + 2 * (w.delay + slack)))
          w
      go (inl x) (inl y) = here (2 * (w.delay + slack)) (most + 2 * (w.delay + slack)) (from-asking hs a b w g f (record { ends = s.ends; holds = s.holds; is = record { here = s.is.here; there = s.is.there; asks = x; asks_too = y } })) (omega arith) (omega arith)
      go (inr x) (inr y) = from-waiting hs a b w g f (inl (record {
        ends = s.ends;
        holds = s.holds;
        is = record { here = s.is.here; there = s.is.there; contends = x; contends_too = y; waited = inl (omega arith); waited_too = inl (omega arith) };
      }))
      go (inr x) (inl y) = elim (one-of a b w g s x y) [
        | inl t ↦ here (w.delay + slack) (most + (w.delay + slack)) (from-ahead hs a b w g f t) (omega arith) (omega arith)
        | inr t ↦ from-waiting hs a b w g f (inr (inl t))
      ]
      go (inl x) (inr y) = elim (one-of b a w g back y x) [
        | inl t ↦ here (w.delay + slack) (most + (w.delay + slack)) (ends-round-two hs a b w g (w.delay + slack) (most + (w.delay + slack)) (from-ahead hs b a w g f t)) (omega arith) (omega arith)
        | inr t ↦ from-waiting hs a b w g f (inr (inr t))
      ]
