-- After 33 rounds the first 32 draws of two rivals are equal: their component is in contention, and
-- stays so.
use Rattle.std.proofs.Common.{◌≡◌, ◌⊎◌, inl, inr, ℕ, zero, suc, ◌+◌, ◌*◌, ◌<◌, ◌≤◌, Bool, true, false, if◌then◌else◌, List, Some, slice_get, refl, sym, ◌∙◌, ap, subst, arith}
use Rattle.std.specs.Prelude.{min, nat_lt, bit_or, ◌^◌}
use Rattle.std.proofs.lemmas.Bool.{cases_lt}
use Rattle.convergence.proofs.Common.{End, Wiring, far, IsCore, NodeState, beat, draws_with, on_beat, PortNode, CableWorld, wire_of, turn_at, turn, node-after, cabling-after, after-delay, some-of, some-at, some-same, no-quiet, quiet-then, PlacedHold, HoldSchedule, holds_after, with_holds, quiet_after, AddsDraw, DrewTogether, AreRivals, end_at}
use Rattle.cable_world.specs.Outcome.{AtView, HasNoLoop, DrewAlike}
use Rattle.convergence.specs.Milestones.{HasContention}
use Rattle.convergence.proofs.turns.CalmTurns.{Calmly, heard_by}
use Rattle.convergence.proofs.rounds.Grown.{Grown, calm-turn, grown-after}
use Rattle.convergence.proofs.turns.Moves.{Drew, DrewNone, beat-draws, coin_of}
use Rattle.convergence.proofs.rounds.Rooted.{HasRoot}
use Rattle.convergence.proofs.rounds.RivalSteps.{AreUp}
use Rattle.convergence.proofs.rounds.Rounds.{At, at-held, up-round, Bounds, bounds-after, round}

-- ---- many draws

-- after 32 draws the kept ones stay
kept-first : (c : Bool) (n f : ℕ) → 32 ≤ n → draws_with c n f ≡ f
kept-first c n f h = go (nat_lt n 32) refl c
  where
    no : nat_lt n 32 ≡ true → ⊥
    no e = grind (arith, e, h)

    go : (b : Bool) → nat_lt n 32 ≡ b → (c : Bool) → draws_with c n f ≡ f
    go true e c = absurd (no e)
    go false e true = ap (λ b. if b then bit_or f (2 ^ n) else f) e
    go false e false = refl

added : (n f : ℕ) (x : NodeState) → AddsDraw n f x → 33 ≤ x.view.draws → x.view.first_draws ≡ f
added n f x a h = a.coins ∙ kept-first _ n f (many n x.view.draws a.count h)
  where
    many : (n k : ℕ) → k ≡ min (n + 1) 65535 → 33 ≤ k → 32 ≤ n
    many n k e l = omega (arith, e, l)

together :
    (x y : NodeState) → DrewTogether x y → 33 ≤ x.view.draws → 33 ≤ y.view.draws →
    x.view.first_draws ≡ y.view.first_draws
together x y t h l = added t.draws t.first x t.here h ∙ sym (added t.draws t.first y t.there l)

module _
    (w : CableWorld) (set : ℕ) (g : Grown w set) (a b : End)
    (s : At w set a b (AreUp a.port b.port 33)) where
  same-first : s.ends.near.state.view.first_draws ≡ s.ends.other.state.view.first_draws
  same-first = go ((g.contested.cables a b s.ends.near s.ends.other s.ends.joined s.ends.near_at s.ends.other_at).rivals s.is.here.up s.is.there.up)
    where
      go :
          AreRivals w.delay s.ends.near.state s.ends.near.clock a.port (wire_of w a).signals s.ends.other.state s.ends.other.clock b.port (wire_of w b).signals →
          s.ends.near.state.view.first_draws ≡ s.ends.other.state.view.first_draws
      go (inl h) = h.drew.first_draws
      go (inr (inl h)) = together s.ends.near.state s.ends.other.state h.drew s.is.here.draws s.is.there.draws
      go (inr (inr (inl h))) = elim h.how [
        | inl k ↦ added s.ends.other.state.view.draws s.ends.other.state.view.first_draws s.ends.near.state k.drew s.is.here.draws
        | inr k ↦ together s.ends.near.state s.ends.other.state k.drew s.is.here.draws s.is.there.draws
      ]
      go (inr (inr (inr h))) = elim h.how [
        | inl k ↦ sym (added s.ends.near.state.view.draws s.ends.near.state.view.first_draws s.ends.other.state k.drew s.is.there.draws)
        | inr k ↦ sym (together s.ends.other.state s.ends.near.state k.drew s.is.there.draws s.is.here.draws)
      ]

  alike : DrewAlike s.ends.near.state.view s.ends.other.state.view
  alike = record { many = omega (arith, s.is.here.draws); many_too = omega (arith, s.is.there.draws); alike = same-first }

  contend-rising : HasNoLoop w set → a.node < b.node → HasContention w set
  contend-rising none rising = record {
    low = a.node;
    high = b.node;
    is = record {
      no_loop = none;
      rising = rising;
      holds_a = s.holds;
      holds_b = g.closed a b s.ends.joined s.holds;
      port_a = a.port;
      port_b = b.port;
      cable = s.ends.joined;
      draws = some-at (slice_get w.nodes a.node) s.ends.near (λ (n : PortNode). AtView w b.node (λ u. DrewAlike n.state.view u)) s.ends.near_at
          (some-at (slice_get w.nodes b.node) s.ends.other (λ (n : PortNode). DrewAlike s.ends.near.state.view n.state.view) s.ends.other_at alike);
    };
  }

pub contend :
    (w : CableWorld) (set : ℕ) → Grown w set → (a b : End) → At w set a b (AreUp a.port b.port 33) →
    HasNoLoop w set → HasContention w set
contend w set g a b s none = elim (order a.node b.node (g.lawful.well_formed.cabling.two_nodes a b s.ends.joined)) [
  | inl h ↦ contend-rising w set g a b s none h
  | inr h ↦ contend-rising w set g b a (up-round w set g b a 33 s) none h
]
  where
    order : (m n : ℕ) → (m ≡ n → ⊥) → (m < n) ⊎ (n < m)
    order m n h = elim (cases_lt m n) [
      | inl l ↦ inl l
      | inr l ↦ elim (cases_lt n m) [ inl k ↦ inr k | inr k ↦ absurd (h (omega (arith, l, k))) ]
    ]

-- ---- it stays

record ManyDraws (x z : NodeState) : Type 0 where
  many : 32 ≤ z.view.draws
  first : z.view.first_draws ≡ x.view.first_draws

module _ (w : CableWorld) (set : ℕ) (g : Grown w set) where
  many-on :
      (k : ℕ) (x : PortNode) → slice_get w.nodes k ≡ Some x → 32 ≤ x.state.view.draws →
      ManyDraws x.state (turn_at w k x).node.state
  many-on k x at many = subst (λ (n : NodeState). ManyDraws x.state n) (sym c.is) (go (beat-draws (beat c.node) (heard_by w k c.node)))
    where
      c : Calmly w k (turn_at w k x).node.state
      c = calm-turn w set g k (turn_at w k x).node (node-after w k x g.lawful.well_formed.count at)

      same : c.node ≡ x
      same = some-same c.node x (sym c.at ∙ at)

      draws : (heard_by w k c.node).view.draws ≡ x.state.view.draws
      draws = c.heard.draws ∙ ap (λ (n : PortNode). n.state.view.draws) same

      first : (heard_by w k c.node).view.first_draws ≡ x.state.view.first_draws
      first = c.heard.first_draws ∙ ap (λ (n : PortNode). n.state.view.first_draws) same

      most : (n k m : ℕ) → k ≡ min (n + 1) 65535 → n ≡ m → 32 ≤ m → 32 ≤ k
      most n k m e f h = omega (arith, e, f, h)

      go :
          Drew (coin_of (beat c.node)) (heard_by w k c.node)
          (on_beat (beat c.node) (heard_by w k c.node)).state ⊎ DrewNone (heard_by w k c.node)
          (on_beat (beat c.node) (heard_by w k c.node)).state →
          ManyDraws x.state (on_beat (beat c.node) (heard_by w k c.node)).state
      go (inl n) = record {
        many = most (heard_by w k c.node).view.draws (on_beat (beat c.node) (heard_by w k c.node)).state.view.draws x.state.view.draws n.draws draws many;
        first = n.first_draws ∙ kept-first (coin_of (beat c.node)) (heard_by w k c.node).view.draws (heard_by w k c.node).view.first_draws (omega (arith, draws, many)) ∙ first;
      }
      go (inr n) = record { many = omega (arith, n.draws, draws, many); first = n.first_draws ∙ first }

  pub contention-turn : HasContention w set → HasContention (turn w) set
  contention-turn h =
      let n = some-of (slice_get w.nodes h.low) _ h.is.draws in
      let o = some-of (slice_get w.nodes h.high) _ n.2 in
      let p = many-on h.low n.0 n.1 o.2.many in
      let q = many-on h.high o.0 o.1 o.2.many_too in
      record {
        low = h.low;
        high = h.high;
        is = record {
          no_loop = record { core = h.is.no_loop.core; is_core = subst (λ c. IsCore c set h.is.no_loop.core) (sym (cabling-after w)) h.is.no_loop.is_core; empty = h.is.no_loop.empty };
          rising = h.is.rising;
          holds_a = h.is.holds_a;
          holds_b = h.is.holds_b;
          port_a = h.is.port_a;
          port_b = h.is.port_b;
          cable = ap (λ (c : Wiring). far c (end_at h.low h.is.port_a)) (cabling-after w) ∙ h.is.cable;
          draws = some-at (slice_get (turn w).nodes h.low) (turn_at w h.low n.0).node (λ (z : PortNode). AtView (turn w) h.high (λ u. DrewAlike z.state.view u)) (node-after w h.low n.0 g.lawful.well_formed.count n.1)
              (some-at (slice_get (turn w).nodes h.high) (turn_at w h.high o.0).node (λ (z : PortNode). DrewAlike (turn_at w h.low n.0).node.state.view z.state.view) (node-after w h.high o.0 g.lawful.well_formed.count o.1)
              (record { many = p.many; many_too = q.many; alike = p.first ∙ o.2.alike ∙ sym q.first }));
        };
      }

no-loop-held :
    (holds : List PlacedHold) (w : CableWorld) (set : ℕ) → HasNoLoop w set →
    HasNoLoop (with_holds holds w) set
no-loop-held holds w set n = record { core = n.core; is_core = n.is_core; empty = n.empty }

contention-held :
    (holds : List PlacedHold) (w : CableWorld) (set : ℕ) → HasContention w set →
    HasContention (with_holds holds w) set
contention-held holds w set h = record {
  low = h.low;
  high = h.high;
  is = record {
    no_loop = no-loop-held holds w set h.is.no_loop;
    rising = h.is.rising;
    holds_a = h.is.holds_a;
    holds_b = h.is.holds_b;
    port_a = h.is.port_a;
    port_b = h.is.port_b;
    cable = h.is.cable;
    draws = h.is.draws;
  };
}

pub contention-after :
    (hs : HoldSchedule) (v : CableWorld) (set : ℕ) → Grown v set → (i : ℕ) → HasContention v set →
    HasContention (quiet_after hs i v) set
unfolding quiet_after
contention-after hs v set g zero r = contention-held (hs 0) v set r
contention-after hs v set g (suc i) r =
    contention-held (hs (suc i)) (turn (quiet_after hs i v)) set
    (contention-turn (quiet_after hs i v) set (grown-after hs v set g i)
    (contention-after hs v set g i r))

-- ---- rounds

module _ (set most slack : ℕ) (a b : End) where
  -- after n rounds both drew n times more, or one is root
  pub rounds :
      (hs : HoldSchedule) (n m : ℕ) → m + n ≤ 64 → (w : CableWorld) → Grown w set →
      Bounds most slack w → At w set a b (AreUp a.port b.port m)
      →
      ((j : ℕ) × (j ≤ n * (most + 2 * (w.delay + slack)))
      × At (quiet_after hs j w) set a b (AreUp a.port b.port (m + n)))
      ⊎ ((j : ℕ) × (j ≤ n * (most + 2 * (w.delay + slack)) + (most + (most + 2 * (w.delay + slack)))) × HasRoot (quiet_after hs j w) set)
  rounds hs zero m small w g f s =
      let z : m + 0 ≡ m = omega arith in
      inl (
        0,
        omega arith,
        subst (λ (u : CableWorld). At u set a b (AreUp a.port b.port (m + 0))) (sym (no-quiet hs w))
            (at-held set a b (AreUp a.port b.port (m + 0)) (hs 0) w (subst (λ k. At w set a b (AreUp a.port b.port k)) (sym z) s)),
      )
  rounds hs (suc n) m small w g f s = elim (round set most slack m (omega (arith, small)) hs a b w g f s) [
    | inr t ↦ inr (t.0, omega (arith, t.1), t.2)
    | inl t ↦
        let v : CableWorld = quiet_after hs t.0 w in
        let gv : Grown v set = grown-after hs w set g t.0 in
        let same : most + 2 * (v.delay + slack) ≡ most + 2 * (w.delay + slack) = omega (arith, after-delay hs w g.lawful t.0) in
        let rest : HoldSchedule = holds_after t.0 hs in
        elim (rounds rest n (m + 1) (omega (arith, small)) v gv (bounds-after hs w set g most slack f t.0) t.2) [
          | inl u ↦
              let z : m + 1 + n ≡ m + suc n = omega arith in
              inl (t.0 + u.0, up-none n (most + 2 * (v.delay + slack)) (most + 2 * (w.delay + slack)) t.0 u.0 same t.1 u.1, subst (λ (q : CableWorld). At q set a b (AreUp a.port b.port (m + suc n))) (sym (quiet-then hs t.0 u.0 w)) (subst (λ k. At (quiet_after rest u.0 v) set a b (AreUp a.port b.port k)) z u.2))
          | inr u ↦ inr (t.0 + u.0, up-to n (most + 2 * (v.delay + slack)) (most + 2 * (w.delay + slack)) t.0 u.0 most most refl same t.1 u.1, subst (λ (q : CableWorld). HasRoot q set) (sym (quiet-then hs t.0 u.0 w)) u.2)
        ]
  ]
    where
      up-none : (n e d i j : ℕ) → e ≡ d → i ≤ d → j ≤ n * e → i + j ≤ suc n * d
      up-none n e d i j same h l =
          let z : suc n * d ≡ n * d + d = grind arith in
          omega (arith, z, h, subst (λ q. j ≤ n * q) same l)

      up-to :
          (n e d i j b c : ℕ) → b ≡ c → e ≡ d → i ≤ d → j ≤ n * e + (b + e) →
          i + j ≤ suc n * d + (c + d)
      up-to n e d i j b c long same h l =
          let z : suc n * d ≡ n * d + d = grind arith in
          omega (arith, z, h, long, subst (λ q. j ≤ n * q + (b + q)) same l)
