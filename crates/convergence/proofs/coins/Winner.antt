-- Of two rivals with unequal coins the one with the long wait wins.
use Rattle.std.proofs.Common.{◌≡◌, ◌≢◌, ◌⊎◌, inl, inr, ℕ, zero, suc, ◌+◌, ◌*◌, ◌<◌, ◌≤◌, true, false, not, List, Option, Some, None, length, slice_get, refl, sym, ◌∙◌, ap, subst, arith, add-one}
use Rattle.convergence.proofs.turns.PhaseFacts.{late-start}
use Rattle.std.proofs.lemmas.Bool.{eq-eqb}
use Rattle.convergence.proofs.Common.{End, Wiring, far, IsComponent, Holds, Phase, NodeState, is_port, is_resetting, raise_timer, PortNode, Travelling, CableWorld, wire_of, turn_at, turn, ComesOfPowerOn, is_before_tree, is_shaking, leads_down, IsLawful, node-after, cabling-after, delay-after, came, side, side-node, side-wire, steady, child-if, some-same, Side, hearing, ticking, wire_after, late-roles, comes-lawful, not-both, NoEntry, holds-signals, one-quiet, quiet-lawful, turn-lawful, PlacedHold, HoldSchedule, with_holds, quiet_after, last_coin, KnowsCoins, AsksAgain, IsContested, HaveMet, AreRivals, AreJoined, AreMutual, AreUnequal, contrary}
use Rattle.port_state.specs.declared.signal.Phase.TheVariants as phase
use Rattle.port_state.specs.declared.timing.Timing.{Timing}
use Rattle.cable_world.specs.Times.{Suits}
use Rattle.cable_world.proofs.Lemmas.{heard_connected, after-longest, beat-misses, misses-slowly, longest-after}
use Rattle.convergence.proofs.turns.Cables.{joined-held}
use Rattle.convergence.specs.Drawers.{HasWonAt}
use Rattle.convergence.proofs.coins.StaysContested.{rivals-of, comes-contested, quiet-contested}
use Rattle.convergence.proofs.coins.ContestsInTurns.{down-after}
use Rattle.convergence.proofs.coins.Drawers.{unequal-mutual}
use Rattle.convergence.proofs.turns.Moves.{Drew, DrewNone, Shook, Waits, TookRival, Fights, coin_of}
use Rattle.port_state.specs.Clock.{Clock, clock_after}
use Rattle.convergence.proofs.resets.ResetsOver.{resets-over}
use Rattle.convergence.proofs.coins.Rivals.{Rivals, swapped, up-mid, coin-still, draws-not, no-contend}
use Rattle.convergence.proofs.turns.Roles.{parent-was, child-late, parent-late}
use Rattle.convergence.proofs.coins.Stands.{shaken, fought, HasWaited, MissesSlowly, waited-less, waited-on, over-timer, long-undrawn, contend-none, waits-on, asks-still, not-again, not-over, took-none}

-- two rivals: x waits long, and has waited for so many turns; y waits short, or asks again
pub record Faces
    (d most : ℕ) (x : NodeState) (c : Clock) (p : ℕ) (y : NodeState) (q : ℕ) (back : List Travelling)
    (i : ℕ) : Type 0 where
  pub here : is_port x.view.parent p ≡ true
  pub there : is_port y.view.parent q ≡ true
  pub contends : x.view.phase ≡ phase.Contend
  pub long : last_coin x ≡ true
  pub short : last_coin y ≡ false
  pub waited : HasWaited most 1 i x c
  pub how :
      (y.view.phase ≡ phase.Contend) ⊎ ((is_shaking y.view.phase ≡ true) × AsksAgain d x y back)

abbrev pub Over : NodeState → ℕ → Type 0
Over x p = (leads_down x.view.ports p ≡ true) × (x.view.parent ≡ None)

module _
    (d most : ℕ) (x y : Side) (r : Rivals d x y) (hx : NoEntry x.node (hearing x))
    (hy : NoEntry y.node (hearing y)) (slowly : MissesSlowly most 1 x) where
  s : Rivals d y x
  s = swapped d x y r

  abbrev After : ℕ → Type 0
  After i = Over (ticking x).state x.port ⊎ Faces d most (ticking x).state (clock_after x.clock) x.port (ticking y).state y.port (wire_after y) (i + 1)

  up-x :
      (ticking x).state.view.parent ≡ (hearing x).state.view.parent →
      is_port x.node.view.parent x.port ≡ true → is_port (ticking x).state.view.parent x.port ≡ true
  up-x e u = ap (λ o. is_port o x.port) e ∙ up-mid d x y r hx u

  up-y :
      (ticking y).state.view.parent ≡ (hearing y).state.view.parent →
      is_port y.node.view.parent y.port ≡ true → is_port (ticking y).state.view.parent y.port ≡ true
  up-y e u = ap (λ o. is_port o y.port) e ∙ up-mid d y x s hy u

  contend-shakes : (f : Phase) → f ≡ phase.Contend → is_shaking f ≡ true → ⊥
  contend-shakes f a b = grind arith

  pub faces-after : (i : ℕ) → Faces d most x.node x.clock x.port y.node y.port y.wire i → After i
  faces-after i f = go (fought d x y r f.here f.there hx f.contends) f.how
    where
      nx : DrewNone x.node (ticking x).state
      nx = contend-none d x y r f.here f.there hx hy f.contends

      met : y.node.view.phase ≡ phase.Contend → HaveMet d x.node x.clock y.node y.clock
      met c = both-in (r.here.rivals f.here f.there)
        where
          both-in : AreRivals d x.node x.clock x.port x.wire y.node y.clock y.port y.wire → HaveMet d x.node x.clock y.node y.clock
          both-in (inl a) = absurd (contend-shakes x.node.view.phase f.contends a.here)
          both-in (inr (inl m)) = m
          both-in (inr (inr (inl a))) = absurd (contend-shakes y.node.view.phase c a.there)
          both-in (inr (inr (inr a))) = absurd (contend-shakes x.node.view.phase f.contends a.there)

      on :
          Waits x.beat (hearing x).state (ticking x).state (ticking x).sends →
          HasWaited most 1 (i + 1) (ticking x).state (clock_after x.clock)
      on w =
          waited-on d x y r f.here f.there hx f.contends w nx.wait most 1 i slowly f.waited

      both :
          Waits x.beat (hearing x).state (ticking x).state (ticking x).sends →
          (c : y.node.view.phase ≡ phase.Contend) → Fights y.beat (hearing y).state
          (ticking y).state (ticking y).sends → After i
      both w c (inl v) = inr (record {
        here = up-x w.parent f.here;
        there = up-y v.parent f.there;
        contends = w.phase;
        long = coin-still d x y r nx ∙ f.long;
        short = coin-still d y x s (contend-none d y x s f.there f.here hy hx c) ∙ f.short;
        waited = on w;
        how = inl v.phase;
      })
      both w c (inr (inl v)) =
          let m = met c in
          absurd (took-none d y x s f.there f.here hy hx (record { here = c; there = f.contends; drew = record { draws = m.drew.draws; first = m.drew.first; here = m.drew.there; there = m.drew.here }; near = m.far; far = m.near }) v)
      both w c (inr (inr v)) = inr (record {
        here = up-x w.parent f.here;
        there = up-y v.stays f.there;
        contends = w.phase;
        long = coin-still d x y r nx ∙ f.long;
        short = coin-still d y x s (contend-none d y x s f.there f.here hy hx c) ∙ f.short;
        waited = on w;
        how = inr (ap is_shaking v.phase, waits-on d x y r f.here f.there hx hy (met c) w v);
      })

      asked :
          Waits x.beat (hearing x).state (ticking x).state (ticking x).sends →
          (sh : is_shaking y.node.view.phase ≡ true) → AsksAgain d x.node y.node y.wire →
          Shook (hearing y).state (ticking y).state (ticking y).sends
          ⊎ Drew (coin_of y.beat) (hearing y).state (ticking y).state →
          After i
      asked w sh h (inl v) = inr (record {
        here = up-x w.parent f.here;
        there = up-y v.parent f.there;
        contends = w.phase;
        long = coin-still d x y r nx ∙ f.long;
        short = coin-still d y x s (draws-not d y x s hy (λ u. no-contend (ticking y).state.view.phase v.phase u.phase)) ∙ f.short;
        waited = on w;
        how = inr (v.phase, asks-still d x y r f.here f.there hx hy f.contends sh w v h);
      })
      asked w sh h (inr v) = absurd (long-undrawn d x y r f.here f.there f.contends h.long hy v)

      won : TookRival (raise_timer (hearing x).state) (ticking x).state → After i
      won t = inl (
        child-if (ticking x).state.view.parent (ticking x).state.view.ports x.port (late-roles (ticking x).state r.pair.near.ticks.valid (ap is_before_tree t.phase)) (r.pair.near.ticks.cables x.port ∙ heard_connected d x r.pair.near)
            ∙ ap (λ o. not (is_port o x.port)) t.root,
        t.root,
      )

      go :
          Fights x.beat (hearing x).state (ticking x).state (ticking x).sends →
          (y.node.view.phase ≡ phase.Contend)
          ⊎ ((is_shaking y.node.view.phase ≡ true) × AsksAgain d x.node y.node y.wire) → After i
      go (inl w) (inl c) = both w c (fought d y x s f.there f.here hy c)
      go (inl w) (inr a) = asked w a.0 a.1 (shaken d y x s f.there f.here hy a.0)
      go (inr (inl t)) h = won t
      go (inr (inr t)) (inl c) = absurd (not-over d x y r f.here f.there hx hy (met c) (over-timer d x y r f.here f.there hx f.contends t.over).0 f.long f.short)
      go (inr (inr t)) (inr a) = elim a.1.coins [
        | inl e ↦ contrary f.long (e ∙ f.short)
        | inr e ↦ absurd (not-again d x y r f.here f.there hx hy f.contends a.0 t e.2)
      ]

-- who has won has won
module _ (d : ℕ) (x y : Side) (r : Rivals d x y) (hx : NoEntry x.node (hearing x)) where
  pub over-after : Over x.node x.port → Over (ticking x).state x.port
  over-after o = (down-after d x y r hx late o.0, go (ticking x).state.view.parent refl)
    where
      late : is_before_tree x.node.view.phase ≡ false
      late = child-late x.node r.pair.near.valid x.port o.0

      start : (f : Phase) → is_before_tree f ≡ false → f ≡ phase.TreeStart → ⊥
      start f a b = grind arith

      go : (o : Option ℕ) → (ticking x).state.view.parent ≡ o → o ≡ None
      go None e = refl
      go (Some p) e = elim (parent-was x.beat (hearing x).state p (ap (λ z. is_port z p) e ∙ eq-eqb p p refl)) [
        | inl u ↦ contrary u (ap (λ z. is_port z p) (hx.parent ∙ o.1))
        | inr t ↦ absurd (start x.node.view.phase late (sym hx.phase ∙ t))
      ]

-- ---- in a world

record FacesIn (w : CableWorld) (a b : End) (i : ℕ) : Type 0 where
  ends : AreJoined w a b
  faces : Faces w.delay w.longest.long ends.near.state ends.near.clock a.port ends.other.state b.port (wire_of w b).signals i

record OverIn (w : CableWorld) (a b : End) : Type 0 where
  ends : AreJoined w a b
  over : Over ends.near.state a.port

abbrev State : CableWorld → End → End → ℕ → Type 0
State w a b i = OverIn w a b ⊎ FacesIn w a b i

-- a clock that misses a turn
slow-side :
    (u : CableWorld) → IsLawful u → (a : End) (x : PortNode) → slice_get u.nodes a.node ≡ Some x →
    MissesSlowly u.longest.long 1 (side u a x)
slow-side u m a x at none =
    let h = misses-slowly u.longest x.state.timing x.clock (beat-misses x none) (m.paced a.node x at) in
    (h.1.long_most, omega arith)

-- one turn in which neither node begins a reset
module _
    (u : CableWorld) (m : IsLawful u) (c : IsContested u)
    (quiet : (k : ℕ) (x : PortNode) → slice_get u.nodes k ≡ Some x → is_resetting x.state.view.phase ≡ false → is_resetting (turn_at u k x).node.state.view.phase ≡ false)
    (a b : End) where
  module _ (e : AreJoined u a b) where
    r : Rivals u.delay (side u a e.near) (side u b e.other)
    r = rivals-of u m c a b e.near e.other e.joined e.near_at e.other_at

    back : far u.cabling b ≡ Some a
    back = m.well_formed.cabling.both_ways a b e.joined

    hears-on :
        (g h : End) (z t : PortNode) → Rivals u.delay (side u g z) (side u h t) →
        slice_get u.nodes g.node ≡ Some z → is_before_tree z.state.view.phase ≡ false →
        NoEntry z.state (hearing (side u g z))
    hears-on g h z t q at late = elim q.pair.near.hears.cases [
      | inl n ↦ n
      | inr n ↦ absurd (not-both (is_resetting (ticking (side u g z)).state.view.phase) (came u.delay (side u g z) (side u h t) q.pair n).0
          (ap (λ (o : NodeState). is_resetting o.view.phase) (sym (side-node u g z)) ∙ quiet g.node z at (late-start z.state.view.phase late)))
    ]

    abbrev next : AreJoined (turn u) a b
    next = record {
      joined = ap (λ (d : Wiring). far d a) (cabling-after u) ∙ e.joined;
      near = (turn_at u a.node e.near).node;
      near_at = node-after u a.node e.near m.well_formed.count e.near_at;
      other = (turn_at u b.node e.other).node;
      other_at = node-after u b.node e.other m.well_formed.count e.other_at;
    }

    late-x :
        Over e.near.state a.port ⊎ (is_port e.near.state.view.parent a.port ≡ true) →
        is_before_tree e.near.state.view.phase ≡ false
    late-x (inl o) = child-late e.near.state (m.well_formed.nodes a.node e.near e.near_at).valid a.port o.0
    late-x (inr p) = parent-late e.near.state (m.well_formed.nodes a.node e.near e.near_at).valid a.port p

    -- what is so of the sides is so of the nodes
    over-next : Over (ticking (side u a e.near)).state a.port → OverIn (turn u) a b
    over-next o = record { ends = next; over = subst (λ (z : NodeState). Over z a.port) (sym (side-node u a e.near)) o }

    faces-next :
        (i : ℕ) →
        Faces u.delay u.longest.long (ticking (side u a e.near)).state (clock_after e.near.clock) a.port (ticking (side u b e.other)).state b.port (wire_after (side u b e.other))
        i → FacesIn (turn u) a b i
    faces-next i f = record {
      ends = next;
      faces = rw (side-node u a e.near, side-node u b e.other, side-wire u b a e.other m.well_formed back e.other_at, delay-after u, longest-after u) f;
    }

  state-next : (i : ℕ) → State u a b i → State (turn u) a b (i + 1)
  state-next i (inl o) =
      let q = r o.ends in
      let hx = hears-on o.ends a b o.ends.near o.ends.other q o.ends.near_at (late-x o.ends (inl o.over)) in
      inl (over-next o.ends (over-after u.delay (side u a o.ends.near) (side u b o.ends.other) q hx o.over))
  state-next i (inr f) =
      let q = r f.ends in
      let hx = hears-on f.ends a b f.ends.near f.ends.other q f.ends.near_at (late-x f.ends (inr f.faces.here)) in
      let hy = hears-on f.ends b a f.ends.other f.ends.near (swapped u.delay (side u a f.ends.near) (side u b f.ends.other) q) f.ends.other_at
      (parent-late f.ends.other.state (m.well_formed.nodes b.node f.ends.other f.ends.other_at).valid b.port f.faces.there) in
      elim (faces-after u.delay u.longest.long (side u a f.ends.near) (side u b f.ends.other) q hx hy (slow-side u m a f.ends.near f.ends.near_at) i f.faces) [
        | inl o ↦ inl (over-next f.ends o)
        | inr g ↦ inr (faces-next f.ends (i + 1) g)
      ]

-- ---- holds

state-held :
    (holds : List PlacedHold) (w : CableWorld) (a b : End) (i : ℕ) → IsLawful w → State w a b i →
    State (with_holds holds w) a b i
state-held holds w a b i l (inl o) = inl (record { ends = joined-held holds w a b o.ends; over = o.over })
state-held holds w a b i l (inr f) = inr (record {
  ends = joined-held holds w a b f.ends;
  faces = subst (λ ts. Faces w.delay w.longest.long f.ends.near.state f.ends.near.clock a.port f.ends.other.state b.port ts i) (sym (holds-signals holds w b l)) f.faces;
})

-- ---- late

module _
    (hs : HoldSchedule) (w : CableWorld) (l : IsLawful w) (c : IsContested w) (k : ℕ)
    (late : length w.nodes * w.delay ≤ k) (a b : End) where
  abbrev later : ℕ → CableWorld
  later i = quiet_after hs (k + i) w

  one-turn : (i : ℕ) → State (later i) a b i → State (later (i + 1)) a b (i + 1)
  one-turn i h =
      let v : CableWorld = later i in
      let m : IsLawful v = quiet-lawful hs (k + i) w l in
      let held : CableWorld = with_holds (hs (k + i + 1)) (turn v) in
      let step : quiet_after hs (k + i + 1) w ≡ held = one-quiet hs (k + i) w in
      let n : k + (i + 1) ≡ k + i + 1 = omega arith in
      let is : later (i + 1) ≡ held = ap (λ (j : ℕ). quiet_after hs j w) n ∙ step in
      subst (λ (u : CableWorld). State u a b (i + 1)) (sym is)
      (state-held (hs (k + i + 1)) (turn v) a b (i + 1) (turn-lawful v m)
      (state-next v m (quiet-contested hs (k + i) w l c)
      (λ j x at out. steady hs w l (k + i) (omega (arith, late)) j x (turn_at v j x).node at
      (ap (λ (u : CableWorld). slice_get u.nodes j) step ∙ node-after v j x m.well_formed.count at) out)
      a b i h))

  turn-by-turn : State (later 0) a b 0 → (i : ℕ) → State (later i) a b i
  turn-by-turn h zero = h
  turn-by-turn h (suc i) = subst (λ (n : ℕ). State (later n) a b n) (add-one i) (one-turn i (turn-by-turn h i))

  won-by : (i : ℕ) → (later i).longest.long ≤ i → State (later i) a b i → HasWonAt (later i) a b
  won-by i long (inl o) = record { ends = o.ends; child = o.over.0; root = o.over.1 }
  won-by i long (inr f) =
      let knows : KnowsCoins f.ends.near.state = (quiet-contested hs (k + i) w l c).nodes a.node f.ends.near f.ends.near_at in
      let fits : Suits (later i).delay (later i).longest f.ends.near.state.timing = ((quiet-lawful hs (k + i) w l).well_formed.nodes a.node f.ends.near f.ends.near_at).timing in
      let under : f.ends.near.state.view.timer < f.ends.near.state.timing.long = elim (knows.shows f.faces.contends) [
        | inl s ↦ omega (arith, knows.waits f.faces.contends, s, fits.short_most, fits.long_least)
        | inr s ↦ omega (arith, knows.waits f.faces.contends, s)
      ] in
      absurd (omega (arith, long, waited-less (later i).longest.long 1 i f.ends.near.state f.ends.near.clock under fits.long_most f.faces.waited))

  starts :
      (m : AreMutual (quiet_after hs k w) a b) → m.ends.near.state.view.phase ≡ phase.Contend →
      m.ends.other.state.view.phase ≡ phase.Contend →
      last_coin m.ends.near.state ≡ true →
      last_coin m.ends.other.state ≡ false → State (later 0) a b 0
  starts m here there long short =
      let z : k + 0 ≡ k = omega arith in
      subst (λ (n : ℕ). State (quiet_after hs n w) a b 0) (sym z) (inr (record {
        ends = m.ends;
        faces = record { here = m.here; there = m.there; contends = here; long = long; short = short; waited = inl (omega arith); how = inl there };
      }))

  pub wins :
      (m : AreMutual (quiet_after hs k w) a b) → m.ends.near.state.view.phase ≡ phase.Contend →
      m.ends.other.state.view.phase ≡ phase.Contend →
      last_coin m.ends.near.state ≡ true →
      last_coin m.ends.other.state ≡ false → (i : ℕ) → w.longest.long ≤ i →
      HasWonAt (quiet_after hs (k + i) w) a b
  wins m here there long short i h =
      won-by i (omega (arith, h, ap (λ (t : Timing). t.long) (after-longest hs w l (k + i)))) (turn-by-turn (starts m here there long short) i)

-- two nodes of a component
pub unequal-won :
    (hs : HoldSchedule) (w : CableWorld) → ComesOfPowerOn w → (k node set m n i : ℕ) →
    length w.nodes * w.delay ≤ k →
    IsComponent (quiet_after hs k w).cabling node set → Holds set m → Holds set n → m ≢ n →
    AreUnequal (quiet_after hs k w) m n → w.longest.long ≤ i →
    (a : End) × (b : End) × (a.node ≡ m) × (b.node ≡ n) × HasWonAt (quiet_after hs (k + i) w) a b
unequal-won hs w reached k node set m n i late is in_m in_n ne u long =
    let l : IsLawful w = comes-lawful w reached in
    let c : IsContested w = comes-contested w reached in
    let v : CableWorld = quiet_after hs k w in
    let t = unequal-mutual v (quiet-lawful hs k w l) (quiet-contested hs k w l c) (resets-over hs w l k late) node set m n is in_m in_n ne u in
    let near : u.near ≡ t.4.ends.near = some-same u.near t.4.ends.near (sym u.near_at ∙ ap (slice_get v.nodes) (sym t.2) ∙ t.4.ends.near_at) in
    let other : u.other ≡ t.4.ends.other = some-same u.other t.4.ends.other (sym u.other_at ∙ ap (slice_get v.nodes) (sym t.3) ∙ t.4.ends.other_at) in (
      t.0,
      t.1,
      t.2,
      t.3,
      wins hs w l c k late t.0 t.1 t.4
          (ap (λ (z : PortNode). z.state.view.phase) (sym near) ∙ u.here)
          (ap (λ (z : PortNode). z.state.view.phase) (sym other) ∙ u.there)
          (ap (λ (z : PortNode). last_coin z.state) (sym near) ∙ u.long)
          (ap (λ (z : PortNode). last_coin z.state) (sym other) ∙ u.short)
          i long,
    )
