-- After n * d quiet turns a Reset is under way to nodes in R0 alone: any other would enter
-- R0 when it comes.
use Rattle.std.proofs.Common.{◌≡◌, ◌⊎◌, inl, inr, ℕ, zero, suc, ◌+◌, ◌-◌, ◌*◌, ◌<◌, ◌≤◌, Bool, true, false, ◌||◌, List, [], ◌∷◌, ◌++◌, map, Some, length, slice_get, if◌then◌else◌, refl, sym, ◌∙◌, ap, subst, arith, add-one, true≢false}
use Rattle.convergence.proofs.Common.{Signal, Timing, NodeState, beat, is_resetting, PortNode, End, Wiring, far, ports_of, Travelling, age_wire, gives, new_signal, CableWorld, wire_of, inbox, turn_at, turn, hear_all, signals_of, has_reset, AgesFall, IsLawful, node-after, cabling-after, hears, ticks, side, side-wire, steady, after-delay, cable-connected, some-same, departures, HearsWell, TicksWell, turn-state, comes, holds-signals, one-quiet, quiet-lawful, turn-lawful, HoldSchedule, with_holds, quiet_after, ResetsAreOver, contrary}
use Rattle.cable_world.specs.Wire.{age_signal}
use Rattle.cable_world.specs.Signals.{is_reset}
use Rattle.convergence.proofs.turns.Cables.{joined-of}

-- ---- old Resets

-- a Reset is under way, and has been for so many turns
abbrev pub OldReset : ℕ → List Travelling → Type 0
OldReset n [] = ⊥
OldReset n (t ∷ ts) = ((is_reset t.signal ≡ true) × (n ≤ t.age)) ⊎ OldReset n ts

pub some-old : (ts : List Travelling) → has_reset (signals_of ts) ≡ true → OldReset 0 ts
some-old [] h = absurd (true≢false (sym h))
some-old (t ∷ ts) h = go (is_reset t.signal) refl h (some-old ts)
  where
    go :
        (b : Bool) → is_reset t.signal ≡ b → (b || has_reset (signals_of ts)) ≡ true →
        (has_reset (signals_of ts) ≡ true → OldReset 0 ts) → OldReset 0 (t ∷ ts)
    go true e h rest = inl (e, omega arith)
    go false e h rest = inr (rest h)

old-some : (n : ℕ) (ts : List Travelling) → OldReset n ts → has_reset (signals_of ts) ≡ true
old-some n [] h = absurd h
old-some n (t ∷ ts) (inl h) = ap (λ b. b || has_reset (signals_of ts)) h.0
old-some n (t ∷ ts) (inr h) = or-true (is_reset t.signal) (has_reset (signals_of ts)) (old-some n ts h)
  where
    or-true : (b c : Bool) → c ≡ true → (b || c) ≡ true
    or-true true c h = refl
    or-true false c h = h

old-older : (n : ℕ) (ts : List Travelling) → OldReset n ts → OldReset (n + 1) (map age_signal ts)
old-older n [] h = absurd h
old-older n (t ∷ ts) (inl h) = inl (h.0, omega (arith, h.1))
old-older n (t ∷ ts) (inr h) = inr (old-older n ts h)

old-first : (n : ℕ) (ts us : List Travelling) → OldReset n ts → OldReset n (ts ++ us)
old-first n [] us h = absurd h
old-first n (t ∷ ts) us (inl h) = inl h
old-first n (t ∷ ts) us (inr h) = inr (old-first n ts us h)

pub none-older :
    (most n : ℕ) (ts : List Travelling) → most < n → AgesFall most ts → OldReset n ts → ⊥
none-older most n [] less f h = h
none-older most n (t ∷ ts) less f (inl h) = omega (arith, less, f.0, h.1)
none-older most n (t ∷ ts) less f (inr h) = none-older t.age n ts (omega (arith, less, f.0)) f.1 h

-- ---- one turn

-- a node that a Reset comes to is in R0 after the turn, if it wasn't before
comes-in :
    (w : CableWorld) → IsLawful w → (a b : End) (y : PortNode) → far w.cabling a ≡ Some b →
    slice_get w.nodes b.node ≡ Some y → gives w.delay (age_wire (wire_of w a)) ≡ true →
    has_reset (signals_of (wire_of w a).signals) ≡ true →
    is_resetting y.state.view.phase ≡ false →
    is_resetting (turn_at w b.node y).node.state.view.phase ≡ true
comes-in w l a b y e at g r out = ap (λ (s : NodeState). is_resetting s.view.phase) (turn-state signals y) ∙ elim h.cases [
  | inl s ↦ contrary entered (ap is_resetting s.phase ∙ out)
  | inr c ↦ (t.holds entered (omega (arith, c.timer, hold-least, l.well_formed.some_delay)) hold-most).0
]
  where
    signals : List (ℕ × Signal)
    signals = inbox w 0 (ports_of w.cabling b.node)

    back : far w.cabling b ≡ Some a
    back = l.well_formed.cabling.both_ways a b e

    h : HearsWell (inbox w 0 (ports_of w.cabling b.node)) y.state
    h = hears w b.node y l.well_formed at

    t : TicksWell (beat y) (hear_all (inbox w 0 (ports_of w.cabling b.node)) y.state).state
    t = ticks w b.node y l.well_formed at

    hold-least :
        64 * w.delay ≤ (hear_all (inbox w 0 (ports_of w.cabling b.node)) y.state).state.timing.hold
    hold-least = rw h.timing (l.well_formed.nodes b.node y at).timing.hold_least

    hold-most : (hear_all (inbox w 0 (ports_of w.cabling b.node)) y.state).state.timing.hold ≤ 65535
    hold-most = omega (arith, ap (λ (z : Timing). z.hold) h.timing, (l.well_formed.nodes b.node y at).timing.hold_most, (l.well_formed.nodes b.node y at).timing.counted.hold)

    entered :
        is_resetting (hear_all (inbox w 0 (ports_of w.cabling b.node)) y.state).state.view.phase
        ≡ true
    entered =
        h.enters b.port (cable-connected w b a y l.well_formed back at)
        (ap has_reset (comes w a b back) ∙ ap (λ (c : Bool). has_reset (if c then signals_of (wire_of w a).signals else [])) g ∙ r)

pub old-after :
    (w : CableWorld) → IsLawful w → (a b : End) (y z : PortNode) (n : ℕ) →
    far w.cabling a ≡ Some b → slice_get w.nodes b.node ≡ Some y →
    slice_get (turn w).nodes b.node ≡ Some z →
    is_resetting y.state.view.phase ≡ false → is_resetting z.state.view.phase ≡ false →
    OldReset n (wire_of w a).signals → OldReset (n + 1) (wire_of (turn w) a).signals
old-after w l a b y z n e at at_z out out_z old =
    subst (OldReset (n + 1)) (sym (side-wire w a b x l.well_formed e at_x)) (go (gives w.delay (age_wire (wire_of w a))) refl)
  where
    x : PortNode
    x = (joined-of w a b l.well_formed e).near

    at_x : slice_get w.nodes a.node ≡ Some x
    at_x = (joined-of w a b l.well_formed e).near_at

    same : (turn_at w b.node y).node ≡ z
    same = some-same (turn_at w b.node y).node z (sym (node-after w b.node y l.well_formed.count at) ∙ at_z)

    go :
        (g : Bool) → gives w.delay (age_wire (wire_of w a)) ≡ g → OldReset (n + 1)
        ((if g then [] else map age_signal (wire_of w a).signals) ++ map new_signal (departures (side w a x)))
    go true g = absurd (true≢false
        (sym (comes-in w l a b y e at g (old-some n (wire_of w a).signals old) out) ∙ ap (λ (u : PortNode). is_resetting u.state.view.phase) same ∙ out_z))
    go false g = old-first (n + 1) (map age_signal (wire_of w a).signals) (map new_signal (departures (side w a x))) (old-older n (wire_of w a).signals old)

-- ---- many turns

module _
    (hs : HoldSchedule) (w : CableWorld) (l : IsLawful w) (k : ℕ) (late : length w.nodes * w.delay ≤ k) (a b : End)
  where
    abbrev later : ℕ → CableWorld
    later i = quiet_after hs (k + i) w

    -- at the far end a node outside R0, and a Reset under way to it for so many turns
    record Waits (i : ℕ) : Type 0 where
      cable : far (later i).cabling a ≡ Some b
      node : PortNode
      at : slice_get (later i).nodes b.node ≡ Some node
      out : is_resetting node.state.view.phase ≡ false
      old : OldReset i (wire_of (later i) a).signals

    next : (i : ℕ) → Waits i → Waits (i + 1)
    next i h =
        let v : CableWorld = later i in
        let m : IsLawful v = quiet-lawful hs (k + i) w l in
        let z : PortNode = (turn_at v b.node h.node).node in
        let at_z : slice_get (turn v).nodes b.node ≡ Some z = node-after v b.node h.node m.well_formed.count h.at in
        let held : CableWorld = with_holds (hs (k + i + 1)) (turn v) in
        let step : quiet_after hs (k + i + 1) w ≡ held = one-quiet hs (k + i) w in
        let n : k + (i + 1) ≡ k + i + 1 = omega arith in
        let is : later (i + 1) ≡ held = ap (λ (j : ℕ). quiet_after hs j w) n ∙ step in
        let out_z : is_resetting z.state.view.phase ≡ false =
        steady hs w l (k + i) (omega (arith, late)) b.node h.node z h.at (ap (λ (u : CableWorld). slice_get u.nodes b.node) step ∙ at_z) h.out in
        record {
          cable = ap (λ (u : CableWorld). far u.cabling a) is ∙ ap (λ (c : Wiring). far c a) (cabling-after v) ∙ h.cable;
          node = z;
          at = ap (λ (u : CableWorld). slice_get u.nodes b.node) is ∙ at_z;
          out = out_z;
          old = subst (λ (u : CableWorld). OldReset (i + 1) (wire_of u a).signals) (sym is)
              (subst (OldReset (i + 1)) (sym (holds-signals (hs (k + i + 1)) (turn v) a (turn-lawful v m))) (old-after v m a b h.node z i h.cable h.at at_z h.out out_z h.old));
        }

    all : Waits 0 → (i : ℕ) → Waits i
    all h zero = h
    all h (suc i) = subst Waits (add-one i) (next i (all h i))

    never : Waits 0 → ⊥
    never h =
        let i : ℕ = (later 0).delay in
        let u : Waits i = all h i in
        let m : IsLawful (later i) = quiet-lawful hs (k + i) w l in
        none-older ((later i).delay - 1) i (wire_of (later i) a).signals (less i m) (m.well_formed.ages a) u.old
      where
        less : (i : ℕ) → IsLawful (later i) → (later i).delay - 1 < (later 0).delay
        less i m = omega (arith, after-delay hs w l (k + i), after-delay hs w l (k + 0), l.well_formed.some_delay)

pub resets-over :
    (hs : HoldSchedule) (w : CableWorld) → IsLawful w → (k : ℕ) → length w.nodes * w.delay ≤ k →
    ResetsAreOver (quiet_after hs k w)
resets-over hs w l k late a b y e at r = go (is_resetting y.state.view.phase) refl
  where
    z : k + 0 ≡ k
    z = omega arith

    go : (c : Bool) → is_resetting y.state.view.phase ≡ c → c ≡ true
    go true h = refl
    go false h = absurd (never hs w l k late a b (record {
      cable = subst (λ n. far (quiet_after hs n w).cabling a ≡ Some b) (sym z) e;
      node = y;
      at = subst (λ n. slice_get (quiet_after hs n w).nodes b.node ≡ Some y) (sym z) at;
      out = h;
      old = subst (λ n. OldReset 0 (wire_of (quiet_after hs n w) a).signals) (sym z) (some-old (wire_of (quiet_after hs k w) a).signals r);
    }))
