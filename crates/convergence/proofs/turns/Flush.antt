-- What a node tells over a cable for d turns is shown at the other end. A wire that gives
-- gives all that is under
-- way, so the other end then shows what was told last; and one that doesn't give for d turns has a
-- signal that is due.
use Rattle.std.proofs.Common.{◌≡◌, ℕ, zero, suc, ◌+◌, ◌-◌, ◌<◌, ◌≤◌, Bool, true, false, List, [], ◌∷◌, ◌++◌, map, Some, slice_get, if◌then◌else◌, refl, sym, ◌∙◌, ap, subst, arith, add-one, true≢false}
use Rattle.std.proofs.lemmas.Bool.{true_from_ne_false}
use Rattle.convergence.proofs.Common.{Level, NodeState, PortNode, End, Wiring, far, ports_of, Travelling, age_wire, gives, new_signal, CableWorld, wire_of, inbox, turn_at, turn, signals_of, level_shown, level_after, level_sent_at, AgesFall, IsLawful, before, hears, ticks, side, side-wire, after-delay, cable-connected, departures, turn-state, comes, holds-signals, one-quiet, quiet-lawful, after-cabling, turn-lawful, PlacedHold, HoldSchedule, with_holds, quiet_after, contrary}
use Rattle.cable_world.specs.Wire.{age_signal}
use Rattle.convergence.proofs.turns.Cables.{joined-of}

-- ---- the two ends of a cable

-- what the node at an end tells passes a test
abbrev pub Tells : CableWorld → End → (Level → Bool) → Type 0
Tells w a test = (x : PortNode) → slice_get w.nodes a.node ≡ Some x → test (level_sent_at x.state a.port) ≡ true

-- what it shows does
abbrev pub Shown : CableWorld → End → (Level → Bool) → Type 0
Shown w b test = (y : PortNode) → slice_get w.nodes b.node ≡ Some y → test (level_shown y.state b.port) ≡ true

-- a signal is under way, and the oldest has been for so many turns
abbrev FrontSince : ℕ → List Travelling → Type 0
FrontSince n [] = ⊥
FrontSince n (t ∷ ts) = n ≤ t.age

-- an end shows what doesn't pass because nothing came for so many turns
abbrev Due : ℕ → CableWorld → End → End → (Level → Bool) → Type 0
Due n w a b test = (y : PortNode) → slice_get w.nodes b.node ≡ Some y → test (level_shown y.state b.port) ≡ false → FrontSince n (wire_of w a).signals

-- so it is after holds
due-held :
    (holds : List PlacedHold) (w : CableWorld) → IsLawful w → (a b : End) (test : Level → Bool)
    (n : ℕ) → Due n w a b test → Due n (with_holds holds w) a b test
due-held holds w l a b test n due y at bad = subst (FrontSince n) (sym (holds-signals holds w a l)) (due y at bad)

front-older :
    (n : ℕ) (ts us : List Travelling) → FrontSince n ts → FrontSince (n + 1)
    (map age_signal ts ++ us)
front-older n [] us h = absurd h
front-older n (t ∷ ts) us h = omega (arith, h)

front-young :
    (n most : ℕ) (ts : List Travelling) → 1 ≤ n → most < n → AgesFall most ts → FrontSince n ts → ⊥
front-young n most [] o less f h = h
front-young n most (t ∷ ts) o less f h = omega (arith, o, less, f.0, h)

module _
    (w : CableWorld) (l : IsLawful w) (a b : End) (e : far w.cabling a ≡ Some b)
    (test : Level → Bool) (tell : Tells w a test) where
  abbrev x : PortNode
  x = (joined-of w a b l.well_formed e).near

  at_x : slice_get w.nodes a.node ≡ Some x
  at_x = (joined-of w a b l.well_formed e).near_at

  back : far w.cabling b ≡ Some a
  back = l.well_formed.cabling.both_ways a b e

  level :
      (y : PortNode) → slice_get w.nodes b.node ≡ Some y → level_after (level_shown y.state b.port)
      (signals_of (wire_of w a).signals) ≡ level_sent_at x.state a.port
  level y at = l.agrees.levels a b x y e at_x at

  due-first : Due 0 w a b test
  due-first y at bad = go (wire_of w a).signals refl
    where
      go : (ts : List Travelling) → (wire_of w a).signals ≡ ts → FrontSince 0 ts
      go (t ∷ ts) h = omega arith
      go [] h = absurd (true≢false
          (sym (tell x at_x) ∙ ap test (sym (level y at) ∙ ap (λ ts. level_after (level_shown y.state b.port) (signals_of ts)) h) ∙ bad))

  shown-after :
      (y : PortNode) → slice_get w.nodes b.node ≡ Some y →
      level_shown (turn_at w b.node y).node.state b.port ≡ level_after (level_shown y.state b.port)
      (if gives w.delay (age_wire (wire_of w a)) then signals_of (wire_of w a).signals else [])
  shown-after y at =
      ap (λ (s : NodeState). level_shown s b.port) (turn-state (inbox w 0 (ports_of w.cabling b.node)) y)
      ∙ (ticks w b.node y l.well_formed at).shown b.port
      ∙ (hears w b.node y l.well_formed at).shown b.port (cable-connected w b a y l.well_formed back at)
      ∙ ap (level_after (level_shown y.state b.port)) (comes w a b back)

  due-next : (n : ℕ) → Due n w a b test → Due (n + 1) (turn w) a b test
  due-next n due z at_z bad =
      let y = before w b.node z l.well_formed at_z in
      subst (FrontSince (n + 1)) (sym (side-wire w a b x l.well_formed e at_x))
      (go y.0 y.1 (gives w.delay (age_wire (wire_of w a))) (sym (ap (λ (u : PortNode). level_shown u.state b.port) y.2 ∙ shown-after y.0 y.1)))
    where
      go :
          (y : PortNode) → slice_get w.nodes b.node ≡ Some y → (g : Bool) →
          level_after (level_shown y.state b.port)
          (if g then signals_of (wire_of w a).signals else []) ≡ level_shown z.state b.port →
          FrontSince (n + 1) ((if g then [] else map age_signal (wire_of w a).signals) ++ map new_signal (departures (side w a x)))
      go y at true s = contrary (tell x at_x) (ap test (sym (level y at) ∙ s) ∙ bad)
      go y at false s = front-older n (wire_of w a).signals (map new_signal (departures (side w a x))) (due y at (ap test s ∙ bad))

-- ---- d quiet turns

-- a node tells what passes a test for as long as some condition holds, which held before
-- where it holds
module _
    (hs : HoldSchedule) (w : CableWorld) (l : IsLawful w) (a b : End) (e : far w.cabling a ≡ Some b)
    (test : Level → Bool) (C : ℕ → Type 0) (was : (i : ℕ) → C (i + 1) → C i)
    (tell : (i : ℕ) → C i → Tells (quiet_after hs i w) a test) where
  cable : (i : ℕ) → far (quiet_after hs i w).cabling a ≡ Some b
  cable i = ap (λ (c : Wiring). far c a) (after-cabling hs i w) ∙ e

  due : (i : ℕ) → C i → Due i (quiet_after hs i w) a b test
  due zero c = due-first (quiet_after hs zero w) (quiet-lawful hs zero w l) a b (cable zero) test (tell zero c)
  due (suc i) c =
      let k : i + 1 ≡ suc i = add-one i in
      let d : C i = was i (subst C (sym k) c) in
      subst (λ n. Due n (quiet_after hs n w) a b test) k
      (subst (λ v. Due (i + 1) v a b test) (sym (one-quiet hs i w))
      (due-held (hs (i + 1)) (turn (quiet_after hs i w)) (turn-lawful (quiet_after hs i w) (quiet-lawful hs i w l)) a b test (i + 1)
      (due-next (quiet_after hs i w) (quiet-lawful hs i w l) a b (cable i) test (tell i d) i (due i d))))

  pub flush : (i : ℕ) → w.delay ≤ i → C i → Shown (quiet_after hs i w) b test
  flush i late c y at = true_from_ne_false _ (λ s.
      let m : IsLawful (quiet_after hs i w) = quiet-lawful hs i w l in
      let some : 1 ≤ w.delay = l.well_formed.some_delay in
      front-young i ((quiet_after hs i w).delay - 1) (wire_of (quiet_after hs i w) a).signals (omega (arith, some, late)) (omega (arith, some, late, after-delay hs w l i)) (m.well_formed.ages a) (due i c y at s))
