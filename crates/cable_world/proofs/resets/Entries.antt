-- In quiet turns resets die out: after n * d turns no node enters R0, where there are n
-- nodes, and cables delay by at most d turns. A node enters R0 because a neighbour did, at most d
-- turns before. So the nodes that entered in the last turns form a chain, and there are no more of
-- them than nodes.
use Rattle.std.proofs.Common.{◌≡◌, ◌⊎◌, inl, inr, ℕ, zero, suc, ◌+◌, ◌-◌, ◌*◌, ◌<◌, ◌≤◌, Bool, true, false, ◌&&◌, cond, List, [], ◌∷◌, length, count_by, min, nat_le, Option, Some, None, is_some, slice_get, refl, sym, ◌∙◌, ap, subst, arith, if◌then◌else◌, le_refl, add-one}
use Rattle.std.proofs.Math.Nat.{mul-le-mul_left}
use Rattle.std.proofs.lemmas.Bool.{leb-false, cases_lt}
use Rattle.std.proofs.lemmas.Bool.Decides.{nat_tests}
use Rattle.std.proofs.lemmas.Option.{slice_get_within}
use Rattle.std.proofs.lemmas.List.Sums.{sum_by-cons, count_by-le-length}
use Rattle.port_state.specs.declared.signal.Phase.{Phase}
use Rattle.port_state.specs.declared.signal.Phase.TheVariants.{ResetStart}
use Rattle.port_state.specs.declared.signal.Signal.{Signal}
use Rattle.port_state.specs.declared.states.NodeState.{NodeState}
use Rattle.port_state.specs.declared.timing.Timing.{Timing}
use Rattle.port_state.specs.Ports.{is_connected}
use Rattle.port_state.specs.Sends.{sent_on}
use Rattle.port_state.specs.Heard.{is_resetting}
use Rattle.port_state.specs.Row as row
use Rattle.port_state.specs.Tick.{raise_timer, row_of, does, tick}
use Rattle.port_state.specs.Coins.{coin}
use Rattle.port_state.specs.Clock.{misses, clock_after}
use Rattle.port_state.specs.Machine.{PortNode, beat, on_beat}
use Rattle.cabling.specs.declared.cable.End.{End}
use Rattle.cabling.specs.Wiring.{far, ports_of}
use Rattle.cable_world.specs.Wire.{age_wire, gives}
use Rattle.cable_world.specs.World.{CableWorld, wire_of}
use Rattle.cable_world.specs.Turn.{inbox, turn_at, turn}
use Rattle.cable_world.specs.Quiet.{PlacedHold, HoldSchedule, with_holds, quiet_after}
use Rattle.cable_world.specs.Signals.{signals_of, has_reset, AllAsOldAs}
use Rattle.cable_world.specs.Phases.{slack}
use Rattle.cable_world.specs.Coupling.{Coupling}
use Rattle.cable_world.specs.Lawful.{IsLawful}
use Rattle.cable_world.proofs.Options.{some-same}
use Rattle.cable_world.proofs.turns.ByNumber.{node-after, nodes-after, cabling-after, delay-after, longest-after}
use Rattle.cable_world.proofs.QuietTurns.{no-quiet, one-quiet, quiet-lawful, holds-signals}
use Rattle.cable_world.proofs.StaysLawful.{turn-lawful}
use Rattle.cable_world.specs.Turn.{hear_all}
use Rattle.cable_world.proofs.turns.NodeFacts.{NoEntry, EntersReset, HearsWell, TicksWell}
use Rattle.cable_world.proofs.turns.HearsWell.{hear-came}
use Rattle.cable_world.proofs.coupling.Streams.{not-both, reset-age, AllAsOldAs-zero, AllAsOldAs-less}
use Rattle.cable_world.proofs.coupling.Sides.{hearing, ticking, leftovers, same_wire, kept_since}
use Rattle.cable_world.proofs.PhaseFacts.{start-timed, start-slack, timed-relays_none}
use Rattle.cable_world.proofs.turns.TicksWell.{ticks-well}
use Rattle.port_state.specs.Valid.{IsValid}
use Rattle.cabling.specs.Wiring.{Wiring}
use Rattle.cable_world.proofs.turns.TurnParts.{turn-state, comes}
use Rattle.cable_world.proofs.tables.CableEnds.{CableEnd, cable-end}
use Rattle.cable_world.proofs.coupling.CouplingInTurns.{before, hears, ticks, side, side-wire}

-- ---- counting

count-first :
    {X : Type 0} → (f : X → Bool) (x : X) (xs : List X) →
    count_by f (x ∷ xs) ≡ cond (f x) 1 0 + count_by f xs
count-first f x xs = sum_by-cons (λ z. cond (f z) 1 0) x xs

module _ {X : Type 0} (f g : X → Bool) where
  -- whatever passes the first test in the first list passes the second in its place in the second
  -- list
  abbrev Follows : List X → List X → Type 0
  Follows xs ys = (k : ℕ) (x y : X) → slice_get xs k ≡ Some x → slice_get ys k ≡ Some y → f x ≡ true → g y ≡ true

  one-le : (b c : Bool) → (b ≡ true → c ≡ true) → cond b 1 0 ≤ cond c 1 0
  one-le b c h = grind arith

  one-less : (b c : Bool) → b ≡ false → c ≡ true → cond b 1 0 + 1 ≤ cond c 1 0
  one-less b c h g = grind arith

  -- then no more pass in the first
  count-le :
      (xs ys : List X) → length xs ≡ length ys → Follows xs ys → count_by f xs ≤ count_by g ys
  count-le [] ys e h = omega arith
  count-le (x ∷ xs) [] e h = absurd (omega (arith, e))
  count-le (x ∷ xs) (y ∷ ys) e h =
      omega (arith, count-first f x xs, count-first g y ys, one-le (f x) (g y) (h 0 x y refl refl), count-le xs ys (omega (arith, e)) (λ k. h (suc k)))

  -- and fewer, where at one place the second alone passes
  count-less :
      (xs ys : List X) (j : ℕ) (u v : X) → length xs ≡ length ys → Follows xs ys →
      slice_get xs j ≡ Some u → slice_get ys j ≡ Some v → f u ≡ false → g v ≡ true →
      count_by f xs + 1 ≤ count_by g ys
  count-less [] ys j u v e h at_u at_v fails passes = absurd cc
  count-less (x ∷ xs) [] j u v e h at_u at_v fails passes = absurd (omega (arith, e))
  count-less (x ∷ xs) (y ∷ ys) zero u v e h at_u at_v fails passes =
      let first : f x ≡ false = ap f (some-same x u at_u) ∙ fails in
      let second : g y ≡ true = ap g (some-same y v at_v) ∙ passes in
      omega (arith, count-first f x xs, count-first g y ys, one-less (f x) (g y) first second, count-le xs ys (omega (arith, e)) (λ k. h (suc k)))
  count-less (x ∷ xs) (y ∷ ys) (suc j) u v e h at_u at_v fails passes =
      omega (arith, count-first f x xs, count-first g y ys, one-le (f x) (g y) (h 0 x y refl refl), count-less xs ys j u v (omega (arith, e)) (λ k. h (suc k)) at_u at_v fails passes)

-- ---- a node in R0 in a turn

-- a node that a tick leaves in R0 has some of its hold left
pub hold-left :
    (c : Bool) (x : NodeState) → is_resetting x.view.phase ≡ true → x.timing.hold ≤ 65535 →
    is_resetting (tick c x).state.view.phase ≡ true → x.view.timer + 1 < x.timing.hold
unfolding tick
hold-left c x r most h = risen x.timing.hold x.view.timer most (left x.view.phase (raise_timer x) r h)
  where
    risen : (hold t : ℕ) → hold ≤ 65535 → min (t + 1) 65535 < hold → t + 1 < hold
    risen hold t most l = grind arith

    left :
        (p : Phase) (x : NodeState) → is_resetting p ≡ true →
        is_resetting (does c (row_of p x) x).state.view.phase ≡ true → x.view.timer < x.timing.hold
    left ResetStart x r h = go (nat_le x.timing.hold x.view.timer) refl h
      where
        go :
            (b : Bool) → nat_le x.timing.hold x.view.timer ≡ b →
            is_resetting (does c (if b then row.ends_reset else row.none) x).state.view.phase
            ≡ true →
            x.view.timer < x.timing.hold
        go true e h = absurd cc
        go false e h = leb-false x.timing.hold x.view.timer e
    left p x r h = absurd cc

-- a node that a turn of its clock leaves in R0 says nothing
pub beat-silent :
    (b : Option Bool) (x : NodeState) → IsValid x → is_resetting x.view.phase ≡ true →
    x.timing.hold ≤ 65535 → is_resetting (on_beat b x).state.view.phase ≡ true →
    (on_beat b x).sends ≡ []
beat-silent None x v r most h = refl
beat-silent (Some c) x v r most h = ((ticks-well (Some c) x v).holds r (hold-left c x r most h) most).3

-- a node in R0 that entered at most d turns ago
pub record Recent (w : CableWorld) : Type 0 where
  pub number : ℕ
  pub node : PortNode
  pub at : slice_get w.nodes number ≡ Some node
  pub resets : is_resetting node.state.view.phase ≡ true
  pub recent : node.state.view.timer ≤ w.delay

-- what a turn does to a node, as to R0
pub record InTurn (w : CableWorld) (x y : NodeState) : Type 0 where
  -- it stays there until its hold is over
  pub stays :
      is_resetting x.view.phase ≡ true → x.view.timer + 1 < 64 * w.delay →
      is_resetting y.view.phase ≡ true
  -- meanwhile the timer rises, unless its clock misses the turn
  pub rises :
      is_resetting x.view.phase ≡ true → is_resetting y.view.phase ≡ true →
      y.view.timer ≤ x.view.timer + 1
  -- it enters because another entered
  pub enters :
      is_resetting x.view.phase ≡ false → is_resetting y.view.phase ≡ true → y.view.timer ≤ 1
  pub cause : is_resetting x.view.phase ≡ false → is_resetting y.view.phase ≡ true → Recent w

-- a Reset that is under way to a node comes from one that entered R0 lately
sender :
    (w : CableWorld) → IsLawful w → (a b : End) (y : PortNode) → far w.cabling a ≡ Some b →
    slice_get w.nodes b.node ≡ Some y → has_reset (signals_of (wire_of w a).signals) ≡ true →
    Recent w
sender w l a b y e at r =
    let f = l.well_formed in
    let near : CableEnd w a = cable-end w a b f e in
    let c : Coupling w.delay near.node.state a.port (wire_of w a).signals y.state b.port (wire_of w b).signals = l.coupled.cables a b near.node y e near.node_at at in
    let in_start : is_resetting near.node.state.view.phase ≡ true = c.reset r in
    let young : near.node.state.view.timer - slack near.node.state.view.phase ≤ w.delay - 1
    = reset-age (w.delay - 1) (near.node.state.view.timer - slack near.node.state.view.phase) (wire_of w a).signals r (c.timed (start-timed near.node.state.view.phase in_start)) (f.ages a) in
    record {
      number = a.node;
      node = near.node;
      at = near.node_at;
      resets = in_start;
      recent = omega (arith, young, start-slack near.node.state.view.phase in_start, f.some_delay);
    }

-- a Reset that comes to a port of a node
pub comes-from :
    (w : CableWorld) → IsLawful w → (k : ℕ) (x : PortNode) → slice_get w.nodes k ≡ Some x →
    (p : ℕ) → is_connected x.state.view.ports p ≡ true →
    has_reset (sent_on p (inbox w 0 (ports_of w.cabling k))) ≡ true → Recent w
comes-from w l k x at p on r = go (far w.cabling here) refl
  where
    here : End
    here = record { node = k; port = p }

    under-way :
        (b : Bool) (ss : List Signal) → has_reset (if b then ss else []) ≡ true →
        has_reset ss ≡ true
    under-way true ss e = e
    under-way false ss e = absurd cc

    go : (o : Option End) → far w.cabling here ≡ o → Recent w
    go None e = absurd (not-both (is_connected x.state.view.ports p) on ((l.well_formed.nodes k x at).connected p ∙ ap is_some e))
    go (Some a) e =
        sender w l a here x (l.well_formed.cabling.both_ways here a e) at
        (under-way (gives w.delay (age_wire (wire_of w a))) (signals_of (wire_of w a).signals) (sym (ap has_reset (comes w a here e)) ∙ r))

module _ (w : CableWorld) (l : IsLawful w) (k : ℕ) (x : PortNode) (at : slice_get w.nodes k ≡ Some x) where
  abbrev signals : List (ℕ × Signal)
  signals = inbox w 0 (ports_of w.cabling k)

  abbrev heard : NodeState
  heard = (hear_all signals x.state).state

  abbrev ticked : NodeState
  ticked = (on_beat (beat x) heard).state

  heard-well : HearsWell signals x.state
  heard-well = hears w k x l.well_formed at

  ticked-well : TicksWell (beat x) heard
  ticked-well = ticks w k x l.well_formed at

  hold-least : 64 * w.delay ≤ heard.timing.hold
  hold-least = rw heard-well.timing (l.well_formed.nodes k x at).timing.hold_least

  hold-most : heard.timing.hold ≤ 65535
  hold-most = omega (arith, ap (λ (t : Timing). t.hold) heard-well.timing, (l.well_formed.nodes k x at).timing.hold_most, (l.well_formed.nodes k x at).timing.counted.hold)

  some_delay : 1 ≤ w.delay
  some_delay = l.well_formed.some_delay

  -- a node in R0 hears nothing that changes phase or timer
  heard-there : is_resetting x.state.view.phase ≡ true → NoEntry x.state (hear_all signals x.state)
  heard-there r = elim heard-well.cases [ inl h ↦ h | inr c ↦ absurd (not-both (is_resetting x.state.view.phase) r c.before) ]

  -- a node that enters heard a Reset
  came-there :
      is_resetting x.state.view.phase ≡ false → is_resetting ticked.view.phase ≡ true →
      EntersReset x.state (hear_all signals x.state)
  came-there out in_start = elim heard-well.cases [
    | inl h ↦ absurd (not-both (is_resetting ticked.view.phase) in_start (ticked-well.out (ap is_resetting h.phase ∙ out)))
    | inr c ↦ c
  ]

  ticked-turn : InTurn w x.state ticked
  ticked-turn = record {
    stays = λ r t.
        let h = heard-there r in
        (ticked-well.holds (ap is_resetting h.phase ∙ r) (omega (arith, h.timer, t, hold-least)) hold-most).0;
    rises = λ r s.
        let h = heard-there r in
        elim (ticked-well.timed (start-timed ticked.view.phase s)) [ inl a ↦ omega (arith, a.1, h.timer) | inr z ↦ omega (arith, z) ];
    enters = λ r s.
        let c = came-there r s in
        elim (ticked-well.timed (start-timed ticked.view.phase s)) [ inl a ↦ omega (arith, a.1, c.timer) | inr z ↦ omega (arith, z) ];
    cause = λ r s.
        let c = came-there r s in
        let port = hear-came signals x.state r (ap is_resetting c.phase) in
        comes-from w l k x at port.0 port.1 port.2;
  }

  turned : InTurn w x.state (turn_at w k x).node.state
  turned = subst (InTurn w x.state) (sym (turn-state signals x)) ticked-turn

-- a node before a turn and after it
pub in-turn :
    (w : CableWorld) → IsLawful w → (k : ℕ) (x y : PortNode) → slice_get w.nodes k ≡ Some x →
    slice_get (turn w).nodes k ≡ Some y → InTurn w x.state y.state
in-turn w l k x y at_x at_y =
    subst (λ (z : PortNode). InTurn w x.state z.state) (some-same (turn_at w k x).node y (sym (node-after w k x l.well_formed.count at_x) ∙ at_y)) (turned w l k x at_x)

-- a timer in R0 rises by one, unless the clock misses the turn
abbrev pub RisesOrMisses : PortNode → PortNode → Type 0
RisesOrMisses x y =
    ((misses x.clock ≡ true) × (y.state.view.timer ≡ x.state.view.timer))
    ⊎ ((y.state.view.timer ≡ x.state.view.timer + 1) × (y.state.view.timer < x.state.timing.hold))

pub beat-misses : (x : PortNode) → beat x ≡ None → misses x.clock ≡ true
beat-misses x e = go (misses x.clock) refl e
  where
    go : (b : Bool) → misses x.clock ≡ b → (if b then None else Some (coin x.coins)) ≡ None → b ≡ true
    go true f g = refl
    go false f g = absurd cc

beat-rises :
    (b : Option Bool) (x : NodeState) → IsValid x → is_resetting x.view.phase ≡ true →
    x.timing.hold ≤ 65535 → is_resetting (on_beat b x).state.view.phase ≡ true →
    ((b ≡ None) × ((on_beat b x).state.view.timer ≡ x.view.timer))
    ⊎ (((on_beat b x).state.view.timer ≡ x.view.timer + 1) × (x.view.timer + 1 < x.timing.hold))
beat-rises None x v r most h = inl (refl, refl)
beat-rises (Some c) x v r most h =
    let left = hold-left c x r most h in
    elim ((ticks-well (Some c) x v).rises r left most) [ inl none ↦ absurd cc | inr e ↦ inr (e, left) ]

pub in-turn-rises :
    (w : CableWorld) → (l : IsLawful w) → (k : ℕ) (x y : PortNode) →
    slice_get w.nodes k ≡ Some x → slice_get (turn w).nodes k ≡ Some y →
    is_resetting x.state.view.phase ≡ true → is_resetting y.state.view.phase ≡ true →
    RisesOrMisses x y × (y.clock ≡ clock_after x.clock)
in-turn-rises w l k x y at_x at_y was there = (go (beat-rises (beat x) (heard w l k x at_x) h.valid (ap is_resetting no.phase ∙ was) (hold-most w l k x at_x) now), ap (λ (z : PortNode). z.clock) (sym is))
  where
    h : HearsWell (signals w l k x at_x) x.state
    h = heard-well w l k x at_x

    no : NoEntry x.state (hear_all (signals w l k x at_x) x.state)
    no = heard-there w l k x at_x was

    is : (turn_at w k x).node ≡ y
    is = some-same (turn_at w k x).node y (sym (node-after w k x l.well_formed.count at_x) ∙ at_y)

    -- the state after the turn
    state-is : y.state ≡ ticked w l k x at_x
    state-is = ap (λ (z : PortNode). z.state) (sym is) ∙ turn-state (signals w l k x at_x) x

    now : is_resetting (ticked w l k x at_x).view.phase ≡ true
    now = ap (λ (s : NodeState). is_resetting s.view.phase) (sym state-is) ∙ there

    go :
        ((beat x ≡ None) × ((ticked w l k x at_x).view.timer ≡ (heard w l k x at_x).view.timer))
        ⊎ (((ticked w l k x at_x).view.timer ≡ (heard w l k x at_x).view.timer + 1) × ((heard w l k x at_x).view.timer + 1 < (heard w l k x at_x).timing.hold)) →
        RisesOrMisses x y
    go (inl a) = inl (beat-misses x a.0, ap (λ (s : NodeState). s.view.timer) state-is ∙ a.1 ∙ no.timer)
    go (inr a) = inr (omega (arith, ap (λ (s : NodeState). s.view.timer) state-is, a.0, no.timer), omega (arith, ap (λ (s : NodeState). s.view.timer) state-is, a.0, a.1, no.timer, ap (λ (t : Timing). t.hold) h.timing))

-- ---- since when

-- Where clocks miss turns a timer doesn't tell how long a node has been in R0. So let each node have
-- a number of turns: the timer is no later, and what is under way from there has been for as long.
pub record Dates (w : CableWorld) (since : ℕ → ℕ) : Type 0 where
  pub timer :
      (k : ℕ) (x : PortNode) → slice_get w.nodes k ≡ Some x →
      is_resetting x.state.view.phase ≡ true → x.state.view.timer ≤ since k
  pub old :
      (a b : End) (x : PortNode) → far w.cabling a ≡ Some b → slice_get w.nodes a.node ≡ Some x →
      is_resetting x.state.view.phase ≡ true → AllAsOldAs (since a.node - 1) (wire_of w a).signals

-- the numbers a turn later
abbrev turn_on : Option PortNode → ℕ → ℕ
turn_on None s = s
turn_on (Some x) s = if is_resetting x.state.view.phase then s + 1 else 1

abbrev pub since_then : CableWorld → (ℕ → ℕ) → ℕ → ℕ
since_then w since k = turn_on (slice_get w.nodes k) (since k)

-- in R0 at most d turns
pub record Caused (w : CableWorld) (since : ℕ → ℕ) : Type 0 where
  pub number : ℕ
  pub node : PortNode
  pub at : slice_get w.nodes number ≡ Some node
  pub resets : is_resetting node.state.view.phase ≡ true
  pub recent : since number ≤ w.delay

module _ (w : CableWorld) (l : IsLawful w) (since : ℕ → ℕ) (dates : Dates w since) where
  stays-on :
      (k : ℕ) (x : PortNode) → slice_get w.nodes k ≡ Some x →
      is_resetting x.state.view.phase ≡ true → since_then w since k ≡ since k + 1
  stays-on k x at r = rw (at, r) refl

  begins-at :
      (k : ℕ) (x : PortNode) → slice_get w.nodes k ≡ Some x →
      is_resetting x.state.view.phase ≡ false → since_then w since k ≡ 1
  begins-at k x at r = rw (at, r) refl

  sender-since :
      (a b : End) → far w.cabling a ≡ Some b →
      has_reset (signals_of (wire_of w a).signals) ≡ true → Caused w since
  sender-since a b e r =
      let f = l.well_formed in
      let near : CableEnd w a = cable-end w a b f e in
      let end : CableEnd w b = cable-end w b a f (f.cabling.both_ways a b e) in
      let c : Coupling w.delay near.node.state a.port (wire_of w a).signals end.node.state b.port (wire_of w b).signals = l.coupled.cables a b near.node end.node e near.node_at end.node_at in
      let in_start : is_resetting near.node.state.view.phase ≡ true = c.reset r in
      let young : since a.node - 1 ≤ w.delay - 1
      = reset-age (w.delay - 1) (since a.node - 1) (wire_of w a).signals r (dates.old a b near.node e near.node_at in_start) (f.ages a) in
      record {
        number = a.node;
        node = near.node;
        at = near.node_at;
        resets = in_start;
        recent = omega (arith, young, f.some_delay);
      }

  comes-since :
      (k : ℕ) (x : PortNode) → slice_get w.nodes k ≡ Some x → (p : ℕ) →
      is_connected x.state.view.ports p ≡ true →
      has_reset (sent_on p (inbox w 0 (ports_of w.cabling k))) ≡ true → Caused w since
  comes-since k x at p on r = go (far w.cabling here) refl
    where
      here : End
      here = record { node = k; port = p }

      under-way :
          (b : Bool) (ss : List Signal) → has_reset (if b then ss else []) ≡ true →
          has_reset ss ≡ true
      under-way true ss e = e
      under-way false ss e = absurd cc

      go : (o : Option End) → far w.cabling here ≡ o → Caused w since
      go None e = absurd (not-both (is_connected x.state.view.ports p) on ((l.well_formed.nodes k x at).connected p ∙ ap is_some e))
      go (Some a) e =
          sender-since a here (l.well_formed.cabling.both_ways here a e)
          (under-way (gives w.delay (age_wire (wire_of w a))) (signals_of (wire_of w a).signals) (sym (ap has_reset (comes w a here e)) ∙ r))

  -- a node enters because another did, at most d turns ago
  pub cause-since :
      (k : ℕ) (x y : PortNode) → slice_get w.nodes k ≡ Some x → slice_get (turn w).nodes k ≡ Some y →
      is_resetting x.state.view.phase ≡ false → is_resetting y.state.view.phase ≡ true →
      Caused w since
  cause-since k x y at_x at_y out there =
      let is : (turn_at w k x).node ≡ y = some-same (turn_at w k x).node y (sym (node-after w k x l.well_formed.count at_x) ∙ at_y) in
      let now : is_resetting (ticked w l k x at_x).view.phase ≡ true = ap is_resetting (ap (λ (z : NodeState). z.view.phase) (sym (turn-state (signals w l k x at_x) x)) ∙ ap (λ (z : PortNode). z.state.view.phase) is) ∙ there in
      let c = came-there w l k x at_x out now in
      let port = hear-came (signals w l k x at_x) x.state out (ap is_resetting c.phase) in
      comes-since k x at_x port.0 port.1 port.2

  -- a node that stays in R0 says nothing
  wire-since :
      (a b : End) (x : PortNode) → far w.cabling a ≡ Some b → (at : slice_get w.nodes a.node ≡ Some x) →
      is_resetting x.state.view.phase ≡ true →
      is_resetting (ticked w l a.node x at).view.phase ≡ true →
      AllAsOldAs (since a.node + 1 - 1) (wire_of (turn w) a).signals
  wire-since a b x e at was there =
      let h = heard-there w l a.node x at was in
      let none : (hearing (side w a x)).sends ≡ [] = h.sends (timed-relays_none x.state.view.phase (start-timed x.state.view.phase was)) in
      let silent : (ticking (side w a x)).sends ≡ [] = beat-silent (beat x) (heard w l a.node x at) (heard-well w l a.node x at).valid (ap is_resetting h.phase ∙ was) (hold-most w l a.node x at) there in
      let kept : AllAsOldAs (since a.node - 1 + 1) (leftovers (side w a x)) = kept_since (side w a x) (since a.node - 1) (dates.old a b x e at was) in
      subst (λ ts. AllAsOldAs (since a.node + 1 - 1) ts) (sym (side-wire w a b x l.well_formed e at ∙ same_wire (side w a x) none silent))
      (AllAsOldAs-less (since a.node + 1 - 1) (since a.node - 1 + 1) (leftovers (side w a x)) (omega arith) kept)

  -- the numbers after a turn
  pub turn-dates : Dates (turn w) (since_then w since)
  turn-dates = record { timer = timer; old = old }
    where
      timer :
          (k : ℕ) (y : PortNode) → slice_get (turn w).nodes k ≡ Some y →
          is_resetting y.state.view.phase ≡ true → y.state.view.timer ≤ since_then w since k
      timer k y at_y there =
          let x = before w k y l.well_formed at_y in
          go x.0 x.1 (is_resetting x.0.state.view.phase) refl
        where
          go :
              (x : PortNode) → slice_get w.nodes k ≡ Some x → (b : Bool) →
              is_resetting x.state.view.phase ≡ b → y.state.view.timer ≤ since_then w since k
          go x at_x true e = omega (arith, (in-turn w l k x y at_x at_y).rises e there, dates.timer k x at_x e, stays-on k x at_x e)
          go x at_x false e = omega (arith, (in-turn w l k x y at_x at_y).enters e there, begins-at k x at_x e)

      old :
          (a b : End) (y : PortNode) → far (turn w).cabling a ≡ Some b →
          slice_get (turn w).nodes a.node ≡ Some y → is_resetting y.state.view.phase ≡ true →
          AllAsOldAs (since_then w since a.node - 1) (wire_of (turn w) a).signals
      old a b y e at_y there =
          let was : far w.cabling a ≡ Some b = sym (ap (λ (d : Wiring). far d a) (cabling-after w)) ∙ e in
          let x = before w a.node y l.well_formed at_y in
          go was x.0 x.1 x.2 (is_resetting x.0.state.view.phase) refl
        where
          go :
              far w.cabling a ≡ Some b → (x : PortNode) → slice_get w.nodes a.node ≡ Some x →
              y ≡ (turn_at w a.node x).node → (c : Bool) → is_resetting x.state.view.phase ≡ c →
              AllAsOldAs (since_then w since a.node - 1) (wire_of (turn w) a).signals
          go was x at_x is true r =
              let now : is_resetting (ticked w l a.node x at_x).view.phase ≡ true = ap is_resetting (ap (λ (z : NodeState). z.view.phase) (sym (turn-state (signals w l a.node x at_x) x)) ∙ ap (λ (z : PortNode). z.state.view.phase) (sym is)) ∙ there in
              rw (stays-on a.node x at_x r) (wire-since a b x was at_x r now)
          go was x at_x is false r = rw (begins-at a.node x at_x r) (AllAsOldAs-zero (wire_of (turn w) a).signals)

-- holds change none of it
holds-dates :
    (holds : List PlacedHold) (w : CableWorld) (since : ℕ → ℕ) → IsLawful w → Dates w since →
    Dates (with_holds holds w) since
holds-dates holds w since l dates = record {
  timer = dates.timer;
  old = λ a b x e at r. subst (λ ts. AllAsOldAs (since a.node - 1) ts) (sym (holds-signals holds w a l)) (dates.old a b x e at r);
}

-- at first the timers tell
abbrev timer_at : Option PortNode → ℕ
timer_at None = 0
timer_at (Some x) = x.state.view.timer

abbrev first_since : CableWorld → ℕ → ℕ
first_since w k = timer_at (slice_get w.nodes k)

first-dates : (w : CableWorld) → IsLawful w → Dates w (first_since w)
first-dates w l = record {
  timer = λ k x at r. rw at (le_refl x.state.view.timer);
  old = λ a b x e at r.
      let end : CableEnd w b = cable-end w b a l.well_formed (l.well_formed.cabling.both_ways a b e) in
      let c : Coupling w.delay x.state a.port (wire_of w a).signals end.node.state b.port (wire_of w b).signals = l.coupled.cables a b x end.node e at end.node_at in
      rw at (subst (λ n. AllAsOldAs (x.state.view.timer - n) (wire_of w a).signals) (start-slack x.state.view.phase r) (c.timed (start-timed x.state.view.phase r)));
}

-- ---- nodes with these numbers for timers

abbrev pub at_age : ℕ → PortNode → PortNode
at_age s x = record x { state = record x.state { view = record x.state.view { timer = s } } }

abbrev pub aged : (ℕ → ℕ) → List PortNode → List PortNode
aged since [] = []
aged since (x ∷ xs) = at_age (since 0) x ∷ aged (λ i. since (suc i)) xs

aged-at :
    (since : ℕ → ℕ) (xs : List PortNode) (j : ℕ) (x : PortNode) → slice_get xs j ≡ Some x →
    slice_get (aged since xs) j ≡ Some (at_age (since j) x)
aged-at since [] j x h = absurd cc
aged-at since (y ∷ xs) zero x h = ap (λ (z : PortNode). Some (at_age (since 0) z)) (some-same y x h)
aged-at since (y ∷ xs) (suc j) x h = aged-at (λ i. since (suc i)) xs j x h

aged-from :
    (since : ℕ → ℕ) (xs : List PortNode) (j : ℕ) (u : PortNode) →
    slice_get (aged since xs) j ≡ Some u →
    (x : PortNode) × (slice_get xs j ≡ Some x) × (u ≡ at_age (since j) x)
aged-from since [] j u h = absurd cc
aged-from since (y ∷ xs) zero u h = (y, refl, sym (some-same (at_age (since 0) y) u h))
aged-from since (y ∷ xs) (suc j) u h = aged-from (λ i. since (suc i)) xs j u h

aged-length : (since : ℕ → ℕ) (xs : List PortNode) → length (aged since xs) ≡ length xs
aged-length since [] = refl
aged-length since (x ∷ xs) = ap suc (aged-length (λ i. since (suc i)) xs)

-- ---- chains

-- in R0, with a timer in this range
abbrev is_entry : ℕ → ℕ → PortNode → Bool
is_entry least most x = is_resetting x.state.view.phase && (nat_le least x.state.view.timer && nat_le x.state.view.timer most)

abbrev entries : ℕ → ℕ → (ℕ → ℕ) → CableWorld → ℕ
entries least most since w = count_by (is_entry least most) (aged since w.nodes)

-- After k turns each node in R0 is at the end of a chain of entries: one came at least every d
-- turns, since the first of these turns.
abbrev Chained : CableWorld → (ℕ → ℕ) → ℕ → Type 0
Chained w since k = (j : ℕ) (x : PortNode) → slice_get w.nodes j ≡ Some x → is_resetting x.state.view.phase ≡ true → k + 1 ≤ since j + w.delay * entries (since j) k since w

-- no node enters R0 in the next turn
abbrev Steady : CableWorld → Type 0
Steady w = (j : ℕ) (x y : PortNode) → slice_get w.nodes j ≡ Some x → slice_get (turn w).nodes j ≡ Some y → is_resetting x.state.view.phase ≡ false → is_resetting y.state.view.phase ≡ false

entry-of :
    (least most : ℕ) (x : PortNode) → is_resetting x.state.view.phase ≡ true →
    least ≤ x.state.view.timer → x.state.view.timer ≤ most → is_entry least most x ≡ true
entry-of least most x r low high = go (is_resetting x.state.view.phase) x.state.view.timer r low high
  where
    go :
        (b : Bool) (t : ℕ) → b ≡ true → least ≤ t → t ≤ most →
        (b && (nat_le least t && nat_le t most)) ≡ true
    go b t r low high = grind (arith, nat_tests)

entry-parts :
    (least most : ℕ) (x : PortNode) → is_entry least most x ≡ true →
    (is_resetting x.state.view.phase ≡ true) × (least ≤ x.state.view.timer)
    × (x.state.view.timer ≤ most)
entry-parts least most x e = go (is_resetting x.state.view.phase) x.state.view.timer e
  where
    go :
        (b : Bool) (t : ℕ) → (b && (nat_le least t && nat_le t most)) ≡ true →
        (b ≡ true) × (least ≤ t) × (t ≤ most)
    go b t e = grind (arith, nat_tests)

-- a node elsewhere is no entry
elsewhere :
    (least most : ℕ) (x : PortNode) → is_resetting x.state.view.phase ≡ false →
    is_entry least most x ≡ false
elsewhere least most x out = rw out refl

module _ (w : CableWorld) (l : IsLawful w) (since : ℕ → ℕ) (dates : Dates w since) where
  abbrev later_on : ℕ → ℕ
  later_on = since_then w since

  same-length : length (aged since w.nodes) ≡ length (aged later_on (turn w).nodes)
  same-length = aged-length since w.nodes ∙ sym (nodes-after w l.well_formed.count) ∙ sym (aged-length later_on (turn w).nodes)

  -- an entry stays one
  entry-stays :
      (least from most : ℕ) → from ≤ least + 1 → most + 1 < 64 * w.delay →
      (j : ℕ) (u v : PortNode) → slice_get (aged since w.nodes) j ≡ Some u →
      slice_get (aged later_on (turn w).nodes) j ≡ Some v → is_entry least most u ≡ true →
      is_entry from (most + 1) v ≡ true
  entry-stays least from most low high j u v at_u at_v e =
      let x = aged-from since w.nodes j u at_u in
      let y = aged-from later_on (turn w).nodes j v at_v in
      let t = in-turn w l j x.0 y.0 x.1 y.1 in
      let parts : (is_resetting x.0.state.view.phase ≡ true) × (least ≤ since j) × (since j ≤ most) = entry-parts least most (at_age (since j) x.0) (ap (is_entry least most) (sym x.2) ∙ e) in
      let there : is_resetting y.0.state.view.phase ≡ true = t.stays parts.0 (omega (arith, dates.timer j x.0 x.1 parts.0, parts.2, high)) in
      let more : later_on j ≡ since j + 1 = stays-on w l since dates j x.0 x.1 parts.0 in
      ap (is_entry from (most + 1)) y.2 ∙ entry-of from (most + 1) (at_age (later_on j) y.0) there (omega (arith, more, parts.1, low)) (omega (arith, more, parts.2))

  -- a chain grows by the node that enters
  chain-enters :
      (k : ℕ) → k + 1 < 64 * w.delay → Chained w since k → (j : ℕ) (x y : PortNode) →
      slice_get w.nodes j ≡ Some x → slice_get (turn w).nodes j ≡ Some y →
      is_resetting x.state.view.phase ≡ false → is_resetting y.state.view.phase ≡ true →
      k + 1 + 1 ≤ later_on j + w.delay * entries (later_on j) (k + 1) later_on (turn w)
  chain-enters k high c j x y at_x at_y out there =
      let one : later_on j ≡ 1 = begins-at w l since dates j x at_x out in
      let u = cause-since w l since dates j x y at_x at_y out there in
      let s : ℕ = since u.number in
      let more : entries s k since w + 1 ≤ entries (later_on j) (k + 1) later_on (turn w)
      = count-less (is_entry s k) (is_entry (later_on j) (k + 1)) (aged since w.nodes) (aged later_on (turn w).nodes) j (at_age (since j) x) (at_age (later_on j) y) same-length
      (entry-stays s (later_on j) k (omega (arith, one)) high) (aged-at since w.nodes j x at_x) (aged-at later_on (turn w).nodes j y at_y) (elsewhere s k (at_age (since j) x) out)
      (entry-of (later_on j) (k + 1) (at_age (later_on j) y) there (le_refl (later_on j)) (omega (arith, one))) in
      omega (arith, one, u.recent, c u.number u.node u.at u.resets, mul-le-mul_left w.delay more)

  -- and keeps its length otherwise
  chain-stays :
      (k : ℕ) → k + 1 < 64 * w.delay → Chained w since k → (j : ℕ) (x : PortNode) →
      slice_get w.nodes j ≡ Some x → is_resetting x.state.view.phase ≡ true →
      k + 1 + 1 ≤ later_on j + w.delay * entries (later_on j) (k + 1) later_on (turn w)
  chain-stays k high c j x at_x was =
      let rose : later_on j ≡ since j + 1 = stays-on w l since dates j x at_x was in
      let s : ℕ = since j in
      let same : entries s k since w ≤ entries (later_on j) (k + 1) later_on (turn w)
      = count-le (is_entry s k) (is_entry (later_on j) (k + 1)) (aged since w.nodes) (aged later_on (turn w).nodes) same-length (entry-stays s (later_on j) k (omega (arith, rose)) high) in
      omega (arith, rose, c j x at_x was, mul-le-mul_left w.delay same)

  turn-chained : (k : ℕ) → k + 1 < 64 * w.delay → Chained w since k → Chained (turn w) later_on (k + 1)
  turn-chained k high c j y at_y there =
      let x = before w j y l.well_formed at_y in
      subst (λ d. k + 1 + 1 ≤ later_on j + d * entries (later_on j) (k + 1) later_on (turn w)) (sym (delay-after w))
      (go x.0 x.1 (is_resetting x.0.state.view.phase) refl)
    where
      go :
          (x : PortNode) → slice_get w.nodes j ≡ Some x → (b : Bool) →
          is_resetting x.state.view.phase ≡ b →
          k + 1 + 1 ≤ later_on j + w.delay * entries (later_on j) (k + 1) later_on (turn w)
      go x at_x true e = chain-stays k high c j x at_x e
      go x at_x false e = chain-enters k high c j x y at_x at_y e there

  -- a chain is no longer than there are nodes, and a node outside R0 isn't in it
  chained-steady : (k : ℕ) → length w.nodes * w.delay ≤ k → Chained w since k → Steady w
  chained-steady k late c j x y at_x at_y out = go (is_resetting y.state.view.phase) refl
    where
      go : (b : Bool) → is_resetting y.state.view.phase ≡ b → b ≡ false
      go false e = refl
      go true e =
          let u = cause-since w l since dates j x y at_x at_y out e in
          let s : ℕ = since u.number in
          let has = aged-at since w.nodes j x at_x in
          let fewer : entries s k since w + 1 ≤ count_by (λ (z : PortNode). true) (aged since w.nodes)
          = count-less (is_entry s k) (λ z. true) (aged since w.nodes) (aged since w.nodes) j (at_age (since j) x) (at_age (since j) x) refl (λ i v z at_v at_z e. refl) has has (elsewhere s k (at_age (since j) x) out) refl in
          let most : entries s k since w + 1 ≤ length w.nodes = omega (arith, fewer, count_by-le-length (λ (z : PortNode). true) (aged since w.nodes), aged-length since w.nodes) in
          absurd (omega (arith, u.recent, c u.number u.node u.at u.resets, mul-le-mul_left w.delay most, late))

-- ---- timers

-- each node in R0 has been there for so long
abbrev Old : ℕ → CableWorld → (ℕ → ℕ) → Type 0
Old least w since = (j : ℕ) (x : PortNode) → slice_get w.nodes j ≡ Some x → is_resetting x.state.view.phase ≡ true → least ≤ since j

module _ (w : CableWorld) (l : IsLawful w) (since : ℕ → ℕ) (dates : Dates w since) where
  turn-old : (least : ℕ) → (1 ≤ least → Steady w) → Old least w since → Old (least + 1) (turn w) (since_then w since)
  turn-old least steady old j y at_y there =
      let x = before w j y l.well_formed at_y in
      go x.0 x.1 (is_resetting x.0.state.view.phase) refl
    where
      go :
          (x : PortNode) → slice_get w.nodes j ≡ Some x → (b : Bool) →
          is_resetting x.state.view.phase ≡ b → least + 1 ≤ since_then w since j
      go x at_x true e = omega (arith, stays-on w l since dates j x at_x e, old j x at_x e)
      go x at_x false e = first least refl
        where
          first : (n : ℕ) → least ≡ n → least + 1 ≤ since_then w since j
          first zero z = omega (arith, z, begins-at w l since dates j x at_x e)
          first (suc n) z = absurd (not-both (is_resetting y.state.view.phase) there (steady (omega (arith, z)) j x y at_x at_y e))

  -- a node enters because of one that hasn't been in R0 for long
  old-steady : (least : ℕ) → w.delay < least → Old least w since → Steady w
  old-steady least late old j x y at_x at_y out = go (is_resetting y.state.view.phase) refl
    where
      go : (b : Bool) → is_resetting y.state.view.phase ≡ b → b ≡ false
      go false e = refl
      go true e =
          let u = cause-since w l since dates j x y at_x at_y out e in
          absurd (omega (arith, u.recent, late, old u.number u.node u.at u.resets))

-- ---- quiet turns

module _ (hs : HoldSchedule) (w : CableWorld) (l : IsLawful w) where
  abbrev later : ℕ → CableWorld
  later k = quiet_after hs k w

  pub after-delay : (k : ℕ) → (later k).delay ≡ w.delay
  after-delay zero = ap (λ (v : CableWorld). v.delay) (no-quiet hs w)
  after-delay (suc k) = rw (← add-one, one-quiet hs k w) (delay-after (later k) ∙ after-delay k)

  pub after-longest : (k : ℕ) → (later k).longest ≡ w.longest
  after-longest zero = ap (λ (v : CableWorld). v.longest) (no-quiet hs w)
  after-longest (suc k) = rw (← add-one, one-quiet hs k w) (longest-after (later k) ∙ after-longest k)

  pub after-length : (k : ℕ) → length (later k).nodes ≡ length w.nodes
  after-length zero = ap (λ (v : CableWorld). length v.nodes) (no-quiet hs w)
  after-length (suc k) = rw (← add-one, one-quiet hs k w) (nodes-after (later k) (quiet-lawful hs k w l).well_formed.count ∙ after-length k)

  -- since when each node in R0 has been there
  abbrev dates : ℕ → ℕ → ℕ
  dates zero = first_since (later 0)
  dates (suc k) = since_then (later k) (dates k)

  all-dates : (k : ℕ) → Dates (later k) (dates k)
  all-dates zero = first-dates (later 0) (quiet-lawful hs 0 w l)
  all-dates (suc k) =
      subst (λ n. Dates (later n) (dates (suc k))) (add-one k)
      (subst (λ v. Dates v (dates (suc k))) (sym (one-quiet hs k w))
      (holds-dates (hs (k + 1)) (turn (later k)) (dates (suc k)) (turn-lawful (later k) (quiet-lawful hs k w l)) (turn-dates (later k) (quiet-lawful hs k w l) (dates k) (all-dates k))))

  -- a node in R0 at the start is an entry itself
  start-chained : Chained (later 0) (dates 0) 0
  start-chained j x at r =
      let v : CableWorld = later 0 in
      let t : ℕ = dates 0 j in
      let has = aged-at (dates 0) v.nodes j x at in
      cases t (λ z. count-less (λ y. false) (is_entry t 0) (aged (dates 0) v.nodes) (aged (dates 0) v.nodes) j (at_age t x) (at_age t x) refl (λ i y u at_y at_u e. absurd cc) has has refl (entry-of t 0 (at_age t x) r (le_refl t) (omega (arith, z))))
    where
      cases :
          (t : ℕ) → (t ≡ 0 → count_by (λ (y : PortNode). false) (aged (dates 0) (later 0).nodes) + 1 ≤ entries t 0 (dates 0) (later 0)) →
          0 + 1 ≤ t + (later 0).delay * entries t 0 (dates 0) (later 0)
      cases zero h = omega (arith, mul-le-mul_left (later 0).delay (h refl), (quiet-lawful hs 0 w l).well_formed.some_delay)
      cases (suc t) h = omega arith

  after-chained : (k : ℕ) → k < 64 * w.delay → Chained (later k) (dates k) k
  after-chained zero high = start-chained
  after-chained (suc k) high =
      let chained : Chained (turn (later k)) (dates (suc k)) (k + 1) = turn-chained (later k) (quiet-lawful hs k w l) (dates k) (all-dates k) k (omega (arith, ap (λ d. 64 * d) (after-delay k), high)) (after-chained k (omega (arith, high))) in
      subst (λ n. Chained (later n) (dates (suc k)) n) (add-one k) (subst (λ v. Chained v (dates (suc k)) (k + 1)) (sym (one-quiet hs k w)) chained)

  few : length w.nodes ≤ 63
  few = omega (arith, l.well_formed.count, l.well_formed.cabling.few_nodes)

  abbrev enough : ℕ
  enough = length w.nodes * w.delay

  early-steady : (k : ℕ) → enough ≤ k → k < enough + w.delay → Steady (later k)
  early-steady k late soon =
      chained-steady (later k) (quiet-lawful hs k w l) (dates k) (all-dates k) k (rw (after-length k, after-delay k) late) (after-chained k (room (length w.nodes) w.delay few soon))
    where
      room : (n d : ℕ) → n ≤ 63 → k < n * d + d → k < 64 * d
      room n d f h = let m : (n + 1) * d ≤ 64 * d = grind arith in omega (arith, m, h)

  next-old :
      (k least : ℕ) → (1 ≤ least → Steady (later k)) → Old least (later k) (dates k) →
      Old (least + 1) (later (suc k)) (dates (suc k))
  next-old k least calm old =
      subst (λ n. Old (least + 1) (later n) (dates (suc k))) (add-one k)
      (subst (λ v. Old (least + 1) v (dates (suc k))) (sym (one-quiet hs k w)) (turn-old (later k) (quiet-lawful hs k w l) (dates k) (all-dates k) least calm old))

  -- whoever is in R0 after a turn has been there for one
  first-old : (k : ℕ) → 1 ≤ k → Old 1 (later k) (dates k)
  first-old zero h = absurd (omega (arith, h))
  first-old (suc k) h = next-old k 0 (λ o. absurd (omega (arith, o))) (λ j x at r. omega arith)

  -- from then on timers rise, until no node in R0 is young
  abbrev Aged : ℕ → Type 0
  Aged i = (least : ℕ) → least ≤ i + 1 → least ≤ w.delay + 1 → Old least (later (enough + i)) (dates (enough + i))

  aged-steady : (i : ℕ) → Aged i → Steady (later (enough + i))
  aged-steady i old = elim (cases_lt i w.delay) [
    | inl soon ↦ early-steady (enough + i) (omega arith) (omega (arith, soon))
    | inr past ↦ old-steady (later (enough + i)) (quiet-lawful hs (enough + i) w l) (dates (enough + i)) (all-dates (enough + i)) (w.delay + 1) (omega (arith, after-delay (enough + i))) (old (w.delay + 1) (omega (arith, past)) (le_refl (w.delay + 1)))
  ]

  all-aged : 1 ≤ enough → (i : ℕ) → Aged i
  all-aged some i zero low high = λ j x at r. omega arith
  all-aged some zero (suc m) low high =
      let z : enough + 0 ≡ enough = omega arith in
      let one : suc m ≡ 1 = omega (arith, low) in
      rw (z, one) (first-old enough some)
  all-aged some (suc i) (suc m) low high =
      let was : Aged i = all-aged some i in
      let z : suc (enough + i) ≡ enough + suc i = omega arith in
      subst (λ n. Old (suc m) (later n) (dates n)) z
      (subst (λ n. Old n (later (suc (enough + i))) (dates (suc (enough + i)))) (add-one m)
      (next-old (enough + i) m (λ o. aged-steady i was) (was m (omega (arith, low)) (omega (arith, high)))))

  late-steady : (k : ℕ) → 1 ≤ length w.nodes → enough ≤ k → Steady (later k)
  late-steady k some late =
      let i : ℕ = k - enough in
      let z : enough + i ≡ k = omega (arith, late) in
      subst (λ n. Steady (later n)) z (aged-steady i (all-aged (product (length w.nodes) w.delay some l.well_formed.some_delay) i))
    where
      product : (n d : ℕ) → 1 ≤ n → 1 ≤ d → 1 ≤ n * d
      product n d o p = omega (arith, mul-le-mul_left n p, o)

-- no quiet turn after the first n * d makes a node enter R0
pub steady :
    (hs : HoldSchedule) (w : CableWorld) → IsLawful w → (k : ℕ) → length w.nodes * w.delay ≤ k →
    (j : ℕ) (x y : PortNode) → slice_get (quiet_after hs k w).nodes j ≡ Some x →
    slice_get (quiet_after hs (k + 1) w).nodes j ≡ Some y → is_resetting x.state.view.phase ≡ false →
    is_resetting y.state.view.phase ≡ false
steady hs w l k late j x y at_x at_y out =
    late-steady hs w l k (omega (arith, slice_get_within (quiet_after hs k w).nodes j x at_x, after-length hs w l k)) late j x y at_x (rw (one-quiet hs k w) at at_y) out
