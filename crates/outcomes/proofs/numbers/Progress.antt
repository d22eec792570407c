-- A component that identifies itself goes on: a Grant or Done arrives within d turns, and whoever
-- has the turn
-- asks a child or identifies itself in the next.
use Rattle.std.proofs.Common.{◌≡◌, ◌⊎◌, inl, inr, ℕ, ◌+◌, ◌<◌, ◌≤◌, Bool, true, false, not, ◌&&◌, ◌==◌, List, [], ◌∷◌, ◌++◌, map, Option, Some, None, slice_get, refl, sym, ◌∙◌, ap, subst, arith, true≢false, if◌then◌else◌}
use Rattle.std.proofs.lemmas.Bool.{or_cases, eq-eqb, false_from_ne_true}
use Rattle.outcomes.proofs.Common.{contrary, Tree, End, far, ports_of, Holds, Phase, Signal, PortView, NodeState, coin, is_unnamed, lowest, port_is, passes, change_port, may_name, granted_row, shown_node, mark, emit, with_port, silent_step, hears_packets, hears, is_heard, on_signal, PortNode, Row, raise_timer, row_of, does, next_row, tick, port_is-changed, Travelling, new_signal, age_signal, age_wire, gives, CableWorld, wire_of, inbox, turn_at, turn, hear_all, signals_of, IsLawful, node-after, side, side-wire, hear-stays, some-same, departures, turn-state, no-packets, joined-of, is_ready, is_asked, is_named, silent, IsIdentifying, IsSettling, IsAcyclic}
use Rattle.port_state.specs.declared.signal.Level.TheVariants as level
use Rattle.port_state.specs.declared.signal.Phase.TheVariants as phase
use Rattle.port_state.specs.declared.signal.Signal.TheVariants as signal
use Rattle.port_state.specs.Row as row
use Rattle.cable_world.specs.Lawful.{AgesFall}
use Rattle.port_state.specs.Clock.{misses}
use Rattle.cable_world.proofs.Lemmas.{signals-sent, beat-misses}
use Rattle.outcomes.proofs.identify.Hearing.{signal-stays, reset-heard}
use Rattle.outcomes.proofs.identify.Messages.{IsKind, has-first, has-rest}
use Rattle.outcomes.proofs.identify.LateRows.{LateRow, rests, asks_next, names_now, late-row}
use Rattle.outcomes.proofs.numbers.NumberedTurn.{still-there, now-silent, heard-so, heard-goes}
use Rattle.outcomes.proofs.identify.Ports.{changed-here, changed-other, lowest-is, is-unnamed}
use Rattle.outcomes.proofs.identify.MarksKept.{hears-late, all-named}
use Rattle.outcomes.proofs.numbers.AtRest.{room-for}
use Rattle.outcomes.proofs.numbers.Turning.{Heard-so}
use Rattle.port_state.specs.Machine.{beat, on_beat}

-- ---- what a node that hears and ticks keeps

pub record Rises (x y : NodeState) : Type 0 where
  pub asked : (q : ℕ) → is_asked x q ≡ true → is_asked y q ≡ true
  pub named : (q : ℕ) → is_named x q ≡ true → is_named y q ≡ true
  pub granted : x.view.granted ≡ true → y.view.granted ≡ true

rises-more : (x y z : NodeState) → Rises x y → Rises y z → Rises x z
rises-more x y z r s = record {
  asked = λ q e. s.asked q (r.asked q e);
  named = λ q e. s.named q (r.named q e);
  granted = λ e. s.granted (r.granted e);
}

same-rises : (x : NodeState) → Rises x x
same-rises x = record { asked = λ q e. e; named = λ q e. e; granted = λ e. e }

stays-marked :
    (t : PortView → Bool) (f : PortView → PortView) → ((p : PortView) → t (f p) ≡ true) → (k q : ℕ)
    (ports : List PortView) → port_is t ports q ≡ true → port_is t (change_port k f ports) q ≡ true
stays-marked t f all k q ports e = go (q == k) refl
  where
    go : (b : Bool) → (q == k) ≡ b → port_is t (change_port k f ports) q ≡ true
    go true s = changed-here t t k q f ports all s e
    go false s = changed-other t k q f ports s ∙ e

port-rises :
    (k : ℕ) (f : PortView → PortView) (x : NodeState) → ((p : PortView) → (f p).asked ≡ p.asked) →
    ((p : PortView) → (f p).named ≡ p.named) → Rises x (with_port k f x)
port-rises k f x a n = record {
  asked = λ q e. port_is-changed (λ p. p.asked) k f a x.view.ports q ∙ e;
  named = λ q e. port_is-changed (λ p. p.named) k f n x.view.ports q ∙ e;
  granted = λ e. e;
}

signal-rises :
    (k : ℕ) (s : Signal) (x : NodeState) → hears_packets x.view.phase ≡ true →
    hears_packets (on_signal k s x).state.view.phase ≡ true → Rises x (on_signal k s x).state
unfolding on_signal
signal-rises k s x h on = go (is_heard k s x) on
  where
    heard-so-far :
        (s : Signal) → hears_packets (hears k s x).state.view.phase ≡ true →
        Rises x (hears k s x).state
    heard-so-far signal.Reset on = absurd (reset-heard k x h on)
    heard-so-far signal.Idle on =
        port-rises k (λ q. record q { shown = level.Idle }) x (λ p. refl) (λ p. refl)
    heard-so-far signal.Parent on =
        port-rises k (λ q. record q { shown = level.Parent }) x (λ p. refl) (λ p. refl)
    heard-so-far signal.Child on =
        port-rises k (λ q. record q { shown = level.Child }) x (λ p. refl) (λ p. refl)
    heard-so-far signal.Grant on = record {
      asked = λ q e. e;
      named = λ q e. e;
      granted = λ e. refl;
    }
    heard-so-far (signal.Packet quad) on = record {
      asked = λ q e. e;
      named = λ q e. e;
      granted = λ e. e;
    }
    heard-so-far signal.Done on = record {
      asked = λ q e.
          port_is-changed (λ p. p.asked) k (λ q. record q { named = true }) (λ p. refl) x.view.ports
          q ∙ e;
      named = λ q e.
          stays-marked (λ p. p.named) (λ q. record q { named = true }) (λ p. refl) k q x.view.ports
          e;
      granted = λ e. e;
    }

    go :
        (b : Bool) →
        hears_packets (if b then hears k s x else silent_step x).state.view.phase ≡ true →
        Rises x (if b then hears k s x else silent_step x).state
    go true on = heard-so-far s on
    go false on = same-rises x

hears-rises :
    (signals : List (ℕ × Signal)) (x : NodeState) → hears_packets x.view.phase ≡ true →
    hears_packets (hear_all signals x).state.view.phase ≡ true → Rises x (hear_all signals x).state
hears-rises [] x h on = same-rises x
hears-rises (s ∷ rest) x h on = elim (signal-stays s.0 s.1 x) [
  | inl t ↦
      let n1 : hears_packets (on_signal s.0 s.1 x).state.view.phase ≡ true =
      ap hears_packets t.phase ∙ h in
      rises-more x (on_signal s.0 s.1 x).state (hear_all rest (on_signal s.0 s.1 x).state).state
      (signal-rises s.0 s.1 x h n1) (hears-rises rest (on_signal s.0 s.1 x).state n1 on)
  | inr t ↦
      absurd (no-packets (hear_all rest (on_signal s.0 s.1 x).state).state.view.phase
      (hear-stays rest (on_signal s.0 s.1 x).state t) on)
]

ticks-rise :
    (coin : Bool) (x : NodeState) → hears_packets x.view.phase ≡ true → Rises x (tick coin x).state
unfolding tick
ticks-rise coin x h = go (next_row x) (late-row x h)
  where
    go : (r : Row) → LateRow (raise_timer x) r → Rises x (does coin r (raise_timer x)).state
    go r rests = record { asked = λ q e. e; named = λ q e. e; granted = λ e. e }
    go r (asks_next k a) = record {
      asked = λ q e.
          stays-marked (λ p. p.asked) (λ q. record q { asked = true }) (λ p. refl) k q x.view.ports
          e;
      named = λ q e.
          port_is-changed (λ p. p.named) k (λ q. record q { asked = true }) (λ p. refl) x.view.ports
          q ∙ e;
      granted = λ e. e;
    }
    go r (names_now n) = record { asked = λ q e. e; named = λ q e. e; granted = λ e. e }

beat-ticks-rise :
    (b : Option Bool) (x : NodeState) → hears_packets x.view.phase ≡ true → Rises x (on_beat b x).state
beat-ticks-rise None x h = same-rises x
beat-ticks-rise (Some coin) x h = ticks-rise coin x h

-- ---- a message under way

-- one of this kind has been under way for so many turns
abbrev pub Old : (Signal → Bool) → ℕ → List Travelling → Type 0
Old test n [] = ⊥
Old test n (t ∷ ts) = ((test t.signal ≡ true) × (n ≤ t.age)) ⊎ Old test n ts

old-older :
    (test : Signal → Bool) (n : ℕ) (ts : List Travelling) → Old test n ts → Old test (n + 1)
    (map age_signal ts)
old-older test n [] h = absurd h
old-older test n (t ∷ ts) (inl h) = inl (h.0, omega (arith, h.1))
old-older test n (t ∷ ts) (inr h) = inr (old-older test n ts h)

old-first :
    (test : Signal → Bool) (n : ℕ) (ts us : List Travelling) → Old test n ts → Old test n (ts ++ us)
old-first test n [] us h = absurd h
old-first test n (t ∷ ts) us (inl h) = inl h
old-first test n (t ∷ ts) us (inr h) = inr (old-first test n ts us h)

pub none-older :
    (test : Signal → Bool) (most n : ℕ) (ts : List Travelling) → most < n → AgesFall most ts →
    Old test n ts → ⊥
none-older test most n [] less f h = h
none-older test most n (t ∷ ts) less f (inl h) = omega (arith, less, f.0, h.1)
none-older test most n (t ∷ ts) less f (inr h) =
    none-older test t.age n ts (omega (arith, less, f.0)) f.1 h

module _
    {one : Signal} {test : Signal → Bool} {has : List Signal → Bool}
    (kind : IsKind one test has) where
  pub old-of : (ts : List Travelling) → has (signals_of ts) ≡ true → Old test 0 ts
  old-of [] h = contrary h kind.empty
  old-of (t ∷ ts) h =
      let either = sym (kind.more t.signal (signals_of ts)) ∙ h in
      elim (or_cases (test t.signal) (has (signals_of ts)) either) [
        | inl e ↦ inl (e, omega arith)
        | inr e ↦ inr (old-of ts e)
      ]

  pub of-old : (n : ℕ) (ts : List Travelling) → Old test n ts → has (signals_of ts) ≡ true
  of-old n [] h = absurd h
  of-old n (t ∷ ts) (inl h) = has-first kind t.signal (signals_of ts) h.0
  of-old n (t ∷ ts) (inr h) = has-rest kind t.signal (signals_of ts) (of-old n ts h)

-- ---- who has the turn

unnamed-not :
    (ports : List PortView) (k : ℕ) → port_is is_unnamed ports k ≡ true → port_is (λ p. p.named)
    ports k ≡ true → ⊥
unnamed-not ports k e n = go (slice_get ports k) e n
  where
    go :
        (o : Option PortView) → passes is_unnamed o ≡ true → passes (λ (p : PortView). p.named)
        o ≡ true → ⊥
    go None e n = true≢false (sym n)
    go (Some q) e n = off-by q.connected q.child q.named e n
      where
        off-by : (a b c : Bool) → (a && (b && not c)) ≡ true → c ≡ true → ⊥
        off-by a b c e n = grind arith

abbrev Used : Bool → NodeState → Row → Type 0
Used coin y r =
    (is_ready (does coin r (raise_timer y)).state.view.phase ≡ true)
    ⊎ ((q : ℕ) × (is_asked y q ≡ false) × (is_asked (does coin r (raise_timer y)).state q ≡ true))

ticks-on-turn :
    (coin : Bool) (y : NodeState) → y.view.phase ≡ phase.SelfIdent → y.view.granted ≡ true →
    ((p : ℕ) → lowest is_unnamed y.view.ports ≡ Some p → is_asked y p ≡ false) →
    (lowest is_unnamed y.view.ports ≡ None → may_name y ≡ true) →
    (is_ready (tick coin y).state.view.phase ≡ true)
    ⊎ ((q : ℕ) × (is_asked y q ≡ false) × (is_asked (tick coin y).state q ≡ true))
unfolding tick
ticks-on-turn coin y e g free may = go y.view.phase e
  where
    by-asked :
        (p : ℕ) → lowest is_unnamed y.view.ports ≡ Some p → (b : Bool) → is_asked y p ≡ b →
        b ≡ false → Used coin y (if b then row.none else row.asks_child p)
    by-asked p low true e f = absurd (true≢false f)
    by-asked p low false e f =
        inr (
          p,
          e,
          changed-here (λ q. q.asked) (λ q. q.child) p p (λ q. record q { asked = true })
              y.view.ports (λ q. refl) (eq-eqb p p refl)
              (is-unnamed y.view.ports p (lowest-is is_unnamed y.view.ports p low)),
        )

    by-name : (b : Bool) → b ≡ true → Used coin y (if b then row.names_itself else row.none)
    by-name true e = inl refl
    by-name false e = absurd (true≢false (sym e))

    by-port :
        (o : Option ℕ) → lowest is_unnamed y.view.ports ≡ o →
        Used coin y (granted_row o (raise_timer y))
    by-port (Some p) low = by-asked p low (is_asked y p) refl (free p low)
    by-port None low = by-name (may_name (raise_timer y)) (may low)

    by-grant :
        (b : Bool) → b ≡ true →
        Used coin y (if b then granted_row (lowest is_unnamed y.view.ports)
        (raise_timer y) else row.none)
    by-grant true e = by-port (lowest is_unnamed y.view.ports) refl
    by-grant false e = absurd (true≢false (sym e))

    go : (f : Phase) → f ≡ phase.SelfIdent → Used coin y (row_of f (raise_timer y))
    go phase.SelfIdent e = by-grant y.view.granted g
    go f e = absurd cc

beat-ticks-on-turn :
    (b : Option Bool) (y : NodeState) → y.view.phase ≡ phase.SelfIdent → y.view.granted ≡ true →
    ((p : ℕ) → lowest is_unnamed y.view.ports ≡ Some p → is_asked y p ≡ false) →
    (lowest is_unnamed y.view.ports ≡ None → may_name y ≡ true) →
    (b ≡ None) ⊎ ((is_ready (on_beat b y).state.view.phase ≡ true)
    ⊎ ((q : ℕ) × (is_asked y q ≡ false) × (is_asked (on_beat b y).state q ≡ true)))
beat-ticks-on-turn None y e g free may = inl refl
beat-ticks-on-turn (Some coin) y e g free may = inr (ticks-on-turn coin y e g free may)

self-ident : (h : Phase) → hears_packets h ≡ true → is_ready h ≡ false → h ≡ phase.SelfIdent
self-ident phase.SelfIdent e f = refl
self-ident phase.Ready e f = absurd (true≢false f)
self-ident h e f = absurd cc

-- a node that has the turn, and whose clock missed it
pub record StillHas (x z : PortNode) : Type 0 where
  pub missed : misses x.clock ≡ true
  pub identifies : z.state.view.phase ≡ phase.SelfIdent
  pub granted : z.state.view.granted ≡ true
  pub awaits_none : (p : ℕ) → (is_asked z.state p && not (is_named z.state p)) ≡ false

-- ---- a turn of a component

module _
    (w : CableWorld) (l : IsLawful w) (i : IsIdentifying w) (set core root : ℕ) (t : Tree)
    (s : IsSettling w set core root t) where
  pub node-rises :
      (k : ℕ) (x z : PortNode) → Holds set k → slice_get w.nodes k ≡ Some x →
      slice_get (turn w).nodes k ≡ Some z → Rises x.state z.state
  node-rises k x z h at at_z =
      let y = (hear_all (inbox w 0 (ports_of w.cabling k)) x.state).state in
      let here = still-there w l i set root t s.component.closed s.walk s.all k x h at in
      let same : z.state ≡ (on_beat (beat x) y).state =
      ap (λ (u : PortNode). u.state)
      (some-same z (turn_at w k x).node (sym at_z ∙ node-after w k x l.well_formed.count at))
      ∙ turn-state (inbox w 0 (ports_of w.cabling k)) x in
      subst (Rises x.state) (sym same)
      (rises-more x.state y (on_beat (beat x) y).state
      (hears-rises (inbox w 0 (ports_of w.cabling k)) x.state (s.all k x h at) here)
      (beat-ticks-rise (beat x) y here))

  -- it comes, and nothing is under way behind it, or it is a turn older
  pub moves :
      {one : Signal} {test : Signal → Bool} {has : List Signal → Bool} → IsKind one test has →
      (a b : End) (n : ℕ) → Holds set b.node → far w.cabling a ≡ Some b →
      Old test n (wire_of w a).signals → Old test (n + 1)
      (wire_of (turn w) a).signals ⊎ (silent (signals_of (wire_of (turn w) a).signals) ≡ true)
  moves {one} {test} {has} kind a b n h e old =
      let back : far w.cabling b ≡ Some a = l.well_formed.cabling.both_ways a b e in
      let j = joined-of w a b l.well_formed e in
      let none : silent (departures (side w a j.near)) ≡ true =
      now-silent w l i set root t s.component.closed s.walk s.all s.numbered b a j.other j.near h
      back j.other_at j.near_at kind (of-old kind n (wire_of w a).signals old) in
      subst (λ (ts : List Travelling). Old test (n + 1) ts ⊎ (silent (signals_of ts) ≡ true))
      (sym (side-wire w a b j.near l.well_formed e j.near_at))
      (go j.near (gives w.delay (age_wire (wire_of w a))) none)
    where
      go :
          (x : PortNode) (g : Bool) → silent (departures (side w a x)) ≡ true → Old test (n + 1)
          ((if g then [] else map age_signal (wire_of w a).signals) ++ map new_signal
          (departures (side w a x)))
          ⊎ (silent (signals_of ((if g then [] else map age_signal (wire_of w a).signals) ++ map
          new_signal (departures (side w a x)))) ≡ true)
      go x true none = inr (ap silent (signals-sent (departures (side w a x))) ∙ none)
      go x false none =
          inl (old-first test (n + 1) (map age_signal (wire_of w a).signals)
          (map new_signal (departures (side w a x))) (old-older test n (wire_of w a).signals old))

  -- whoever has the turn asks a child or comes to A0
  pub turn-used :
      (acyclic : IsAcyclic w) (k : ℕ) (x z : PortNode) → Holds set k →
      slice_get w.nodes k ≡ Some x → slice_get (turn w).nodes k ≡ Some z →
      x.state.view.granted ≡ true → is_ready x.state.view.phase ≡ false →
      ((p : ℕ) → (is_asked x.state p && not (is_named x.state p)) ≡ false) →
      StillHas x z ⊎ ((is_ready z.state.view.phase ≡ true)
      ⊎ ((q : ℕ) × (is_asked x.state q ≡ false) × (is_asked z.state q ≡ true)))
  turn-used acyclic k x z h at at_z g u waits =
      let same : z.state ≡ (on_beat (beat x) y).state =
      ap (λ (v : PortNode). v.state)
      (some-same z (turn_at w k x).node (sym at_z ∙ node-after w k x l.well_formed.count at))
      ∙ turn-state (inbox w 0 (ports_of w.cabling k)) x in
      elim (beat-ticks-on-turn (beat x) y
      (self-ident y.view.phase here (ap is_ready o.stays.phase ∙ u)) granted free may) [
        | inl m ↦
            let still : z.state ≡ y = same ∙ ap (λ b. (on_beat b y).state) m in
            inl (record {
              missed = beat-misses x m;
              identifies = ap (λ (v : NodeState). v.view.phase) still ∙ self-ident y.view.phase here (ap is_ready o.stays.phase ∙ u);
              granted = ap (λ (v : NodeState). v.view.granted) still ∙ granted;
              awaits_none = λ p. subst (λ (v : NodeState). (is_asked v p && not (is_named v p)) ≡ false) (sym still) (waits-on p);
            })
        | inr u ↦ inr (elim u [
          | inl r ↦ inl (ap (λ (v : NodeState). is_ready v.view.phase) same ∙ r)
          | inr a ↦
              inr (a.0, sym (o.asked a.0) ∙ a.1, ap (λ (v : NodeState). is_asked v a.0) same ∙ a.2)
        ])
      ]
    where
      y : NodeState
      y = (hear_all (inbox w 0 (ports_of w.cabling k)) x.state).state

      here : hears_packets y.view.phase ≡ true
      here = still-there w l i set root t s.component.closed s.walk s.all k x h at

      o : Heard-so x.state.ports (emit t) (mark w.cabling root t 0 k) (shown_node x.state) x.state y
      o = heard-so w l i set root t s.component.closed s.walk s.all s.numbered k x h at

      r : Rises x.state y
      r = hears-rises (inbox w 0 (ports_of w.cabling k)) x.state (s.all k x h at) here

      granted : y.view.granted ≡ true
      granted = r.granted g

      waits-on : (p : ℕ) → (is_asked y p && not (is_named y p)) ≡ false
      waits-on p = none (is_asked x.state p) (is_asked y p) (is_named x.state p) (is_named y p) (o.asked p) (r.named p) (waits p)
        where
          none :
              (a b n m : Bool) → b ≡ a → (n ≡ true → m ≡ true) → (a && not n) ≡ false →
              (b && not m) ≡ false
          none false b n m e h f = ap (λ c. c && not m) e
          none true b true m e h f = ap (λ c. b && not c) (h refl) ∙ off b
            where
              off : (c : Bool) → (c && false) ≡ false
              off c = grind arith
          none true b false m e h f = absurd (true≢false f)

      free : (p : ℕ) → lowest is_unnamed y.view.ports ≡ Some p → is_asked y p ≡ false
      free p low =
          false_from_ne_true _ (λ e. unnamed-not y.view.ports p
          (lowest-is is_unnamed y.view.ports p low)
          (r.named p (named-so (is_asked x.state p) (is_named x.state p) (sym (o.asked p) ∙ e)
          (waits p))))
        where
          named-so : (a n : Bool) → a ≡ true → (a && not n) ≡ false → n ≡ true
          named-so a n e f = grind arith

      may : lowest is_unnamed y.view.ports ≡ None → may_name y ≡ true
      may low = room-for w l acyclic i set core root t s k x h at y o.marks.shown
          ((heard-goes w l i set root t s.component.closed s.walk s.all s.numbered k x h at).turn
          granted (ap is_ready o.stays.phase ∙ u) x.state.ports (omega arith) (record {
            named = λ j less d. all-named y o.valid (hears-late y.view.phase here) low j d;
            unasked = λ j more. beyond j more (is_asked y j) refl;
          }) ∙ ap (emit t) (s.walk.last k x at))
        where
          beyond : (j : ℕ) → x.state.ports ≤ j → (b : Bool) → is_asked y j ≡ b → b ≡ false
          beyond j more false e = refl
          beyond j more true e = absurd (omega (arith, more, o.marks.below j (o.marked.asked j e)))
