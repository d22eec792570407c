-- What is heard over a cable: each signal that is sent, within d turns, in order and once.
use Rattle.std.proofs.Common.{◌≡◌, ◌≢◌, ℕ, suc, ◌+◌, ◌-◌, ◌≤◌, Bool, true, false, List, [], ◌∷◌, ◌++◌, map, Some, None, if◌then◌else◌, refl, sym, ◌∙◌, ap, subst, arith, append-nil, append_assoc}
use Rattle.cabling.specs.declared.cable.End.{End}
use Rattle.cabling.specs.Wiring.{Wiring, far}
use Rattle.port_state.specs.declared.signal.Signal.{Signal}
use Rattle.cable_world.specs.declared.act.Act.{Act}
use Rattle.cable_world.specs.declared.act.Act.TheVariants.{Pull}
use Rattle.cable_world.specs.declared.wire.Travelling.{Travelling}
use Rattle.cable_world.specs.Wire.{Wire, new_signal, age_signal, age_wire, gives}
use Rattle.cable_world.specs.World.{CableWorld, wire_of}
use Rattle.cable_world.specs.Turn.{turn}
use Rattle.cable_world.specs.Act.{Acted, hold, hold_fault}
use Rattle.cable_world.specs.Events.{Event, acts, holds, turns, Happens, Runs, turn_count}
use Rattle.cable_world.specs.Signals.{signals_of}
use Rattle.cable_world.specs.Lawful.{AgesFall, IsWellFormed}
use Rattle.cable_world.proofs.Lemmas.{comes-lawful, hold-signals, signals-append, signals-sent, signals-older, CableEnd, cable-end, act-keeps, act-formed, hold-formed, turn-formed, wire-after, cabling-after, delay-after, comes}
use Rattle.world_laws.proofs.ActCables.{act-cable}
use Rattle.world_laws.proofs.ActsByNumber.{changes}
use Rattle.world_laws.proofs.SentInActs.{sent-in-act}
use Rattle.world_laws.specs.Arrival.{heard_at, heard_in, sends_at, sent_at, sent_in_act, sent_in, NonePulls, CablesStay, SignalsArrive, SentSignalsArrive, SignalsKeepTheirOrder}

-- ---- one event

abbrev under_way : CableWorld → End → List Travelling
under_way w a = (wire_of w a).signals

-- what a cable, its wire from one end, and d are after an event
record After (w u : CableWorld) (a b : End) (now : List Travelling) (sent : List Signal) : Type 0 where
  formed : IsWellFormed u
  delay : u.delay ≡ w.delay
  cable : far u.cabling a ≡ Some b
  signals : under_way u a ≡ now ++ map new_signal sent

module _ (w : CableWorld) (a b : End) (f : IsWellFormed w) (cable : far w.cabling a ≡ Some b) where
  -- ---- an act or a hold: what was under way is so, and perhaps a Reset is sent

  act-after :
      (act : Act) (v : CableWorld) → Acted act w v → act ≢ Pull a → act ≢ Pull b →
      After w v a b (under_way w a) (sent_in_act a act w)
  act-after act v did not_a not_b =
      let joined : far v.cabling a ≡ Some b = act-cable act w v did.1 did.2 f a b cable not_a not_b in
      record {
        formed = act-formed act w v did f;
        delay = (act-keeps act w v did.2).delay;
        cable = joined;
        signals = sent-in-act act w v a b (changes act w v did f) f joined;
      }

  hold-after :
      (end : End) (n : ℕ) → hold_fault end w ≡ None →
      After w (hold end n w) a b (under_way w a) []
  hold-after end n none = record {
    formed = hold-formed end n w none f;
    delay = refl;
    cable = cable;
    signals = hold-signals end n w none f a ∙ sym (append-nil (under_way w a));
  }

  -- ---- a turn: all that was under way is heard, or none of it

  abbrev left : Bool → List Travelling
  left given = if given then [] else map age_signal (under_way w a)

  abbrev came : Bool → List Signal
  came given = if given then signals_of (under_way w a) else []

  abbrev given : Bool
  given = gives w.delay (age_wire (wire_of w a))

  hears : heard_at b w ≡ came given
  hears = comes w a b (f.cabling.both_ways a b cable)

  turn-after : After w (turn w) a b (left given) (sent_at a w)
  turn-after =
      let end : CableEnd w a = cable-end w a b f cable in
      record {
        formed = turn-formed w f;
        delay = delay-after w;
        cable = ap (λ (c : Wiring). far c a) (cabling-after w) ∙ cable;
        signals =
            ap (λ (z : Wire). z.signals) (wire-after w a end.node f.count end.node_at end.wire.port)
            ∙ ap (λ o. left given ++ map new_signal (sends_at w a o)) (sym end.node_at);
      }

moved :
    (w u v : CableWorld) (a b : End) (now : List Travelling) (sent : List Signal) → v ≡ u →
    After w u a b now sent → After w v a b now sent
moved w u v a b now sent e h = subst (λ (z : CableWorld). After w z a b now sent) (sym e) h

-- ---- runs

first-unpulled :
    (a b : End) (e : Event) (events : List Event) → NonePulls a b (e ∷ events) →
    (e ≢ acts (Pull a)) × (e ≢ acts (Pull b))
first-unpulled a b e events un = un 0 e (omega arith)

rest-unpulled :
    (a b : End) (e : Event) (events : List Event) → NonePulls a b (e ∷ events) → NonePulls a b events
rest-unpulled a b e events un = λ k d less. un (suc k) d (omega (arith, less))

not-pulled : (act : Act) (a : End) → acts act ≢ acts (Pull a) → act ≢ Pull a
not-pulled act a h same = h (ap (λ (z : Act). acts z) same)

-- what became of an event, whatever it is: all that was under way was heard, or nothing was and all
-- is under way still, as old or a turn older
data Step (w u : CableWorld) (a b : End) (heard sent : List Signal) (turned : ℕ) : Type 0 where
  delivered :
      heard ≡ signals_of (under_way w a) → After w u a b [] sent → Step w u a b heard sent turned
  older :
      heard ≡ [] → turned ≡ 1 → After w u a b (map age_signal (under_way w a)) sent →
      Step w u a b heard sent turned
  same :
      heard ≡ [] → turned ≡ 0 → After w u a b (under_way w a) sent →
      Step w u a b heard sent turned

abbrev heard_then : End → Event → CableWorld → List Signal
heard_then b turns w = heard_at b w
heard_then b (acts act) w = []
heard_then b (holds end n) w = []

abbrev sent_then : End → Event → CableWorld → List Signal
sent_then a turns w = sent_at a w
sent_then a (acts act) w = sent_in_act a act w
sent_then a (holds end n) w = []

abbrev turned_by : Event → ℕ
turned_by turns = 1
turned_by (acts act) = 0
turned_by (holds end n) = 0

turn-step :
    (w u : CableWorld) (a b : End) → IsWellFormed w → far w.cabling a ≡ Some b → u ≡ turn w →
    Step w u a b (heard_at b w) (sent_at a w) 1
turn-step w u a b f cable e = go (given w a b f cable) (hears w a b f cable) (moved w (turn w) u a b (left w a b f cable (given w a b f cable)) (sent_at a w) e (turn-after w a b f cable))
  where
    go :
        (g : Bool) → heard_at b w ≡ came w a b f cable g →
        After w u a b (left w a b f cable g) (sent_at a w) →
        Step w u a b (heard_at b w) (sent_at a w) 1
    go true h after = delivered h after
    go false h after = older h refl after

step :
    (e : Event) (w u : CableWorld) (a b : End) → IsWellFormed w → far w.cabling a ≡ Some b →
    (e ≢ acts (Pull a)) × (e ≢ acts (Pull b)) → Happens e w u →
    Step w u a b (heard_then b e w) (sent_then a e w) (turned_by e)
step (acts act) w u a b f cable un h = same refl refl (act-after w a b f cable act u h (not-pulled act a un.0) (not-pulled act b un.1))
step (holds end n) w u a b f cable un h = same refl refl (moved w (hold end n w) u a b (under_way w a) [] h.1 (hold-after w a b f cable end n h.0))
step turns w u a b f cable un h = turn-step w u a b f cable h

heard-first :
    (b : End) (e : Event) (events : List Event) (w v : CableWorld) (run : Runs (e ∷ events) w v) →
    heard_in b (e ∷ events) w v run ≡ heard_then b e w ++ heard_in b events run.0 v run.2
heard-first b (acts act) events w v run = refl
heard-first b (holds end n) events w v run = refl
heard-first b turns events w v run = refl

sent-first :
    (a : End) (e : Event) (events : List Event) (w v : CableWorld) (run : Runs (e ∷ events) w v) →
    sent_in a (e ∷ events) w v run ≡ sent_then a e w ++ sent_in a events run.0 v run.2
sent-first a (acts act) events w v run = refl
sent-first a (holds end n) events w v run = refl
sent-first a turns events w v run = refl

turns-first : (e : Event) (events : List Event) →
    turn_count (e ∷ events) ≡ turned_by e + turn_count events
turns-first (acts act) events = omega arith
turns-first (holds end n) events = omega arith
turns-first turns events = omega arith

-- ---- the cable stays

record Stays (w v : CableWorld) (a b : End) : Type 0 where
  formed : IsWellFormed v
  delay : v.delay ≡ w.delay
  cable : far v.cabling a ≡ Some b

stays :
    (events : List Event) (w v : CableWorld) (a b : End) → IsWellFormed w → far w.cabling a ≡ Some b →
    NonePulls a b events → Runs events w v → Stays w v a b
stays [] w v a b f cable un run = subst (λ (z : CableWorld). Stays w z a b) (sym run) (record { formed = f; delay = refl; cable = cable })
stays (e ∷ events) w v a b f cable un run = elim (step e w run.0 a b f cable (first-unpulled a b e events un) run.1) [
  | delivered h after ↦ on (stays events run.0 v a b after.formed after.cable (rest-unpulled a b e events un) run.2) after.delay
  | older h t after ↦ on (stays events run.0 v a b after.formed after.cable (rest-unpulled a b e events un) run.2) after.delay
  | same h t after ↦ on (stays events run.0 v a b after.formed after.cable (rest-unpulled a b e events un) run.2) after.delay
]
  where
    on : Stays run.0 v a b → run.0.delay ≡ w.delay → Stays w v a b
    on s d = record { formed = s.formed; delay = s.delay ∙ d; cable = s.cable }

pub cables-stay : CablesStay
cables-stay w v events a b j run = (stays events w v a b (comes-lawful w j.comes).well_formed j.cable j.unpulled run).cable

-- ---- within d turns

age-most :
    (most : ℕ) (before : List Travelling) (t : Travelling) (after : List Travelling) →
    AgesFall most (before ++ t ∷ after) → t.age ≤ most
age-most most [] t after h = h.0
age-most most (s ∷ before) t after h = let le : t.age ≤ s.age = age-most s.age before t after h.1 in omega (arith, le, h.0)

-- it is heard in the turns to come
abbrev Comes : (b : End) (events : List Event) (w v : CableWorld) → Runs events w v → List Signal → Signal → Type 0
Comes b events w v run before s = (later : List Signal) × (heard_in b events w v run ≡ before ++ s ∷ later)

signals-split :
    (before : List Travelling) (t : Travelling) (after : List Travelling) →
    signals_of (before ++ t ∷ after) ≡ signals_of before ++ t.signal ∷ signals_of after
signals-split before t after = signals-append before (t ∷ after)

heard-now :
    (b : End) (e : Event) (events : List Event) (w v : CableWorld) (run : Runs (e ∷ events) w v)
    (before : List Travelling) (t : Travelling) (after : List Travelling) →
    heard_then b e w ≡ signals_of (before ++ t ∷ after) →
    Comes b (e ∷ events) w v run (signals_of before) t.signal
heard-now b e events w v run before t after h =
    let rest : List Signal = heard_in b events run.0 v run.2 in (
      signals_of after ++ rest,
      heard-first b e events w v run
          ∙ ap (λ l. l ++ rest) (h ∙ signals-split before t after)
          ∙ append_assoc (signals_of before) (t.signal ∷ signals_of after) rest,
    )

heard-later :
    (b : End) (e : Event) (events : List Event) (w v : CableWorld) (run : Runs (e ∷ events) w v)
    (before : List Signal) (s : Signal) → heard_then b e w ≡ [] →
    Comes b events run.0 v run.2 before s → Comes b (e ∷ events) w v run before s
heard-later b e events w v run before s none h =
    (h.0, heard-first b e events w v run ∙ ap (λ l. l ++ heard_in b events run.0 v run.2) none ∙ h.1)

older-split :
    (before : List Travelling) (t : Travelling) (after new : List Travelling) →
    map age_signal (before ++ t ∷ after) ++ new
    ≡ map age_signal before ++ age_signal t ∷ (map age_signal after ++ new)
older-split [] t after new = refl
older-split (s ∷ before) t after new = ap (λ l. age_signal s ∷ l) (older-split before t after new)

split-more :
    (before : List Travelling) (t : Travelling) (after new : List Travelling) →
    (before ++ t ∷ after) ++ new ≡ before ++ t ∷ (after ++ new)
split-more before t after new = append_assoc before (t ∷ after) new

pub deliver :
    (events : List Event) (w v : CableWorld) (run : Runs events w v) (a b : End)
    (before : List Travelling) (t : Travelling) (after : List Travelling) → IsWellFormed w →
    far w.cabling a ≡ Some b → NonePulls a b events → under_way w a ≡ before ++ t ∷ after →
    w.delay ≤ t.age + turn_count events → Comes b events w v run (signals_of before) t.signal
deliver [] w v run a b before t after f cable un at due =
    let young : t.age ≤ w.delay - 1 = age-most (w.delay - 1) before t after (subst (λ ts. AgesFall (w.delay - 1) ts) at (f.ages a)) in
    absurd (omega (arith, young, due, f.some_delay))
deliver (e ∷ events) w v run a b before t after f cable un at due = elim (step e w run.0 a b f cable (first-unpulled a b e events un) run.1) [
  | delivered h next ↦ heard-now b e events w v run before t after (h ∙ ap signals_of at)
  | older h turned next ↦
      let now : under_way run.0 a ≡ map age_signal before ++ age_signal t ∷ (map age_signal after ++ map new_signal (sent_then a e w)) =
      next.signals ∙ ap (λ ts. map age_signal ts ++ map new_signal (sent_then a e w)) at ∙ older-split before t after (map new_signal (sent_then a e w)) in
      let count : turn_count (e ∷ events) ≡ turned_by e + turn_count events = turns-first e events in
      let still : run.0.delay ≤ t.age + 1 + turn_count events = omega (arith, next.delay, due, count, turned) in
      let comes : Comes b events run.0 v run.2 (signals_of (map age_signal before)) t.signal =
      deliver events run.0 v run.2 a b (map age_signal before) (age_signal t) (map age_signal after ++ map new_signal (sent_then a e w)) next.formed next.cable (rest-unpulled a b e events un) now still in
      heard-later b e events w v run (signals_of before) t.signal h
      (subst (λ l. Comes b events run.0 v run.2 l t.signal) (signals-older before) comes)
  | same h turned next ↦
      let now : under_way run.0 a ≡ before ++ t ∷ (after ++ map new_signal (sent_then a e w)) =
      next.signals ∙ ap (λ ts. ts ++ map new_signal (sent_then a e w)) at ∙ split-more before t after (map new_signal (sent_then a e w)) in
      let count : turn_count (e ∷ events) ≡ turned_by e + turn_count events = turns-first e events in
      let still : run.0.delay ≤ t.age + turn_count events = omega (arith, next.delay, due, count, turned) in
      heard-later b e events w v run (signals_of before) t.signal h
      (deliver events run.0 v run.2 a b before t (after ++ map new_signal (sent_then a e w)) next.formed next.cable (rest-unpulled a b e events un) now still)
]

pub signals-arrive : SignalsArrive
signals-arrive w v events run a b before t after j at due =
    deliver events w v run a b before t after (comes-lawful w j.comes).well_formed j.cable j.unpulled at due

-- ---- in order and once

-- what was heard, and is under way, is what was under way, and what was sent
abbrev InOrder : (a b : End) (events : List Event) (w v : CableWorld) → Runs events w v → Type 0
InOrder a b events w v run =
    heard_in b events w v run ++ signals_of (under_way v a)
    ≡ signals_of (under_way w a) ++ sent_in a events w v run

now-sent :
    (now : List Travelling) (sent : List Signal) (ts : List Travelling) → ts ≡ now ++ map new_signal sent →
    signals_of ts ≡ signals_of now ++ sent
now-sent now sent ts e =
    ap signals_of e ∙ signals-append now (map new_signal sent) ∙ ap (λ l. signals_of now ++ l) (signals-sent sent)

module _
    (a b : End) (e : Event) (events : List Event) (w v : CableWorld) (run : Runs (e ∷ events) w v)
    (next : InOrder a b events run.0 v run.2) where
  abbrev rest : List Signal
  rest = heard_in b events run.0 v run.2

  abbrev more : List Signal
  more = sent_in a events run.0 v run.2

  abbrev old : List Signal
  old = signals_of (under_way w a)

  abbrev last : List Signal
  last = signals_of (under_way v a)

  order-all :
      heard_then b e w ≡ signals_of (under_way w a) →
      signals_of (under_way run.0 a) ≡ sent_then a e w → InOrder a b (e ∷ events) w v run
  order-all h now =
      ap (λ l. l ++ last) (heard-first b e events w v run ∙ ap (λ l. l ++ rest) h)
      ∙ append_assoc old rest last
      ∙ ap (λ l. old ++ l) (next ∙ ap (λ l. l ++ more) now ∙ sym (sent-first a e events w v run))

  order-none :
      heard_then b e w ≡ [] →
      signals_of (under_way run.0 a) ≡ signals_of (under_way w a) ++ sent_then a e w →
      InOrder a b (e ∷ events) w v run
  order-none h now =
      ap (λ l. l ++ last) (heard-first b e events w v run ∙ ap (λ l. l ++ rest) h)
      ∙ next
      ∙ ap (λ l. l ++ more) now
      ∙ append_assoc old (sent_then a e w) more
      ∙ ap (λ l. old ++ l) (sym (sent-first a e events w v run))

pub in-order :
    (events : List Event) (w v : CableWorld) (run : Runs events w v) (a b : End) → IsWellFormed w →
    far w.cabling a ≡ Some b → NonePulls a b events → InOrder a b events w v run
in-order [] w v run a b f cable un =
    ap (λ (z : CableWorld). signals_of (under_way z a)) run ∙ sym (append-nil (signals_of (under_way w a)))
in-order (e ∷ events) w v run a b f cable un = elim (step e w run.0 a b f cable (first-unpulled a b e events un) run.1) [
  | delivered h next ↦
      order-all a b e events w v run (in-order events run.0 v run.2 a b next.formed next.cable (rest-unpulled a b e events un)) h (now-sent [] (sent_then a e w) (under_way run.0 a) next.signals)
  | older h turned next ↦
      order-none a b e events w v run (in-order events run.0 v run.2 a b next.formed next.cable (rest-unpulled a b e events un)) h
      (now-sent (map age_signal (under_way w a)) (sent_then a e w) (under_way run.0 a) next.signals ∙ ap (λ l. l ++ sent_then a e w) (signals-older (under_way w a)))
  | same h turned next ↦
      order-none a b e events w v run (in-order events run.0 v run.2 a b next.formed next.cable (rest-unpulled a b e events un)) h (now-sent (under_way w a) (sent_then a e w) (under_way run.0 a) next.signals)
]

pub keep-order : SignalsKeepTheirOrder
keep-order w v events run a b j = in-order events w v run a b (comes-lawful w j.comes).well_formed j.cable j.unpulled

-- ---- what was sent arrives

split-last :
    (t : Travelling) (ts : List Travelling) →
    (before : List Travelling) × (last : Travelling) × (t ∷ ts ≡ before ++ last ∷ [])
split-last t [] = ([], t, refl)
split-last t (s ∷ ts) = let r = split-last s ts in (t ∷ r.0, r.1, ap (λ l. t ∷ l) r.2)

-- all that is under way is heard in d turns
all-heard :
    (events : List Event) (w v : CableWorld) (run : Runs events w v) (a b : End) → IsWellFormed w →
    far w.cabling a ≡ Some b → NonePulls a b events → w.delay ≤ turn_count events →
    (rest : List Signal) × (heard_in b events w v run ≡ signals_of (under_way w a) ++ rest)
all-heard events w v run a b f cable un due = go (under_way w a) refl
  where
    go :
        (ts : List Travelling) → under_way w a ≡ ts →
        (rest : List Signal) × (heard_in b events w v run ≡ signals_of ts ++ rest)
    go [] at = (heard_in b events w v run, refl)
    go (t ∷ ts) at =
        let s = split-last t ts in
        let h = deliver events w v run a b s.0 s.1 [] f cable un (at ∙ s.2) (omega (arith, due)) in (
          h.0,
          h.1
              ∙ sym (append_assoc (signals_of s.0) (s.1.signal ∷ []) h.0)
              ∙ ap (λ l. l ++ h.0) (sym (signals-split s.0 s.1 []) ∙ ap signals_of (sym s.2)),
        )

pub sent-arrive : SentSignalsArrive
sent-arrive w u v first later run on a b j un due =
    let f : IsWellFormed w = (comes-lawful w j.comes).well_formed in
    let s : Stays w u a b = stays first w u a b f j.cable j.unpulled run in
    let late : u.delay ≤ turn_count later = omega (arith, s.delay, due) in
    let h = all-heard later u v on a b s.formed s.cable un late in (
      h.0,
      ap (λ l. heard_in b first w u run ++ l) h.1
          ∙ sym (append_assoc (heard_in b first w u run) (signals_of (under_way u a)) h.0)
          ∙ ap (λ l. l ++ h.0) (in-order first w u run a b f j.cable j.unpulled),
    )
