-- A turn keeps what is so of a child cable: first the node at one end takes it, and then the node
-- at the other.
use Rattle.std.proofs.Common.{◌≡◌, ◌⊎◌, inl, inr, ℕ, ◌+◌, ◌≤◌, length, Bool, true, false, List, [], ◌++◌, map, sym, ◌∙◌, ap, subst, arith, append-nil, if◌then◌else◌}
use Rattle.std.proofs.lemmas.List.{append_assoc}
use Rattle.outcomes.proofs.Common.{contrary, Signal, NodeState, is_port, sent_on, is_resetting, hears_packets, on_signal, IsValid, age_signal, signals_of, leads_down, Side, hearing, ticking, arrivals, leftovers, departures, wire_after, after_signals, Pair, no-packets, is_ready, is_asked, is_named, IsMarked, silent, quads_in, Mode, parent_mode, child_mode, mode, fits, Lined}
use Rattle.cable_world.proofs.Lemmas.{signals-older}
use Rattle.outcomes.proofs.identify.Messages.{fits-silent, silent-append, silent-quads, quads-append}
use Rattle.outcomes.proofs.identify.Hearing.{Stays, signal-stays}
use Rattle.outcomes.proofs.identify.LinedHears.{above-hears, below-hears, waits-hears, front-hears, room-hears, Waiting}
use Rattle.outcomes.proofs.identify.LinedTicks.{beat-above-ticks, beat-below-ticks, beat-waits-ticks, beat-front-ticks, beat-room-ticks, beat-ticks-on, beat-tick-silent, beat-ticks-parent}
use Rattle.outcomes.proofs.identify.GreetTicks.{beat-ticks-child}
use Rattle.outcomes.proofs.identify.HearAll.{MayCome, HasRoom, Keeps, hear-keeps, hear-marked}
use Rattle.convergence.proofs.Lemmas.{start-mute}

-- what is known of a node before it takes its turn
pub record Able (s : Side) : Type 0 where
  pub valid : IsValid s.node
  pub heard_valid : IsValid (hearing s).state
  pub marked : IsMarked s.node
  pub hears : hears_packets s.node.view.phase ≡ true
  pub comes : MayCome s.node s.inbox
  pub room : HasRoom s.node s.inbox

pub able-marked : (s : Side) → Able s → IsMarked (hearing s).state
able-marked s a = hear-marked s.inbox s.node a.valid a.marked (λ _. a.comes)

-- what is sent in two parts
parts :
    (s : Side) (out : List Signal) → (out ++ sent_on s.port (hearing s).sends)
    ++ sent_on s.port (ticking s).sends ≡ out ++ departures s
parts s out = append_assoc out (sent_on s.port (hearing s).sends) (sent_on s.port (ticking s).sends)

-- a fact of the node after its turn, or one of what it sent where it began a reset
abbrev pub Taken :
    Side → (NodeState → List Signal → Type 0) → (List Signal → Type 0) → List Signal → Type 0
Taken s Q S out = ((hears_packets (ticking s).state.view.phase ≡ true) × Q (ticking s).state (out ++ departures s)) ⊎ ((is_resetting (hearing s).state.view.phase ≡ true) × S (out ++ departures s))

takes :
    (s : Side) → Able s → (Q : NodeState → List Signal → List Signal → Type 0)
    (S : List Signal → Type 0) → Keeps s.port Q S →
    (ticks : (out pend : List Signal) → hears_packets (hearing s).state.view.phase ≡ true →
    Q (hearing s).state out pend →
    Q (ticking s).state (out ++ sent_on s.port (ticking s).sends) pend) →
    (out pend : List Signal) → Q s.node out (sent_on s.port s.inbox ++ pend) →
    Taken s (λ x o. Q x o pend) S out
takes s a Q S keeps ticks out pend q = elim (hear-keeps s.port Q S keeps s.inbox s.node out pend a.valid a.marked a.hears a.comes a.room q) [
  | inl h ↦ inl (beat-ticks-on s.beat (hearing s).state h.0, subst (λ o. Q (ticking s).state o pend) (parts s out) (ticks (out ++ sent_on s.port (hearing s).sends) pend h.0 h.1))
  | inr h ↦ inr (h.0, subst S (parts s out) (keeps.adds (out ++ sent_on s.port (hearing s).sends) (sent_on s.port (ticking s).sends) h.1 (beat-tick-silent s.beat (hearing s).state s.port (start-mute (hearing s).state.view.phase h.0))))
]

stayed :
    (k : ℕ) (s : Signal) (x : NodeState) → hears_packets (on_signal k s x).state.view.phase ≡ true →
    Stays x (on_signal k s x).state
stayed k s x n = elim (signal-stays k s x) [ inl t ↦ t | inr r ↦ absurd (no-packets (on_signal k s x).state.view.phase r n) ]

-- what may come to the other end, and has room in its list
abbrev pub Comes : Mode → List ℕ → List Signal → Type 0
Comes m list out = (fits m out ≡ true) × (length list + length (quads_in out) ≤ 252)

pub comes-adds :
    (m : Mode) (list : List ℕ) (out ss : List Signal) → Comes m list out → silent ss ≡ true →
    Comes m list (out ++ ss)
comes-adds m list out ss c e = (fits-silent m out ss c.0 e, omega (arith, c.1, ap length (quads-append out ss ∙ ap (λ t. quads_in out ++ t) (silent-quads ss e) ∙ append-nil (quads_in out))))

-- ---- above

abbrev pub Above : ℕ → NodeState → NodeState → List Signal → List Signal → Type 0
Above p y x out pend = (leads_down x.view.ports p ≡ true) × Lined x p out y pend

keeps-above :
    (p : ℕ) (y : NodeState) → Keeps p (Above p y)
    (Comes (parent_mode (is_ready y.view.phase) y.view.granted) y.list.items)
keeps-above p y = record {
  step = λ k s x out pend v m h n a r q. ((stayed k s x n).child p ∙ q.0, above-hears k s x p out y pend v m h n a r q.0 q.1);
  less = λ x out pend q. (q.1.fits_down, q.1.room_down);
  adds = comes-adds (parent_mode (is_ready y.view.phase) y.view.granted) y.list.items;
}

pub above-turn :
    (s : Side) → Able s → (y : NodeState) (out pend : List Signal) →
    Above s.port y s.node out (sent_on s.port s.inbox ++ pend) →
    Taken s (λ x o. Above s.port y x o pend)
    (Comes (parent_mode (is_ready y.view.phase) y.view.granted) y.list.items) out
above-turn s a y = takes s a (Above s.port y) (Comes (parent_mode (is_ready y.view.phase) y.view.granted) y.list.items) (keeps-above s.port y)
    (λ out pend n q. (beat-ticks-child s.beat (hearing s).state s.port q.0, beat-above-ticks s.beat (hearing s).state s.port out y pend a.heard_valid n q.0 q.1))

-- ---- below

abbrev pub Below : ℕ → NodeState → ℕ → NodeState → List Signal → List Signal → Type 0
Below q x p y out pend = (is_port y.view.parent q ≡ true) × Lined x p pend y out

keeps-below :
    (q : ℕ) (x : NodeState) (p : ℕ) → Keeps q (Below q x p)
    (Comes (child_mode (is_asked x p) (is_named x p)) x.list.items)
keeps-below q x p = record {
  step = λ k s y out pend v m h n a r b. (ap (λ o. is_port o q) (stayed k s y n).parent ∙ b.0, below-hears k s y q out x p pend v m h n a r b.0 b.1);
  less = λ y out pend b. (b.1.fits_up, b.1.room_up);
  adds = comes-adds (child_mode (is_asked x p) (is_named x p)) x.list.items;
}

pub below-turn :
    (s : Side) → Able s → (x : NodeState) (p : ℕ) (out pend : List Signal) →
    Below s.port x p s.node out (sent_on s.port s.inbox ++ pend) →
    Taken s (λ y o. Below s.port x p y o pend)
    (Comes (child_mode (is_asked x p) (is_named x p)) x.list.items) out
below-turn s a x p = takes s a (Below s.port x p) (Comes (child_mode (is_asked x p) (is_named x p)) x.list.items) (keeps-below s.port x p)
    (λ out pend n b. (ap (λ o. is_port o s.port) (beat-ticks-parent s.beat (hearing s).state n) ∙ b.0, beat-below-ticks s.beat (hearing s).state s.port out x p pend a.heard_valid n b.0 b.1))

-- ---- a child that waits for its grant

abbrev Waiting-at : ℕ → NodeState → List Signal → List Signal → Type 0
Waiting-at q y out pend = Waiting y q out pend

keeps-waits : (q : ℕ) → Keeps q (Waiting-at q) (λ out. silent out ≡ true)
keeps-waits q = record {
  step = λ k s y out pend v m h n a r w. waits-hears k s y q out pend m h n a w;
  less = λ y out pend w. w.said;
  adds = silent-append;
}

pub waits-turn :
    (s : Side) → Able s → (out pend : List Signal) →
    Waiting s.node s.port out (sent_on s.port s.inbox ++ pend) →
    Taken s (λ y o. Waiting y s.port o pend) (λ o. silent o ≡ true) out
waits-turn s a = takes s a (Waiting-at s.port) (λ o. silent o ≡ true) (keeps-waits s.port) (λ out pend n w. beat-waits-ticks s.beat (hearing s).state s.port out pend n w)

-- ---- what may come to a port

abbrev Fits-at : ℕ → NodeState → List Signal → List Signal → Type 0
Fits-at p x out pend = Comes (mode x p) x.list.items pend

keeps-front : (p : ℕ) → Keeps p (Fits-at p) (λ out. Unit {0})
keeps-front p = record {
  step = λ k s x out pend v m h n a r f. (front-hears k s x p pend v m h n a f.0, room-hears k s x p pend v m h n a f.0 f.1);
  less = λ x out pend f. tt;
  adds = λ out ss f e. tt;
}

pub front-turn :
    (s : Side) → Able s → (pend : List Signal) → Comes (mode s.node s.port)
    s.node.list.items (sent_on s.port s.inbox ++ pend) →
    hears_packets (ticking s).state.view.phase ≡ true →
    is_resetting (hearing s).state.view.phase ≡ false → Comes (mode (ticking s).state s.port)
    (ticking s).state.list.items pend
front-turn s a pend f n r = elim (takes s a (Fits-at s.port) (λ o. Unit {0}) (keeps-front s.port) (λ out pend m g. (beat-front-ticks s.beat (hearing s).state s.port pend a.heard_valid (able-marked s a) m g.0, beat-room-ticks s.beat (hearing s).state s.port pend a.heard_valid (able-marked s a) m g.0 g.1)) [] pend f) [
  | inl t ↦ t.1
  | inr t ↦ contrary t.0 r
]

-- ---- both ends

-- what the wire gives, and what stays on it
pub split : (s : Side) → signals_of s.wire ≡ arrivals s ++ signals_of (leftovers s)
split s = go s.gives
  where
    go :
        (b : Bool) → signals_of s.wire ≡ (if b then signals_of s.wire else [])
        ++ signals_of (if b then [] else map age_signal s.wire)
    go true = sym (append-nil (signals_of s.wire))
    go false = sym (signals-older s.wire)

module _
    (d : ℕ) (x y : Side) (j : Pair d x y) (a : Able x) (b : Able y)
    (child : leads_down x.node.view.ports x.port ≡ true)
    (parent : is_port y.node.view.parent y.port ≡ true)
    (l : Lined x.node x.port (signals_of x.wire) y.node (signals_of y.wire)) where
  coming : sent_on x.port x.inbox ++ signals_of (leftovers y) ≡ signals_of y.wire
  coming = ap (λ ss. ss ++ signals_of (leftovers y)) j.comes ∙ sym (split y)

  going : sent_on y.port y.inbox ++ signals_of (leftovers x) ≡ signals_of x.wire
  going = ap (λ ss. ss ++ signals_of (leftovers x)) j.goes ∙ sym (split x)

  -- the wire down, once the node above took its turn
  down-whole :
      signals_of x.wire ++ departures x ≡ sent_on y.port y.inbox ++ signals_of (wire_after x)
  down-whole =
      ap (λ ss. ss ++ departures x) (sym going) ∙ append_assoc (sent_on y.port y.inbox) (signals_of (leftovers x)) (departures x)
      ∙ ap (λ ss. sent_on y.port y.inbox ++ ss) (sym (after_signals x))

  up-whole : signals_of y.wire ++ departures y ≡ sent_on x.port x.inbox ++ signals_of (wire_after y)
  up-whole =
      ap (λ ss. ss ++ departures y) (sym coming) ∙ append_assoc (sent_on x.port x.inbox) (signals_of (leftovers y)) (departures y)
      ∙ ap (λ ss. sent_on x.port x.inbox ++ ss) (sym (after_signals y))

  -- first the node above
  above-first :
      Taken x (λ z o. Above x.port y.node z o (signals_of (leftovers y)))
      (Comes (parent_mode (is_ready y.node.view.phase) y.node.view.granted) y.node.list.items)
      (signals_of x.wire)
  above-first = above-turn x a y.node (signals_of x.wire) (signals_of (leftovers y)) (child, subst (λ ss. Lined x.node x.port (signals_of x.wire) y.node ss) (sym coming) l)

  then-below :
      Above x.port y.node (ticking x).state (signals_of x.wire ++ departures x)
      (signals_of (leftovers y)) →
      Taken y (λ z o. Below y.port (ticking x).state x.port z o (signals_of (wire_after x))) (Comes (child_mode (is_asked (ticking x).state x.port) (is_named (ticking x).state x.port)) (ticking x).state.list.items) (signals_of (leftovers y))
  then-below t = below-turn y b (ticking x).state x.port (signals_of (leftovers y)) (signals_of (wire_after x)) (parent, subst (λ ss. Lined (ticking x).state x.port ss y.node (signals_of (leftovers y))) down-whole t.1)

  -- first the node below
  below-first :
      Taken y (λ z o. Below y.port x.node x.port z o (signals_of (leftovers x)))
      (Comes (child_mode (is_asked x.node x.port) (is_named x.node x.port)) x.node.list.items)
      (signals_of y.wire)
  below-first = below-turn y b x.node x.port (signals_of y.wire) (signals_of (leftovers x)) (parent, subst (λ ss. Lined x.node x.port ss y.node (signals_of y.wire)) (sym going) l)

  then-above :
      Below y.port x.node x.port (ticking y).state (signals_of y.wire ++ departures y)
      (signals_of (leftovers x)) →
      Taken x (λ z o. Above x.port (ticking y).state z o (signals_of (wire_after y))) (Comes (parent_mode (is_ready (ticking y).state.view.phase) (ticking y).state.view.granted) (ticking y).state.list.items) (signals_of (leftovers x))
  then-above t = above-turn x a (ticking y).state (signals_of (leftovers x)) (signals_of (wire_after y)) (child, subst (λ ss. Lined x.node x.port (signals_of (leftovers x)) (ticking y).state ss) up-whole t.1)

  -- the line afterwards, where neither node began a reset
  pub lined-turn :
      is_resetting (hearing x).state.view.phase ≡ false →
      is_resetting (hearing y).state.view.phase ≡ false →
      Lined (ticking x).state x.port (signals_of (wire_after x))
      (ticking y).state (signals_of (wire_after y))
  lined-turn rx ry = elim above-first [
    | inl t ↦ elim (then-below t.1) [
      | inl u ↦ subst (λ ss. Lined (ticking x).state x.port (signals_of (wire_after x)) (ticking y).state ss) (sym (after_signals y)) u.1.1
      | inr u ↦ contrary u.0 ry
    ]
    | inr t ↦ contrary t.0 rx
  ]

  -- what then comes to the node above, and to the node below
  pub above-front :
      is_resetting (hearing x).state.view.phase ≡ false →
      Comes (child_mode (is_asked (ticking x).state x.port) (is_named (ticking x).state x.port))
      (ticking x).state.list.items (signals_of (wire_after y))
  above-front rx = subst (Comes (child_mode (is_asked (ticking x).state x.port) (is_named (ticking x).state x.port)) (ticking x).state.list.items) (sym (after_signals y)) (elim above-first [
    | inl t ↦ elim (then-below t.1) [ inl u ↦ (u.1.1.fits_up, u.1.1.room_up) | inr u ↦ u.1 ]
    | inr t ↦ contrary t.0 rx
  ])

  pub below-front :
      is_resetting (hearing y).state.view.phase ≡ false →
      Comes (parent_mode (is_ready (ticking y).state.view.phase) (ticking y).state.view.granted)
      (ticking y).state.list.items (signals_of (wire_after x))
  below-front ry = subst (Comes (parent_mode (is_ready (ticking y).state.view.phase) (ticking y).state.view.granted) (ticking y).state.list.items) (sym (after_signals x)) (elim below-first [
    | inl t ↦ elim (then-above t.1) [ inl u ↦ (u.1.1.fits_down, u.1.1.room_down) | inr u ↦ u.1 ]
    | inr t ↦ contrary t.0 ry
  ])
