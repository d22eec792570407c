-- A turn keeps lists and IDs in the order of the walk, in a component all of whose nodes are in
-- self identify or A0.
use Rattle.std.proofs.Common.{◌≡◌, inl, inr, ℕ, ◌+◌, ◌<◌, Bool, true, false, List, [], ◌++◌, map, length, Option, Some, None, slice_get, refl, sym, ◌∙◌, ap, subst, arith, true≢false, if◌then◌else◌}
use Rattle.std.proofs.lemmas.List.{append_assoc}
use Rattle.std.proofs.lemmas.Option.{slice_get_within}
use Rattle.outcomes.proofs.Common.{contrary, Node, group, node_count, Tree, End, Wiring, far, ports_of, Holds, IsClosed, numbers, mark, place, emit, Phase, Signal, NodeState, coin, is_connected, sent_on, is_resetting, hears_packets, shown_attrs, shown_node, PortNode, Row, raise_timer, row_of, does, next_row, tick, age_wire, gives, age_signal, CableWorld, wire_of, inbox, turn_at, turn, hear_all, signals_of, has_reset, IsLawful, cabling-after, node-after, some-same, side, side-wire, before, turn-state, comes, hearing, ticking, arrivals, leftovers, departures, after_signals, no-packets, joined-of, IsChildCable, is_ready, is_asked, is_named, silent, quads_in, has_grant, has_done, parent_mode, child_mode, mode, fits, Lined, IsIdentifying, place_now, RootWalk, IsNumbered, AreIdentifying, end_at}
use Rattle.port_state.specs.declared.signal.Phase.TheVariants as phase
use Rattle.cable_world.specs.Turn.{signals_from}
use Rattle.cable_world.proofs.Lemmas.{hears, hear-came, inbox-at, port-there}
use Rattle.outcomes.specs.Messages as message
use Rattle.outcomes.proofs.identify.Messages.{IsKind, grants, dones, behind}
use Rattle.outcomes.proofs.identify.Lines.{no-grant-up, no-done-down}
use Rattle.outcomes.proofs.identify.OneMessage.{end-of, two-parts}
use Rattle.outcomes.proofs.identify.IdentifiesTurn.{Told}
use Rattle.outcomes.proofs.identify.IdentifyingTurn.{told}
use Rattle.outcomes.proofs.identify.LinedTicks.{beat-ticks-on, beat-ticks-parent}
use Rattle.outcomes.proofs.identify.LateRows.{LateRow, rests, asks_next, names_now, late-row}
use Rattle.outcomes.proofs.identify.LinedTurn.{Able, split, above-turn, below-turn}
use Rattle.outcomes.proofs.identify.ListsFollow.{IsAbove, one-above}
use Rattle.outcomes.proofs.identify.MarksKept.{hears-late}
use Rattle.outcomes.proofs.identify.Ports.{child-role}
use Rattle.outcomes.proofs.numbers.NodeMessages.{Owes, silent-more, not-then, speaks-so, mute-so, as-parent, as-child}
use Rattle.outcomes.proofs.numbers.Turning.{Marks, Goes-on, Heard-so, goes-along, hears-all, Ticks-so, beat-ticks-so}
use Rattle.port_state.specs.Machine.{beat, on_beat}

-- ---- signals

given-reset :
    (g : Bool) (ss : List Signal) → has_reset (if g then ss else []) ≡ true → has_reset ss ≡ true
given-reset true ss e = e
given-reset false ss e = absurd (true≢false (sym e))

-- ---- ticks

ticks-attrs :
    (coin : Bool) (x : NodeState) → hears_packets x.view.phase ≡ true →
    shown_attrs (tick coin x).state ≡ shown_attrs x
unfolding tick
ticks-attrs coin x h = go (next_row x) (late-row x h)
  where
    go :
        (r : Row) → LateRow (raise_timer x) r →
        shown_attrs (does coin r (raise_timer x)).state ≡ shown_attrs x
    go r rests = refl
    go r (asks_next k a) = refl
    go r (names_now n) = refl

-- a node in A0 does nothing more
pub ticks-ready :
    (coin : Bool) (x : NodeState) → is_ready x.view.phase ≡ true →
    is_ready (tick coin x).state.view.phase ≡ true
unfolding tick
ticks-ready coin x r = go x.view.phase refl r
  where
    go :
        (f : Phase) → x.view.phase ≡ f → is_ready f ≡ true →
        is_ready (does coin (row_of f (raise_timer x)) (raise_timer x)).state.view.phase ≡ true
    go phase.Ready e r = ap is_ready e
    go f e r = absurd cc

-- or the clock misses the turn
beat-ticks-attrs :
    (b : Option Bool) (x : NodeState) → hears_packets x.view.phase ≡ true →
    shown_attrs (on_beat b x).state ≡ shown_attrs x
beat-ticks-attrs None x h = refl
beat-ticks-attrs (Some coin) x h = ticks-attrs coin x h

pub beat-ticks-ready :
    (b : Option Bool) (x : NodeState) → is_ready x.view.phase ≡ true →
    is_ready (on_beat b x).state.view.phase ≡ true
beat-ticks-ready None x r = r
beat-ticks-ready (Some coin) x r = ticks-ready coin x r

-- ---- the component

-- what is under way to a port, by its far end
abbrev old : CableWorld → Option End → List Signal
old w None = []
old w (Some b) = signals_of (wire_of w b).signals

-- and what stays under way in a turn
abbrev left : CableWorld → Option End → List Signal
left w None = []
left w (Some b) =
    signals_of (if gives w.delay (age_wire (wire_of w b)) then [] else map age_signal
    (wire_of w b).signals)

module _
    (w : CableWorld) (l : IsLawful w) (i : IsIdentifying w) (set root : ℕ) (t : Tree)
    (closed : IsClosed w.cabling set) (walk : RootWalk w set root t)
    (all : AreIdentifying w set) where
  abbrev box : ℕ → List (ℕ × Signal)
  box k = inbox w 0 (ports_of w.cabling k)

  abbrev marks : ℕ → ℕ → ℕ
  marks = mark w.cabling root t 0

  -- no Reset comes
  pub still-there :
      (k : ℕ) (x : PortNode) → Holds set k → slice_get w.nodes k ≡ Some x →
      hears_packets (hear_all (box k) x.state).state.view.phase ≡ true
  still-there k x h at = elim (hears w k x l.well_formed at).cases [
    | inl s ↦ ap hears_packets s.phase ∙ all k x h at
    | inr c ↦ absurd (came (hear-came (box k) x.state c.before (ap is_resetting c.phase)))
  ]
    where
      came :
          (p : ℕ) × (is_connected x.state.view.ports p ≡ true)
          × (has_reset (sent_on p (box k)) ≡ true) → ⊥
      came found =
          let a : End = end_at k found.0 in
          let b =
          end-of (far w.cabling a) (sym ((l.well_formed.nodes k x at).connected found.0)
          ∙ found.1) in
          let n = joined-of w a b.0 l.well_formed b.1 in
          let back : far w.cabling b.0 ≡ Some a = l.well_formed.cabling.both_ways a b.0 b.1 in
          let there : has_reset (signals_of (wire_of w b.0).signals) ≡ true =
          given-reset (gives w.delay (age_wire (wire_of w b.0)))
          (signals_of (wire_of w b.0).signals) (sym (ap has_reset (comes w b.0 a b.1)) ∙ found.2) in
          no-packets n.other.state.view.phase
          ((l.coupled.cables b.0 a n.other x back n.other_at at).reset there)
          (all b.0.node n.other (closed a b.0 b.1 h) n.other_at)

  pub stays-on :
      (k : ℕ) (x : PortNode) → Holds set k → slice_get w.nodes k ≡ Some x →
      hears_packets (on_beat (beat x) (hear_all (box k) x.state).state).state.view.phase ≡ true
  stays-on k x h at =
      beat-ticks-on (beat x) (hear_all (box k) x.state).state (still-there k x h at)

  marks-of :
      (k : ℕ) (x : PortNode) → Holds set k → slice_get w.nodes k ≡ Some x →
      Marks x.state.ports (emit t) (marks k) (shown_node x.state) x.state
  marks-of k x h at = record {
    flat = λ p q le most none. walk.flat k p q x h at le most none;
    below = λ j d.
        let v = (l.well_formed.nodes k x at).valid in
        let p =
        port-there x.state j (child-role x.state j v (hears-late x.state.view.phase (all k x h at))
        d).1 in
        omega (arith, slice_get_within x.state.view.ports j p.0 p.1, v.bounded.views);
    shown = refl;
  }

  adds :
      (k : ℕ) (x : PortNode) → Holds set k → slice_get w.nodes k ≡ Some x →
      emit t (marks k x.state.ports + 1) ≡ emit t (marks k x.state.ports)
      ++ group (shown_node x.state) (marks k x.state.ports)
  adds k x h at =
      subst (λ (n : ℕ). emit t (n + 1) ≡ emit t n ++ group (shown_node x.state) n)
      (sym (walk.last k x at)) (walk.next k x h at)

  place-within : (k : ℕ) → Holds set k → place_now w root t k < length (numbers w.cabling root t)
  place-within k h =
      slice_get_within (numbers w.cabling root t) (place_now w root t k) k (walk.marked.at k h)

  counted :
      (k : ℕ) (x : PortNode) → Holds set k → slice_get w.nodes k ≡ Some x →
      node_count (emit t (marks k x.state.ports)) ≡ marks k x.state.ports
  counted k x h at =
      walk.counts (marks k x.state.ports) (omega (arith, walk.last k x at, place-within k h))

  node-so :
      (k : ℕ) (x : PortNode) → Holds set k → slice_get w.nodes k ≡ Some x → (pend : ℕ → List Signal)
      → ((j : ℕ) → fits (mode x.state j) (sent_on j (box k) ++ pend j) ≡ true) →
      Goes-on x.state.ports (emit t) (marks k) (shown_node x.state)
      x.state (λ j. sent_on j (box k) ++ pend j) →
      Goes-on x.state.ports (emit t) (marks k) (shown_node x.state)
      (on_beat (beat x) (hear_all (box k) x.state).state).state pend
      × Ticks-so x.state.ports (emit t) (marks k) (shown_node x.state) x.state
      (on_beat (beat x) (hear_all (box k) x.state).state).state
  node-so k x h at pend f g =
      let n = x.state.ports in
      let v = (l.well_formed.nodes k x at).valid in
      let o =
      hears-all n (emit t) (marks k) (shown_node x.state) (box k) x.state pend v (i.nodes k x at)
      (all k x h at) (marks-of k x h at) (still-there k x h at) f g in
      let r =
      beat-ticks-so n (emit t) (marks k) (shown_node x.state) (beat x)
      (hear_all (box k) x.state).state pend o.0.valid o.0.marked (still-there k x h at) o.0.marks
      o.2 (adds k x h at) (counted k x h at) o.1 in (
        r.0,
        record {
          asks = λ q a b. r.1.asks q (o.0.asked q ∙ a) b;
          names = λ a b. r.1.names (ap is_ready o.0.stays.phase ∙ a) b;
        },
      )

  pub nothing-comes : (k j : ℕ) → far w.cabling (end_at k j) ≡ None → sent_on j (box k) ≡ []
  nothing-comes k j none =
      let z : 0 + j ≡ j = omega arith in
      subst (λ n. sent_on n (box k) ≡ signals_from w (far w.cabling (end_at k j))) z
      (inbox-at w 0 j (ports_of w.cabling k)) ∙ ap (signals_from w) none

  module _ (num : IsNumbered w set root t) where
    old-so :
        (k : ℕ) (x : PortNode) → Holds set k → slice_get w.nodes k ≡ Some x →
        Goes-on x.state.ports (emit t) (marks k) (shown_node x.state)
        x.state (λ j. old w (far w.cabling (end_at k j)))
    old-so k x h at = record {
      id = λ r. num.ids k x h at r ∙ ap (λ (n : ℕ). Some n) (sym (walk.last k x at));
      turn = λ g u p le st. num.turns k p x h at g u le st;
      grant = λ j.
          from-far has_grant (emit t (marks k 0)) refl j
          (λ b e. num.grants b (end_at k j) x h e at) (far w.cabling (end_at k j)) refl;
      done = λ j.
          from-far has_done (emit t (marks k (j + 1))) refl j
          (λ b e. num.dones b (end_at k j) x h e at) (far w.cabling (end_at k j)) refl;
      last = λ r o. num.last k x h at r o ∙ ap (λ (n : ℕ). emit t (n + 1)) (sym (walk.last k x at));
    }
      where
        from-far :
            (has : List Signal → Bool) (end : List ℕ) → has [] ≡ false → (j : ℕ) →
            ((b : End) → far w.cabling (end_at k j) ≡ Some b →
            Owes has x.state.list.items end (signals_of (wire_of w b).signals)) →
            (o : Option End) → far w.cabling (end_at k j) ≡ o →
            Owes has x.state.list.items end (old w o)
        from-far has end none j there None e g = contrary g none
        from-far has end none j there (Some b) e g = there b e g

    whole-old :
        (k j : ℕ) (x : PortNode) (o : Option End) → far w.cabling (end_at k j) ≡ o →
        old w o ≡ sent_on j (box k) ++ left w o
    whole-old k j x None e = sym (ap (λ ss. ss ++ []) (nothing-comes k j e))
    whole-old k j x (Some b) e =
        split (side w b x) ∙ ap (λ ss. ss ++ left w (Some b)) (sym (comes w b (end_at k j) e))

    old-fits :
        (k j : ℕ) (x : PortNode) → Holds set k → slice_get w.nodes k ≡ Some x → (o : Option End) →
        far w.cabling (end_at k j) ≡ o → fits (mode x.state j) (old w o) ≡ true
    old-fits k j x h at None e = refl
    old-fits k j x h at (Some b) e =
        let n = joined-of w (end_at k j) b l.well_formed e in
        (i.cables (end_at k j) b x n.other e at n.other_at).front (all k x h at)

    -- whom a node asks, and what it has when it does; what it has when it identifies itself
    so-far :
        (k : ℕ) (x : PortNode) → Holds set k → slice_get w.nodes k ≡ Some x →
        Ticks-so x.state.ports (emit t) (marks k) (shown_node x.state)
        x.state (on_beat (beat x) (hear_all (box k) x.state).state).state
    so-far k x h at =
        let g = old-so k x h at in
        let same : (j : ℕ) → old w (far w.cabling (end_at k j)) ≡ sent_on j (box k) ++ left w
        (far w.cabling (end_at k j)) = λ j. whole-old k j x (far w.cabling (end_at k j)) refl in
        (node-so k x h at (λ j. left w (far w.cabling (end_at k j)))
        (λ j. subst (λ ss. fits (mode x.state j) ss ≡ true) (same j)
        (old-fits k j x h at (far w.cabling (end_at k j)) refl))
        (goes-along x.state.ports (emit t) (marks k) (shown_node x.state) x.state
        (λ j. old w (far w.cabling (end_at k j)))
        (λ j. sent_on j (box k) ++ left w (far w.cabling (end_at k j))) same g)).1

    -- ---- a cable, once the node at its far end took its turn

    record Owed (k j : ℕ) (x : PortNode) (ss : List Signal) : Type 0 where
      fitting : fits (mode x.state j) ss ≡ true
      grant : Owes has_grant x.state.list.items (emit t (marks k 0)) ss
      done : Owes has_done x.state.list.items (emit t (marks k (j + 1))) ss

    module _
        (a b : End) (x y : PortNode) (h : Holds set a.node) (e : far w.cabling a ≡ Some b)
        (at_x : slice_get w.nodes a.node ≡ Some x) (at_y : slice_get w.nodes b.node ≡ Some y) where
      back : far w.cabling b ≡ Some a
      back = l.well_formed.cabling.both_ways a b e

      h_y : Holds set b.node
      h_y = closed a b e h

      both : Told w.delay (side w a x) (side w b y)
      both = told w l i a b x y e at_x at_y

      able-y : Able (side w b y)
      able-y = record {
        valid = both.pair.other.valid;
        heard_valid = both.pair.other.hears.valid;
        marked = both.other.marked;
        hears = all b.node y h_y at_y;
        comes = both.other.comes (all b.node y h_y at_y);
        room = both.other.room (all b.node y h_y at_y);
      }

      going :
          sent_on b.port (box b.node) ++ signals_of (leftovers (side w a x))
          ≡ signals_of (wire_of w a).signals
      going =
          ap (λ ss. ss ++ signals_of (leftovers (side w a x))) both.pair.goes
          ∙ sym (split (side w a x))

      abbrev there : List Signal
      there = signals_of (wire_of w b).signals

      abbrev now : List Signal
      now = departures (side w b y)

      -- the node there is the parent
      from-above : IsAbove w b a y x → Owed a.node a.port x (there ++ now)
      from-above r =
          elim (above-turn (side w b y) able-y x.state there (signals_of (leftovers (side w a x)))
          (r.child, subst (λ ss. Lined y.state b.port there x.state ss) (sym going) r.line)) [
            | inl u ↦ owed u.1.1
            | inr u ↦
                absurd (no-packets (hearing (side w b y)).state.view.phase u.0
                (still-there b.node y h_y at_y))
          ]
        where
          cable : IsChildCable w b a
          cable = record {
            joined = back;
            above = y;
            above_at = at_y;
            child = r.child;
            below = x;
            below_at = at_x;
            parent = r.parent;
          }

          granted :
              Lined (ticking (side w b y)).state b.port (there ++ now)
              x.state (signals_of (leftovers (side w a x))) → has_grant (there ++ now) ≡ true →
              (g : Bool) → has_grant there ≡ g →
              message.kept x.state.list.items (quads_in (there ++ now)) ≡ emit t (marks a.node 0)
          granted line f true g =
              let mode = parent_mode (is_ready x.state.view.phase) x.state.view.granted in
              silent-more x.state.list.items there now
              (behind grants mode there now line.fits_down g)
              ∙ num.grants b a x h e at_x g
          granted line f false g =
              let one =
              two-parts (is_asked (ticking (side w b y)).state b.port) x.state.view.granted
              (sym line.granting ∙ f) in
              let before-it : is_asked y.state b.port ≡ false =
              not-then (is_asked y.state b.port) x.state.view.granted (sym r.line.granting ∙ g)
              one.1 in
              let none : quads_in (signals_of (leftovers (side w a x))) ≡ [] =
              line.no_up (mute-so x.state.view.granted
              (is_named (ticking (side w b y)).state b.port) one.1) in
              sym line.agree ∙ ap (message.kept (ticking (side w b y)).state.list.items) none
              ∙ (so-far b.node y h_y at_y).asks b.port before-it one.0
              ∙ ap (emit t) (sym (walk.along b a h_y cable).0)

          owed :
              Lined (ticking (side w b y)).state b.port (there ++ now)
              x.state (signals_of (leftovers (side w a x))) → Owed a.node a.port x (there ++ now)
          owed line = record {
            fitting = as-parent x.state a.port (there ++ now) r.parent line.fits_down;
            grant = λ f. granted line f (has_grant there) refl;
            done = λ f. contrary f (no-done-down line);
          }

      -- or a child
      from-below : IsAbove w a b x y → Owed a.node a.port x (there ++ now)
      from-below r =
          elim (below-turn (side w b y) able-y x.state a.port there
          (signals_of (leftovers (side w a x)))
          (r.parent, subst (λ ss. Lined x.state a.port ss y.state there) (sym going) r.line)) [
            | inl u ↦ owed u.1.1
            | inr u ↦
                absurd (no-packets (hearing (side w b y)).state.view.phase u.0
                (still-there b.node y h_y at_y))
          ]
        where
          cable : IsChildCable w a b
          cable = record {
            joined = e;
            above = x;
            above_at = at_x;
            child = r.child;
            below = y;
            below_at = at_y;
            parent = r.parent;
          }

          named :
              Lined x.state a.port (signals_of (leftovers (side w a x)))
              (ticking (side w b y)).state (there ++ now) → has_done (there ++ now) ≡ true →
              (g : Bool) → has_done there ≡ g →
              message.kept x.state.list.items (quads_in (there ++ now))
              ≡ emit t (marks a.node (a.port + 1))
          named line f true g =
              let mode = child_mode (is_asked x.state a.port) (is_named x.state a.port) in
              silent-more x.state.list.items there now (behind dones mode there now line.fits_up g)
              ∙ num.dones b a x h e at_x g
          named line f false g =
              let one =
              two-parts (is_ready (ticking (side w b y)).state.view.phase) (is_named x.state a.port)
              (sym line.naming ∙ f) in
              let before-it : is_ready y.state.view.phase ≡ false =
              not-then (is_ready y.state.view.phase) (is_named x.state a.port)
              (sym r.line.naming ∙ g) one.1 in
              let none : quads_in (signals_of (leftovers (side w a x))) ≡ [] =
              line.no_down (speaks-so (ticking (side w b y)).state.view.granted
              (is_named x.state a.port) (line.readies one.0) one.1) in
              line.agree ∙ ap (message.kept (ticking (side w b y)).state.list.items) none
              ∙ (so-far b.node y h_y at_y).names before-it one.0
              ∙ ap (λ (n : ℕ). emit t (n + 1)) (walk.last b.node y at_y)
              ∙ ap (emit t) (sym (walk.along a b h cable).1)

          owed :
              Lined x.state a.port (signals_of (leftovers (side w a x)))
              (ticking (side w b y)).state (there ++ now) → Owed a.node a.port x (there ++ now)
          owed line = record {
            fitting =
                as-child x.state a.port (there ++ now)
                (child-role x.state a.port (l.well_formed.nodes a.node x at_x).valid
                (hears-late x.state.view.phase (all a.node x h at_x)) r.child).0 line.fits_up;
            grant = λ f. contrary f (no-grant-up line);
            done = λ f. named line f (has_done there) refl;
          }

      -- the line, once the node above took its turn
      pub above-line :
          IsAbove w b a y x → Lined (ticking (side w b y)).state b.port (there ++ now)
          x.state (signals_of (leftovers (side w a x)))
      above-line r =
          elim (above-turn (side w b y) able-y x.state there (signals_of (leftovers (side w a x)))
          (r.child, subst (λ ss. Lined y.state b.port there x.state ss) (sym going) r.line)) [
            | inl u ↦ u.1.1
            | inr u ↦
                absurd (no-packets (hearing (side w b y)).state.view.phase u.0
                (still-there b.node y h_y at_y))
          ]

      from-either : Owed a.node a.port x (there ++ now)
      from-either =
          let either =
          one-above w l i a b x y e at_x at_y (all a.node x h at_x) (all b.node y h_y at_y) in
          elim either [ inl r ↦ from-below r | inr r ↦ from-above r ]

      -- behind a Grant or Done the other end sends nothing
      pub now-silent :
          {one : Signal} {test : Signal → Bool} {has : List Signal → Bool} →
          IsKind one test has → has there ≡ true → silent now ≡ true
      now-silent kind g = behind kind (mode x.state a.port) there now from-either.fitting g

      whole-new :
          there ++ now ≡ sent_on a.port (box a.node) ++ signals_of (wire_of (turn w) b).signals
      whole-new =
          ap (λ ss. ss ++ now) (split (side w b y)) ∙ append_assoc (arrivals (side w b y))
          (signals_of (leftovers (side w b y))) now
          ∙ ap (λ ss. arrivals (side w b y) ++ ss)
          (sym (ap signals_of (side-wire w b a y l.well_formed back at_y)
          ∙ after_signals (side w b y)))
          ∙ ap (λ ss. ss ++ signals_of (wire_of (turn w) b).signals) (sym (comes w b a e))

      one-end :
          Owed a.node a.port x (sent_on a.port (box a.node) ++ signals_of
          (wire_of (turn w) b).signals)
      one-end = subst (Owed a.node a.port x) whole-new from-either

    each-port :
        (k j : ℕ) (x : PortNode) → Holds set k → slice_get w.nodes k ≡ Some x → (o : Option End) →
        far w.cabling (end_at k j) ≡ o → Owed k j x (sent_on j (box k) ++ old (turn w) o)
    each-port k j x h at None e =
        subst (λ ss. Owed k j x (ss ++ [])) (sym (nothing-comes k j e))
        (record {
          fitting = refl;
          grant = λ f. absurd (true≢false (sym f));
          done = λ f. absurd (true≢false (sym f));
        })
    each-port k j x h at (Some b) e =
        let n = joined-of w (end_at k j) b l.well_formed e in
        one-end (end_at k j) b x n.other h e at n.other_at

    -- a node after its turn
    after-so :
        (k : ℕ) (x : PortNode) → Holds set k → slice_get w.nodes k ≡ Some x →
        Goes-on x.state.ports (emit t) (marks k) (shown_node x.state)
        (on_beat (beat x) (hear_all (box k) x.state).state).state
        (λ j. old (turn w) (far w.cabling (end_at k j)))
    after-so k x h at =
        let g = old-so k x h at in
        (node-so k x h at (λ j. old (turn w) (far w.cabling (end_at k j)))
        (λ j. (each-port k j x h at (far w.cabling (end_at k j)) refl).fitting)
        (record {
          id = g.id;
          turn = g.turn;
          grant = λ j. (each-port k j x h at (far w.cabling (end_at k j)) refl).grant;
          done = λ j. (each-port k j x h at (far w.cabling (end_at k j)) refl).done;
          last = g.last;
        })).0

    -- ---- the world

    record After (k : ℕ) (z : PortNode) : Type 0 where
      was : PortNode
      was_at : slice_get w.nodes k ≡ Some was
      goes :
          Goes-on was.state.ports (emit t) (marks k) (shown_node was.state)
          z.state (λ j. old (turn w) (far w.cabling (end_at k j)))

    after : (k : ℕ) (z : PortNode) → Holds set k → slice_get (turn w).nodes k ≡ Some z → After k z
    after k z h at =
        let x = before w k z l.well_formed at in
        let same : z.state ≡ (on_beat (beat x.0) (hear_all (box k) x.0.state).state).state =
        ap (λ (u : PortNode). u.state) x.2 ∙ turn-state (box k) x.0 in
        record {
          was = x.0;
          was_at = x.1;
          goes =
              subst (λ (u : NodeState). Goes-on x.0.state.ports (emit t) (marks k)
              (shown_node x.0.state) u (λ j. old (turn w) (far w.cabling (end_at k j)))) (sym same)
              (after-so k x.0 h x.1);
        }

    far-was : (a b : End) → far (turn w).cabling a ≡ Some b → far w.cabling a ≡ Some b
    far-was a b e = sym (ap (λ (d : Wiring). far d a) (cabling-after w)) ∙ e

    same-ports :
        (v : IsLawful (turn w)) (k : ℕ) (x z : PortNode) → slice_get w.nodes k ≡ Some x →
        slice_get (turn w).nodes k ≡ Some z → z.state.ports ≡ x.state.ports
    same-ports v k x z at_x at_z =
        sym (v.well_formed.nodes k z at_z).ports ∙ ap (λ (d : Wiring). length (ports_of d k))
        (cabling-after w) ∙ (l.well_formed.nodes k x at_x).ports

    -- what is owed at a port, said of the cabling after the turn
    owed-then :
        (has : List Signal → Bool) (b c : End) (z : PortNode) (p : ℕ) →
        far (turn w).cabling c ≡ Some b →
        Owes has z.state.list.items (emit t (marks c.node p)) (old (turn w) (far w.cabling c)) →
        Owes has z.state.list.items (emit t (mark (turn w).cabling root t 0 c.node p))
        (signals_of (wire_of (turn w) b).signals)
    owed-then has b c z p e o =
        let list = z.state.list.items in
        let comes = signals_of (wire_of (turn w) b).signals in
        subst (λ (d : Wiring). Owes has list (emit t (mark d root t 0 c.node p)) comes)
        (sym (cabling-after w))
        (subst (λ (f : Option End). Owes has list (emit t (marks c.node p)) (old (turn w) f))
        (far-was c b e) o)

    pub turn-numbered : IsLawful (turn w) → IsNumbered (turn w) set root t
    turn-numbered v = record {
      ids = λ k z h at r.
          let a = after k z h at in
          subst (λ (d : Wiring). z.state.view.id ≡ Some (place d (mark d root t 0) k))
          (sym (cabling-after w)) (a.goes.id r ∙ ap (λ (n : ℕ). Some n)
          (walk.last k a.was a.was_at));
      turns = λ k p z h at g u le st.
          let a = after k z h at in
          subst (λ (d : Wiring). z.state.list.items ≡ emit t (mark d root t 0 k p))
          (sym (cabling-after w)) (a.goes.turn g u p
          (omega (arith, le, same-ports v k a.was z a.was_at at)) st);
      grants = λ b c z h e at.
          owed-then has_grant b c z 0 e ((after c.node z h at).goes.grant c.port);
      dones = λ b c z h e at.
          owed-then has_done b c z (c.port + 1) e ((after c.node z h at).goes.done c.port);
      last = λ k z h at r o.
          let a = after k z h at in
          subst (λ (d : Wiring). z.state.list.items ≡ emit t (place d (mark d root t 0) k + 1))
          (sym (cabling-after w)) (a.goes.last r o ∙ ap (λ (n : ℕ). emit t (n + 1))
          (walk.last k a.was a.was_at));
    }

    -- ---- what stays

    pub heard-goes :
        (k : ℕ) (x : PortNode) → Holds set k → slice_get w.nodes k ≡ Some x →
        Goes-on x.state.ports (emit t) (marks k) (shown_node x.state)
        (hear_all (box k) x.state).state (λ j. left w (far w.cabling (end_at k j)))
    heard-goes k x h at =
        let same : (j : ℕ) → old w (far w.cabling (end_at k j)) ≡ sent_on j (box k) ++ left w
        (far w.cabling (end_at k j)) = λ j. whole-old k j x (far w.cabling (end_at k j)) refl in
        (hears-all x.state.ports (emit t) (marks k) (shown_node x.state) (box k) x.state
        (λ j. left w (far w.cabling (end_at k j))) (l.well_formed.nodes k x at).valid
        (i.nodes k x at) (all k x h at) (marks-of k x h at) (still-there k x h at)
        (λ j. subst (λ ss. fits (mode x.state j) ss ≡ true) (same j)
        (old-fits k j x h at (far w.cabling (end_at k j)) refl))
        (goes-along x.state.ports (emit t) (marks k) (shown_node x.state) x.state
        (λ j. old w (far w.cabling (end_at k j)))
        (λ j. sent_on j (box k) ++ left w (far w.cabling (end_at k j))) same (old-so k x h at))).1

    pub heard-so :
        (k : ℕ) (x : PortNode) → Holds set k → slice_get w.nodes k ≡ Some x →
        Heard-so x.state.ports (emit t) (marks k) (shown_node x.state)
        x.state (hear_all (box k) x.state).state
    heard-so k x h at =
        let same : (j : ℕ) → old w (far w.cabling (end_at k j)) ≡ sent_on j (box k) ++ left w
        (far w.cabling (end_at k j)) = λ j. whole-old k j x (far w.cabling (end_at k j)) refl in
        (hears-all x.state.ports (emit t) (marks k) (shown_node x.state) (box k) x.state
        (λ j. left w (far w.cabling (end_at k j))) (l.well_formed.nodes k x at).valid
        (i.nodes k x at) (all k x h at) (marks-of k x h at) (still-there k x h at)
        (λ j. subst (λ ss. fits (mode x.state j) ss ≡ true) (same j)
        (old-fits k j x h at (far w.cabling (end_at k j)) refl))
        (goes-along x.state.ports (emit t) (marks k) (shown_node x.state) x.state
        (λ j. old w (far w.cabling (end_at k j)))
        (λ j. sent_on j (box k) ++ left w (far w.cabling (end_at k j))) same (old-so k x h at))).0

    pub record Stayed (k : ℕ) (x z : PortNode) : Type 0 where
      pub hears : hears_packets z.state.view.phase ≡ true
      pub parent : z.state.view.parent ≡ x.state.view.parent
      pub attrs : shown_attrs z.state ≡ shown_attrs x.state
      pub ready : is_ready x.state.view.phase ≡ true → is_ready z.state.view.phase ≡ true

    pub stayed :
        (k : ℕ) (x z : PortNode) → Holds set k → slice_get w.nodes k ≡ Some x →
        slice_get (turn w).nodes k ≡ Some z → Stayed k x z
    stayed k x z h at at_z =
        let y = (hear_all (box k) x.state).state in
        let o = heard-so k x h at in
        let same : z.state ≡ (on_beat (beat x) y).state =
        ap (λ (u : PortNode). u.state)
        (some-same z (turn_at w k x).node (sym at_z ∙ node-after w k x l.well_formed.count at))
        ∙ turn-state (box k) x in
        let here = still-there k x h at in
        record {
          hears = ap (λ (u : NodeState). hears_packets u.view.phase) same ∙ stays-on k x h at;
          parent =
              ap (λ (u : NodeState). u.view.parent) same ∙ beat-ticks-parent (beat x) y here
              ∙ o.stays.parent;
          attrs =
              ap shown_attrs same ∙ beat-ticks-attrs (beat x) y here ∙ ap (λ (n : Node). n.attrs)
              o.marks.shown;
          ready = λ r.
              ap (λ (u : NodeState). is_ready u.view.phase) same ∙ beat-ticks-ready (beat x) y
              (ap is_ready o.stays.phase ∙ r);
        }
