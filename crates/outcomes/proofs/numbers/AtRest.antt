-- What the walk gives a component that identifies itself: room for each next group, and at rest its
-- tree.
use Rattle.std.proofs.Common.{length-append, ◌≡◌, inl, inr, ℕ, zero, suc, ◌+◌, ◌-◌, ◌*◌, ◌<◌, ◌≤◌, Bool, true, false, not, ◌&&◌, ◌==◌, List, [], ◌∷◌, ◌++◌, length, Option, Some, None, slice_get, refl, sym, ◌∙◌, ap, subst, arith, true≢false, if◌then◌else◌}
use Rattle.std.specs.Prelude.{nat_le}
use Rattle.std.proofs.lemmas.Bool.{le-leb, and_parts, and_from, eq-eqb}
use Rattle.std.proofs.lemmas.Option.{slice_get_within}
use Rattle.outcomes.proofs.Common.{Node, group, node_count, Tree, emits, End, far, ports_of, Holds, IsClosed, numbers, emit, Phase, Signal, NodeState, coin, is_unnamed, lowest, sent_on, silent_step, hears_packets, hears, is_heard, on_signal, may_name, shown_node, own_group, PortNode, raise_timer, row_of, does, tick, age_wire, gives, CableWorld, wire_of, inbox, turn, hear_all, ComesOfPowerOn, signals_of, IsLawful, IsTree, before, hear-stays, turn-lawful, comes-lawful, turn-state, comes, no-packets, one-quiet, quiet-lawful, joined-of, comes-acyclic, quiet-acyclic, IsAcyclic, ResetsAreOverIn, AreIdentifying, is_ready, is_asked, is_named, is_message, silent, quads_in, has_grant, has_done, kept, IsIdentifying, place_now, IsSettling, IsAtRest, HoldSchedule, with_holds, quiet_after, end_at}
use Rattle.self_id.proofs.Lemmas.{three_packets}
use Rattle.port_state.specs.declared.signal.Phase.TheVariants as phase
use Rattle.port_state.specs.declared.signal.Signal.TheVariants as signal
use Rattle.port_state.proofs.Lemmas.{shown-is_node, shown-is_of}
use Rattle.cable_world.proofs.Lemmas.{port-there}
use Rattle.outcomes.proofs.numbers.HoldRests.{holds-settle, holds-rest}
use Rattle.outcomes.proofs.identify.Lines.{no-grant-up, no-done-down}
use Rattle.outcomes.proofs.identify.Ports.{child-role}
use Rattle.outcomes.specs.RootWalk.{IsNamed}
use Rattle.outcomes.proofs.identify.Hearing.{Stays, signal-stays, reset-heard}
use Rattle.outcomes.proofs.identify.IdentifyingTurn.{turn-identifying}
use Rattle.outcomes.proofs.identify.ListsFollow.{IsAbove, one-above}
use Rattle.outcomes.proofs.identify.MarksKept.{hears-late, all-named}
use Rattle.outcomes.proofs.identify.Messages.{kept-room, silent-quads}
use Rattle.outcomes.proofs.roots.Calm.{calm-in}
use Rattle.outcomes.proofs.roots.Named.{named-tree}
use Rattle.outcomes.proofs.numbers.NumberedTurn.{still-there, nothing-comes, heard-so, stayed}
use Rattle.outcomes.proofs.roots.RootWalk.{node-at}
use Rattle.outcomes.proofs.numbers.Settling.{Up, climbs, settles-on}
use Rattle.outcomes.proofs.identify.StaysIdentifying.{comes-identifying, quiet-identifying}
use Rattle.port_state.specs.Machine.{beat, on_beat}

-- ---- the room for a group

module _
    (w : CableWorld) (l : IsLawful w) (acyclic : IsAcyclic w) (i : IsIdentifying w)
    (set core root : ℕ) (t : Tree) (s : IsSettling w set core root t) where
  over : ResetsAreOverIn w set
  over = calm-in w l set s.component.closed s.all

  pub there : (k : ℕ) → Holds set k → (x : PortNode) × (slice_get w.nodes k ≡ Some x)
  there =
      node-at w l acyclic root set over core root s.component s.is_core s.small s.inside s.is_root

  group-short :
      (k id : ℕ) (x : PortNode) → slice_get w.nodes k ≡ Some x → length (own_group x.state id) ≤ 3
  group-short k id x at =
      let bounded = (l.well_formed.nodes k x at).valid.bounded in
      three_packets (shown_node x.state) id (shown-is_node x.state bounded)
      (shown-is_of x.state bounded)

  emit-short : (m : ℕ) → m ≤ length (numbers w.cabling root t) → length (emit t m) ≤ 3 * m
  emit-short zero le = omega (arith, ap length s.walk.none)
  emit-short (suc m) le =
      let c = s.walk.marked.covers m (omega (arith, le)) in
      let here : place_now w root t c.0 ≡ m = c.2 in
      let n = there c.0 c.1 in
      let add : emit t (m + 1) ≡ emit t m ++ own_group n.0.state m =
      subst (λ (j : ℕ). emit t (j + 1) ≡ emit t j ++ own_group n.0.state j) here
      (s.walk.next c.0 n.0 c.1 n.1) in
      let later : suc m ≡ m + 1 = omega arith in
      omega (
        arith,
        ap (λ (j : ℕ). length (emit t j)) later,
        ap length add,
        length-append (emit t m) (own_group n.0.state m),
        emit-short m (omega (arith, le)),
        group-short c.0 m n.0 n.1,
      )

  place-few : (k : ℕ) → Holds set k → place_now w root t k < length (numbers w.cabling root t)
  place-few k h =
      slice_get_within (numbers w.cabling root t) (place_now w root t k) k (s.walk.marked.at k h)

  -- a granted node without an unnamed child has what the nodes before it emitted, and room for its
  -- group
  pub has-prefix :
      (k : ℕ) (x : PortNode) → Holds set k → slice_get w.nodes k ≡ Some x →
      x.state.view.granted ≡ true → is_ready x.state.view.phase ≡ false →
      lowest is_unnamed x.state.view.ports ≡ None →
      x.state.list.items ≡ emit t (place_now w root t k)
  has-prefix k x h at g u low =
      let m = i.nodes k x at in
      let v = (l.well_formed.nodes k x at).valid in
      s.numbered.turns k x.state.ports x h at g u (omega arith) (record {
        named = λ j less d.
            all-named x.state v (hears-late x.state.view.phase (s.all k x h at)) low j d;
        unasked = λ j more. beyond j more (is_asked x.state j) refl;
      }) ∙ ap (emit t) (s.walk.last k x at)
    where
      beyond : (j : ℕ) → x.state.ports ≤ j → (b : Bool) → is_asked x.state j ≡ b → b ≡ false
      beyond j more false e = refl
      beyond j more true e =
          let p =
          port-there x.state j (child-role x.state j (l.well_formed.nodes k x at).valid
          (hears-late x.state.view.phase (s.all k x h at)) ((i.nodes k x at).asked j e)).1 in
          absurd (omega (
            arith,
            more,
            slice_get_within x.state.view.ports j p.0 p.1,
            (l.well_formed.nodes k x at).valid.bounded.views,
          ))

  pub room-for :
      (k : ℕ) (x : PortNode) → Holds set k → slice_get w.nodes k ≡ Some x → (y : NodeState) →
      shown_node y ≡ shown_node x.state → y.list.items ≡ emit t (place_now w root t k) →
      may_name y ≡ true
  room-for k x h at y shown prefix =
      let id = node_count y.list.items in
      let few = place-few k h in
      let many : id ≡ place_now w root t k =
      ap node_count prefix ∙ s.walk.counts (place_now w root t k) (omega (arith, few)) in
      let short = emit-short (place_now w root t k) (omega (arith, few)) in
      let own : length (own_group y id) ≡ length (own_group x.state id) =
      ap (λ (n : Node). length (group n id)) shown in
      and_from (nat_le id 62) (nat_le (length y.list.items + length (own_group y id)) 252)
      (le-leb id 62 (omega (arith, many, few, s.walk.few)))
      (le-leb (length y.list.items + length (own_group y id)) 252
      (omega (arith, ap length prefix, short, few, s.walk.few, own, group-short k id x at)))

  pub has-room :
      (k : ℕ) (x : PortNode) → Holds set k → slice_get w.nodes k ≡ Some x →
      x.state.view.granted ≡ true → is_ready x.state.view.phase ≡ false →
      lowest is_unnamed x.state.view.ports ≡ None → may_name x.state ≡ true
  has-room k x h at g u low = room-for k x h at x.state refl (has-prefix k x h at g u low)

  -- ---- at rest

  module _ (rest : IsAtRest w set) where
    up-same :
        (k : ℕ) (x : PortNode)
        (u : Up w l acyclic i set root s.component s.inside s.is_root s.all k x) →
        Holds set k → slice_get w.nodes k ≡ Some x → u.is.state.list.items ≡ x.state.list.items
    up-same k x u h at =
        let b : End = end_at k u.port in
        let back = l.well_formed.cabling.both_ways u.end b u.joined in
        let no-up : quads_in (signals_of (wire_of w b).signals) ≡ [] =
        silent-quads (signals_of (wire_of w b).signals) (rest.silent b u.end h back) in
        let no-down : quads_in (signals_of (wire_of w u.end).signals) ≡ [] =
        silent-quads (signals_of (wire_of w u.end).signals)
        (rest.silent u.end b u.inside_too u.joined) in
        sym (ap (kept u.is.state.list.items) no-up) ∙ u.above.line.agree
        ∙ ap (kept x.state.list.items) no-down

    root-list : s.is_root.node.state.list.items ≡ emits t
    root-list =
        s.numbered.last root s.is_root.node s.inside s.is_root.at
        (rest.ready root s.is_root.node s.inside s.is_root.at) s.is_root.parentless
        ∙ ap (emit t) s.walk.marked.last ∙ s.walk.all

    pub rest-lists :
        (k : ℕ) (x : PortNode) → Holds set k → slice_get w.nodes k ≡ Some x →
        x.state.list.items ≡ emits t
    rest-lists k x h at =
        climbs w l acyclic i set root s.component s.inside s.is_root s.all
        (λ j y. x.state.list.items ≡ y.state.list.items)
        (λ j y u h_j at_j same. same ∙ sym (up-same j y u h_j at_j))
        (acyclic.most - acyclic.rank k) k x (omega arith) h at refl
        ∙ root-list

    rest-named : IsNamed w set root t
    rest-named = record {
      ids = λ k x h at. s.numbered.ids k x h at (rest.ready k x h at);
      lists = rest-lists;
    }

    pub rest-tree : IsTree w set root t
    rest-tree =
        named-tree w l acyclic root set over core root s.component s.is_core s.small s.inside
        s.is_root t s.walk rest-named

-- ---- a turn at rest

pub silent-of :
    (ss : List Signal) → has_grant ss ≡ false → has_done ss ≡ false → quads_in ss ≡ [] →
    silent ss ≡ true
silent-of [] g d q = refl
silent-of (signal.Packet quad ∷ ss) g d q = absurd cc
silent-of (signal.Grant ∷ ss) g d q = absurd (true≢false g)
silent-of (signal.Done ∷ ss) g d q = absurd (true≢false d)
silent-of (signal.Reset ∷ ss) g d q = silent-of ss g d q
silent-of (signal.Idle ∷ ss) g d q = silent-of ss g d q
silent-of (signal.Parent ∷ ss) g d q = silent-of ss g d q
silent-of (signal.Child ∷ ss) g d q = silent-of ss g d q

signal-list :
    (k : ℕ) (s : Signal) (x : NodeState) → hears_packets x.view.phase ≡ true →
    hears_packets (on_signal k s x).state.view.phase ≡ true → is_message s ≡ false →
    (on_signal k s x).state.list.items ≡ x.list.items
unfolding on_signal
signal-list k s x h on t = go (is_heard k s x) on
  where
    heard-so :
        (s : Signal) → is_message s ≡ false → hears_packets (hears k s x).state.view.phase ≡ true →
        (hears k s x).state.list.items ≡ x.list.items
    heard-so signal.Reset t on = absurd (reset-heard k x h on)
    heard-so signal.Idle t on = refl
    heard-so signal.Parent t on = refl
    heard-so signal.Child t on = refl
    heard-so signal.Grant t on = refl
    heard-so (signal.Packet quad) t on = absurd (true≢false t)
    heard-so signal.Done t on = refl

    go :
        (b : Bool) →
        hears_packets (if b then hears k s x else silent_step x).state.view.phase ≡ true →
        (if b then hears k s x else silent_step x).state.list.items ≡ x.list.items
    go true on = heard-so s t on
    go false on = refl

first-level :
    (b : Bool) (s : Signal) (ss : List Signal) → b ≡ true → silent (if b then s ∷ ss else ss)
    ≡ true → is_message s ≡ false
first-level false s ss e h = absurd (true≢false (sym e))
first-level true s ss e h = go (is_message s) (and_parts (not (is_message s)) (silent ss) h).0
  where
    go : (c : Bool) → not c ≡ true → c ≡ false
    go true e = absurd (true≢false (sym e))
    go false e = refl

later-silent :
    (b : Bool) (s : Signal) (ss : List Signal) → silent (if b then s ∷ ss else ss) ≡ true →
    silent ss ≡ true
later-silent true s ss h = (and_parts (not (is_message s)) (silent ss) h).1
later-silent false s ss h = h

hears-no-list :
    (signals : List (ℕ × Signal)) (x : NodeState) → hears_packets x.view.phase ≡ true →
    hears_packets (hear_all signals x).state.view.phase ≡ true →
    ((j : ℕ) → silent (sent_on j signals) ≡ true) →
    (hear_all signals x).state.list.items ≡ x.list.items
hears-no-list [] x h on q = refl
hears-no-list (s ∷ rest) x h on q = elim (signal-stays s.0 s.1 x) [
  | inl t ↦ then-so t (hears-no-list rest (on_signal s.0 s.1 x).state)
  | inr t ↦
      absurd (no-packets (hear_all rest (on_signal s.0 s.1 x).state).state.view.phase
      (hear-stays rest (on_signal s.0 s.1 x).state t) on)
]
  where
    use-level : is_message s.1 ≡ false
    use-level = first-level (s.0 == s.0) s.1 (sent_on s.0 rest) (eq-eqb s.0 s.0 refl) (q s.0)

    then-so :
        Stays x (on_signal s.0 s.1 x).state →
        (hears_packets (on_signal s.0 s.1 x).state.view.phase ≡ true →
        hears_packets (hear_all rest (on_signal s.0 s.1 x).state).state.view.phase ≡ true →
        ((j : ℕ) → silent (sent_on j rest) ≡ true) →
        (hear_all rest (on_signal s.0 s.1 x).state).state.list.items
        ≡ (on_signal s.0 s.1 x).state.list.items)
        →
        (hear_all rest (on_signal s.0 s.1 x).state).state.list.items ≡ x.list.items
    then-so t rest-so =
        let n1 : hears_packets (on_signal s.0 s.1 x).state.view.phase ≡ true =
        ap hears_packets t.phase ∙ h in
        rest-so n1 on (λ j. later-silent (s.0 == j) s.1 (sent_on j rest) (q j)) ∙ signal-list s.0
        s.1 x h n1 use-level

ready-list :
    (coin : Bool) (x : NodeState) → is_ready x.view.phase ≡ true →
    (tick coin x).state.list.items ≡ x.list.items
unfolding tick
ready-list coin x r = go x.view.phase r
  where
    go :
        (f : Phase) → is_ready f ≡ true →
        (does coin (row_of f (raise_timer x)) (raise_timer x)).state.list.items ≡ x.list.items
    go phase.Ready r = refl
    go f r = absurd cc

beat-ready-list :
    (b : Option Bool) (x : NodeState) → is_ready x.view.phase ≡ true →
    (on_beat b x).state.list.items ≡ x.list.items
beat-ready-list None x r = refl
beat-ready-list (Some coin) x r = ready-list coin x r

-- ---- where all nodes of a component are in A0, with one list, it is at rest

pub mute-named : (g n : Bool) → n ≡ true → (g && not n) ≡ false
mute-named g n e = grind arith

module _
    (w : CableWorld) (l : IsLawful w) (i : IsIdentifying w) (set : ℕ)
    (closed : IsClosed w.cabling set) (all : AreIdentifying w set) (list : List ℕ)
    (ready : (k : ℕ) (x : PortNode) → Holds set k → slice_get w.nodes k
    ≡ Some x → is_ready x.state.view.phase ≡ true)
    (has : (k : ℕ) (x : PortNode) → Holds set k → slice_get w.nodes k ≡ Some x → x.state.list.items
    ≡ list)
  where
    none-added : (xs ys : List ℕ) → xs ≡ xs ++ ys → ys ≡ []
    none-added xs [] e = refl
    none-added xs (y ∷ ys) e = absurd (omega (arith, ap length e, length-append xs (y ∷ ys)))

    -- on a child cable nothing is under way, down or up
    both-silent :
        (a b : End) (x y : PortNode) → Holds set a.node → Holds set b.node →
        slice_get w.nodes a.node ≡ Some x → slice_get w.nodes b.node ≡ Some y →
        IsAbove w a b x y → (silent (signals_of (wire_of w a).signals) ≡ true)
        × (silent (signals_of (wire_of w b).signals) ≡ true)
    both-silent a b x y h_a h_b at_x at_y r =
        let granted : y.state.view.granted ≡ true = r.line.readies (ready b.node y h_b at_y) in
        let named : is_named x.state a.port ≡ true =
        (i.nodes a.node x at_x).all_named (ready a.node x h_a at_x) a.port r.child in
        let no-up : quads_in (signals_of (wire_of w b).signals) ≡ [] =
        r.line.no_up (mute-named y.state.view.granted (is_named x.state a.port) named) in
        let same : x.state.list.items ≡ y.state.list.items =
        has a.node x h_a at_x ∙ sym (has b.node y h_b at_y) in
        let joined : y.state.list.items ≡ y.state.list.items ++ quads_in
        (signals_of (wire_of w a).signals) =
        sym same ∙ sym (ap (kept x.state.list.items) no-up) ∙ r.line.agree
        ∙ kept-room y.state.list.items (quads_in (signals_of (wire_of w a).signals))
        r.line.room_down in
        let no-down : quads_in (signals_of (wire_of w a).signals) ≡ [] =
        none-added y.state.list.items (quads_in (signals_of (wire_of w a).signals)) joined in (
          silent-of (signals_of (wire_of w a).signals)
              (r.line.granting ∙ mute-named (is_asked x.state a.port) y.state.view.granted granted)
              (no-done-down r.line) no-down,
          silent-of (signals_of (wire_of w b).signals) (no-grant-up r.line)
              (r.line.naming ∙ mute-named (is_ready y.state.view.phase) (is_named x.state a.port)
              named) no-up,
        )

    pub rests-where : IsAtRest w set
    rests-where = record {
      ready = ready;
      silent = λ a b h e.
          let n = joined-of w a b l.well_formed e in
          let h_b : Holds set b.node = closed a b e h in
          elim (one-above w l i a b n.near n.other e n.near_at n.other_at
          (all a.node n.near h n.near_at) (all b.node n.other h_b n.other_at)) [
            | inl r ↦ (both-silent a b n.near n.other h h_b n.near_at n.other_at r).0
            | inr r ↦ (both-silent b a n.other n.near h_b h n.other_at n.near_at r).1
          ];
    }

module _
    (w : CableWorld) (l : IsLawful w) (acyclic : IsAcyclic w) (i : IsIdentifying w)
    (set core root : ℕ) (t : Tree) (s : IsSettling w set core root t) (rest : IsAtRest w set) where
  v-settles : IsSettling (turn w) set core root t
  v-settles = settles-on w l acyclic i set core root t s

  v-lawful : IsLawful (turn w)
  v-lawful = turn-lawful w l

  v-identifying : IsIdentifying (turn w)
  v-identifying = turn-identifying w l i

  box-silent :
      (k j : ℕ) → Holds set k → silent (sent_on j (inbox w 0 (ports_of w.cabling k))) ≡ true
  box-silent k j h = go (far w.cabling (end_at k j)) refl
    where
      given-silent :
          (g : Bool) (ss : List Signal) → silent ss ≡ true → silent (if g then ss else []) ≡ true
      given-silent true ss e = e
      given-silent false ss e = refl

      go :
          (o : Option End) → far w.cabling (end_at k j) ≡ o →
          silent (sent_on j (inbox w 0 (ports_of w.cabling k))) ≡ true
      go None e = ap silent (nothing-comes w l i set root t s.component.closed s.walk s.all k j e)
      go (Some b) e =
          let a : End = end_at k j in
          ap silent (comes w b a e) ∙ given-silent (gives w.delay (age_wire (wire_of w b)))
          (signals_of (wire_of w b).signals)
          (rest.silent b a (s.component.closed a b e h) (l.well_formed.cabling.both_ways a b e))

  ready-after :
      (k : ℕ) (z : PortNode) → Holds set k → slice_get (turn w).nodes k ≡ Some z →
      is_ready z.state.view.phase ≡ true
  ready-after k z h at =
      let x = before w k z l.well_formed at in
      (stayed w l i set root t s.component.closed s.walk s.all s.numbered k x.0 z h x.1 at).ready
      (rest.ready k x.0 h x.1)

  list-after :
      (k : ℕ) (z : PortNode) → Holds set k → slice_get (turn w).nodes k ≡ Some z →
      z.state.list.items ≡ emits t
  list-after k z h at =
      let x = before w k z l.well_formed at in
      let y = (hear_all (inbox w 0 (ports_of w.cabling k)) x.0.state).state in
      let o = heard-so w l i set root t s.component.closed s.walk s.all s.numbered k x.0 h x.1 in
      ap (λ (u : PortNode). u.state.list.items) x.2 ∙ ap (λ (u : NodeState). u.list.items)
      (turn-state (inbox w 0 (ports_of w.cabling k)) x.0)
      ∙ beat-ready-list (beat x.0) y (ap is_ready o.stays.phase ∙ rest.ready k x.0 h x.1)
      ∙ hears-no-list (inbox w 0 (ports_of w.cabling k)) x.0.state (s.all k x.0 h x.1)
      (still-there w l i set root t s.component.closed s.walk s.all k x.0 h x.1)
      (λ j. box-silent k j h)
      ∙ rest-lists w l acyclic i set core root t s rest k x.0 h x.1

  pub rests-on : IsAtRest (turn w) set
  rests-on =
      rests-where (turn w) v-lawful v-identifying set v-settles.component.closed v-settles.all
      (emits t) ready-after list-after

-- ---- quiet turns of a reached world

module _
    (hs : HoldSchedule) (w : CableWorld) (r : ComesOfPowerOn w) (k : ℕ)
    (late : length w.nodes * w.delay ≤ k)
    (set core root : ℕ) (t : Tree) where
  abbrev pub at-turn : ℕ → CableWorld
  at-turn j = quiet_after hs (k + j) w

  pub lawful-then : (j : ℕ) → IsLawful (at-turn j)
  lawful-then j = quiet-lawful hs (k + j) w (comes-lawful w r)

  pub acyclic-then : (j : ℕ) → IsAcyclic (at-turn j)
  acyclic-then j = quiet-acyclic hs (k + j) w (comes-lawful w r) (comes-acyclic w r)

  pub identifying-then : (j : ℕ) → IsIdentifying (at-turn j)
  identifying-then j = quiet-identifying hs (k + j) w (comes-lawful w r) (comes-identifying w r)

  pub next-turn : (j : ℕ) → with_holds (hs (k + j + 1)) (turn (at-turn j)) ≡ at-turn (suc j)
  next-turn j =
      sym (one-quiet hs (k + j) w) ∙ ap (λ (n : ℕ). quiet_after hs n w)
      (let e : k + j + 1 ≡ k + suc j = omega arith in e)

  -- it goes on, and at rest it stays so
  pub settles-always :
      IsSettling (quiet_after hs k w) set core root t → (j : ℕ) → IsSettling (at-turn j)
      set core root t
  settles-always s zero =
      subst (λ (n : ℕ). IsSettling (quiet_after hs n w) set core root t)
      (let e : k ≡ k + 0 = omega arith in e) s
  settles-always s (suc j) = subst (λ (v : CableWorld). IsSettling v set core root t) (next-turn j)
      (holds-settle (hs (k + j + 1)) (turn (at-turn j)) (turn-lawful (at-turn j) (lawful-then j))
      set core root t
      (settles-on (at-turn j) (lawful-then j) (acyclic-then j) (identifying-then j) set core root t
      (settles-always s j)))

  pub rests-always :
      (s : IsSettling (quiet_after hs k w) set core root t) → IsAtRest (quiet_after hs k w) set →
      (j : ℕ)
      → IsAtRest (at-turn j) set
  rests-always s q zero =
      subst (λ (n : ℕ). IsAtRest (quiet_after hs n w) set) (let e : k ≡ k + 0 = omega arith in e) q
  rests-always s q (suc j) = subst (λ (v : CableWorld). IsAtRest v set) (next-turn j)
      (holds-rest (hs (k + j + 1)) (turn (at-turn j)) (turn-lawful (at-turn j) (lawful-then j)) set
      (rests-on (at-turn j) (lawful-then j) (acyclic-then j) (identifying-then j) set core root t
      (settles-always s j) (rests-always s q j)))

  pub stays-tree :
      IsSettling (quiet_after hs k w) set core root t → IsAtRest (quiet_after hs k w) set →
      (j : ℕ) →
      IsTree (at-turn j) set root t
  stays-tree s q j =
      rest-tree (at-turn j) (lawful-then j) (acyclic-then j) (identifying-then j) set core root t
      (settles-always s j) (rests-always s q j)
