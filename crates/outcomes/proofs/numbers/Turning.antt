-- A node in self identify or A0 takes its turn: its list, its ID and what is under way to it go by
-- the walk.
use Rattle.std.proofs.Common.{◌≡◌, inl, inr, ℕ, ◌+◌, ◌<◌, ◌≤◌, Bool, true, false, ◌&&◌, ◌==◌, List, [], ◌∷◌, ◌++◌, Some, None, refl, sym, ◌∙◌, ap, subst, arith, true≢false, if◌then◌else◌, Option}
use Rattle.std.proofs.lemmas.Bool.{eq-eqb, eqb-true, and_parts, cases_lt, cases_eq, false_from_ne_true}
use Rattle.outcomes.proofs.Common.{contrary, Node, group, node_count, Level, SelfIdent, Signal, NodeState, is_port, is_unnamed, lowest, is_connected, with_port, sent_on, silent_step, is_identifying, hears_packets, with_packet, with_level, hears, is_heard, on_signal, shown_node, own_group, Row, raise_timer, does, next_row, tick, IsValid, valid-raise_timer, sound-on_signal, port_is-changed, leads_down, hear-stays, no-packets, hear_all, is_ready, is_asked, is_named, IsMarked, is_message, silent, quads_in, has_grant, has_done, mode, allows, fits, StandsAt}
use Rattle.port_state.specs.declared.signal.Level.TheVariants as level
use Rattle.port_state.specs.declared.signal.Signal.TheVariants as signal
use Rattle.port_state.specs.Step.{Step}
use Rattle.port_state.specs.Row as row
use Rattle.outcomes.proofs.identify.Messages.{IsKind, grants, dones, has-rest, silent-has, level-quads}
use Rattle.outcomes.proofs.identify.Ports.{changed-other, changed-here, lowest-is, lowest-first, child-role, not-unnamed, is-unnamed}
use Rattle.outcomes.proofs.identify.MarksKept.{hears-late, done-asked, signal-marked, raised-marked, all-named}
use Rattle.outcomes.proofs.identify.Hearing.{Stays, signal-stays, level-asked, level-named, reset-heard}
use Rattle.outcomes.proofs.identify.LinedTicks.{names-silent}
use Rattle.outcomes.proofs.identify.LinedHears.{with, unheard-level, front-hears, others-silent}
use Rattle.outcomes.proofs.identify.LateRows.{LateRow, rests, asks_next, names_now, late-row}
use Rattle.outcomes.proofs.numbers.NodeMessages.{shown-port, Owes, owes-still, owes-now, rest-fits, at-port, no-packet, root-packet, grant-comes}
use Rattle.port_state.specs.Machine.{on_beat}

-- ---- a node of the walk

-- It has so many ports, with these marks, and shows this; em is what the first nodes of the walk
-- emit.
module _ (n : ℕ) (em : ℕ → List ℕ) (mk : ℕ → ℕ) (c : Node) where
  pub record Marks (x : NodeState) : Type 0 where
    pub flat :
        (p q : ℕ) → p ≤ q → q ≤ n → ((i : ℕ) → p ≤ i → i < q → leads_down x.view.ports i ≡ false) →
        mk q ≡ mk p
    pub below : (k : ℕ) → leads_down x.view.ports k ≡ true → k < n
    pub shown : shown_node x ≡ c

  -- what is so of it, with what comes to each port
  pub record Goes-on (x : NodeState) (pend : ℕ → List Signal) : Type 0 where
    pub id : is_ready x.view.phase ≡ true → x.view.id ≡ Some (mk n)
    pub turn :
        x.view.granted ≡ true → is_ready x.view.phase ≡ false → (p : ℕ) → p ≤ n → StandsAt x p →
        x.list.items ≡ em (mk p)
    pub grant : (j : ℕ) → Owes has_grant x.list.items (em (mk 0)) (pend j)
    pub done : (j : ℕ) → Owes has_done x.list.items (em (mk (j + 1))) (pend j)
    pub last : is_ready x.view.phase ≡ true → x.view.parent ≡ None → x.list.items ≡ em (mk n + 1)

  -- ---- one signal

  module _
      (k : ℕ) (x : NodeState) (pend : ℕ → List Signal) (v : IsValid x) (m : IsMarked x)
      (h : hears_packets x.view.phase ≡ true) (r : Marks x) where
    -- a signal that is no packet changes nothing of what is owed
    passes :
        (s : Signal) → ((ss : List Signal) → quads_in (s ∷ ss) ≡ quads_in ss) →
        Goes-on x (λ j. with (k == j) s (pend j)) → Goes-on x pend
    passes s same g = record {
      id = g.id;
      turn = g.turn;
      grant = λ j.
          owes-still grants s (pend j) x.list.items (em (mk 0)) (k == j) (same (pend j))
          (g.grant j);
      done = λ j.
          owes-still dones s (pend j) x.list.items (em (mk (j + 1))) (k == j) (same (pend j))
          (g.done j);
      last = g.last;
    }

    passes-level :
        (s : Signal) → is_message s ≡ false → Goes-on x (λ j. with (k == j) s (pend j)) →
        Goes-on x pend
    passes-level s t g = passes s (λ ss. level-quads s ss t) g

    hears-level :
        (lv : Level) (s : Signal) → is_message s ≡ false → Goes-on x (λ j. with (k == j) s (pend j))
        → Goes-on (with_level k lv x) pend
    hears-level lv s t g =
        let o = passes-level s t g in
        record {
          id = o.id;
          turn = λ gr u p le st. o.turn gr u p le (record {
            named = λ i b d.
                sym (level-named k lv x i)
                ∙ st.named i b (port_is-changed (λ q. q.child) k (λ q. record q { shown = lv })
                (λ q. refl) x.view.ports i ∙ d);
            unasked = λ i b. sym (level-asked k lv x i) ∙ st.unasked i b;
          });
          grant = o.grant;
          done = o.done;
          last = o.last;
        }

    hears-grant :
        fits (mode x k) (signal.Grant ∷ pend k) ≡ true → is_port x.view.parent k ≡ true →
        Goes-on x (λ j. with (k == j) signal.Grant (pend j)) →
        Goes-on (record x { view = record x.view { granted = true } }) pend
    hears-grant f i g =
        let o = passes signal.Grant (λ ss. refl) g in
        record {
          id = o.id;
          turn = λ gr u p le st.
              now ∙ ap em (sym (r.flat 0 p (omega arith) le
              (λ i low high. none i (st.named i high))));
          grant = o.grant;
          done = o.done;
          last = o.last;
        }
      where
        ungranted : x.view.granted ≡ false
        ungranted = grant-comes x k i (rest-fits (mode x k) signal.Grant (pend k) f).0

        none :
            (i : ℕ) → (leads_down x.view.ports i ≡ true → is_named x i ≡ true) →
            leads_down x.view.ports i ≡ false
        none i all =
            false_from_ne_true _ (λ e. contrary (m.asks i (m.named i (all e))) ungranted)

        now : x.list.items ≡ em (mk 0)
        now =
            owes-now grants signal.Grant (pend k) x.list.items (em (mk 0)) (mode x k) (k == k)
            (eq-eqb k k refl) refl f (g.grant k)

    hears-packet :
        (quad : ℕ) → allows (mode x k) (signal.Packet quad) ≡ true →
        ((j : ℕ) → fits (mode x j) (with (k == j) (signal.Packet quad) (pend j)) ≡ true) →
        Goes-on x (λ j. with (k == j) (signal.Packet quad) (pend j)) →
        Goes-on (hears k (signal.Packet quad) x).state pend
    hears-packet quad a f g = record {
      id = g.id;
      turn = λ gr u p le st.
          absurd (no-packet x k p quad m gr u (record { named = st.named; unasked = st.unasked })
          a);
      grant = λ j. go grants (em (mk 0)) j (k == j) refl (f j) (g.grant j);
      done = λ j. go dones (em (mk (j + 1))) j (k == j) refl (f j) (g.done j);
      last = λ rd o. absurd (root-packet x k quad m rd o a);
    }
      where
        go :
            {one : Signal} {test : Signal → Bool} {has : List Signal → Bool} →
            IsKind one test has → (end : List ℕ) (j : ℕ) (b : Bool) → (k == j) ≡ b →
            fits (mode x j) (with b (signal.Packet quad) (pend j)) ≡ true →
            Owes has x.list.items end (with b (signal.Packet quad) (pend j)) →
            Owes has (with_packet quad x.list.items) end (pend j)
        go kind end j true e f o t = o (has-rest kind (signal.Packet quad) (pend j) t)
        go kind end j false e f o t =
            let none = others-silent x k j quad (pend j) m e a f in
            contrary t (silent-has kind (pend j) none)

    hears-done :
        leads_down x.view.ports k ≡ true → fits (mode x k) (signal.Done ∷ pend k) ≡ true →
        Goes-on x (λ j. with (k == j) signal.Done (pend j)) →
        Goes-on (hears k signal.Done x).state pend
    hears-done d f g =
        let o = passes signal.Done (λ ss. refl) g in
        record {
          id = o.id;
          turn = λ gr u p le st.
              now ∙ ap em (sym (r.flat (k + 1) p (past p st) le
              (λ i low high. none p st i low high)));
          grant = o.grant;
          done = o.done;
          last = o.last;
        }
      where
        y : NodeState
        y = (hears k signal.Done x).state

        asked : (i : ℕ) → is_asked y i ≡ is_asked x i
        asked i =
            port_is-changed (λ q. q.asked) k (λ q. record q { named = true }) (λ q. refl)
            x.view.ports i

        child : (i : ℕ) → leads_down y.view.ports i ≡ leads_down x.view.ports i
        child i =
            port_is-changed (λ q. q.child) k (λ q. record q { named = true }) (λ q. refl)
            x.view.ports i

        was : (is_asked x k ≡ true) × (is_named x k ≡ false)
        was =
            done-asked x k (child-role x k v (hears-late x.view.phase h) d).0
            (rest-fits (mode x k) signal.Done (pend k) f).0

        past : (p : ℕ) → StandsAt y p → k + 1 ≤ p
        past p st = elim (cases_lt k p) [
          | inl less ↦ omega (arith, less)
          | inr more ↦ contrary was.0 (sym (asked k) ∙ st.unasked k more)
        ]

        none :
            (p : ℕ) → StandsAt y p → (i : ℕ) → k + 1 ≤ i → i < p → leads_down x.view.ports i ≡ false
        none p st i low high = false_from_ne_true _ (λ e.
            let now : is_named x i ≡ true =
            sym (changed-other (λ q. q.named) k i (λ q. record q { named = true }) x.view.ports
            apart) ∙ st.named i high (child i ∙ e) in
            contrary (m.order k i (omega (arith, low)) (m.named i now) d) was.1)
          where
            apart : (i == k) ≡ false
            apart = other (i == k) refl
              where
                other : (b : Bool) → (i == k) ≡ b → b ≡ false
                other true e =
                    let same : i ≡ k = eqb-true i k e in absurd (omega (arith, low, same))
                other false e = refl

        now : x.list.items ≡ em (mk (k + 1))
        now =
            owes-now dones signal.Done (pend k) x.list.items (em (mk (k + 1))) (mode x k) (k == k)
            (eq-eqb k k refl) refl f (g.done k)

    hearing :
        (s : Signal) → is_heard k s x ≡ true → hears_packets (hears k s x).state.view.phase ≡ true →
        allows (mode x k) s ≡ true → fits (mode x k) (s ∷ pend k) ≡ true →
        ((j : ℕ) → fits (mode x j) (with (k == j) s (pend j)) ≡ true) →
        Goes-on x (λ j. with (k == j) s (pend j)) → Goes-on (hears k s x).state pend
    hearing signal.Reset e n a f fs g = absurd (reset-heard k x h n)
    hearing signal.Idle e n a f fs g = hears-level level.Idle signal.Idle refl g
    hearing signal.Parent e n a f fs g = hears-level level.Parent signal.Parent refl g
    hearing signal.Child e n a f fs g = hears-level level.Child signal.Child refl g
    hearing signal.Grant e n a f fs g =
        hears-grant f (and_parts (is_identifying x.view.phase) (is_port x.view.parent k)
        (and_parts (is_connected x.view.ports k)
        (is_identifying x.view.phase && is_port x.view.parent k) e).1).1 g
    hearing (signal.Packet quad) e n a f fs g = hears-packet quad a fs g
    hearing signal.Done e n a f fs g =
        hears-done (and_parts (is_identifying x.view.phase) (leads_down x.view.ports k)
        (and_parts (is_connected x.view.ports k)
        (is_identifying x.view.phase && leads_down x.view.ports k) e).1).1 f g

  pub hears-one :
      (k : ℕ) (s : Signal) (x : NodeState) (pend : ℕ → List Signal) → IsValid x → IsMarked x →
      hears_packets x.view.phase ≡ true → Marks x →
      hears_packets (on_signal k s x).state.view.phase ≡ true →
      ((j : ℕ) → fits (mode x j) (with (k == j) s (pend j)) ≡ true) →
      Goes-on x (λ j. with (k == j) s (pend j)) → Goes-on (on_signal k s x).state pend
  unfolding on_signal
  hears-one k s x pend v m h r on fs g = go (is_heard k s x) refl on
    where
      f : fits (mode x k) (s ∷ pend k) ≡ true
      f = at-port (k == k) (eq-eqb k k refl) (mode x k) s (pend k) (fs k)

      a : allows (mode x k) s ≡ true
      a = (rest-fits (mode x k) s (pend k) f).0

      go :
          (b : Bool) → is_heard k s x ≡ b →
          hears_packets (if b then hears k s x else silent_step x).state.view.phase ≡ true →
          Goes-on (if b then hears k s x else silent_step x).state pend
      go true e on = hearing k x pend v m h r s e on a f fs g
      go false e on = passes-level k x pend v m h r s (unheard-level k s x v m h a e) g

  -- what it shows stays
  shown-stays :
      (k : ℕ) (s : Signal) (x : NodeState) → IsValid x → IsValid (on_signal k s x).state →
      hears_packets x.view.phase ≡ true → hears_packets (on_signal k s x).state.view.phase ≡ true →
      shown_node (on_signal k s x).state ≡ shown_node x
  unfolding on_signal
  shown-stays k s x v u h on = go (is_heard k s x) u on
    where
      heard-so :
          (s : Signal) → IsValid (hears k s x).state →
          hears_packets (hears k s x).state.view.phase ≡ true →
          shown_node (hears k s x).state ≡ shown_node x
      heard-so signal.Reset u on = absurd (reset-heard k x h on)
      heard-so signal.Idle u on =
          shown-port k (λ q. record q { shown = level.Idle }) x v u (λ q. refl)
      heard-so signal.Parent u on =
          shown-port k (λ q. record q { shown = level.Parent }) x v u (λ q. refl)
      heard-so signal.Child u on =
          shown-port k (λ q. record q { shown = level.Child }) x v u (λ q. refl)
      heard-so signal.Grant u on = refl
      heard-so (signal.Packet quad) u on = refl
      heard-so signal.Done u on = shown-port k (λ q. record q { named = true }) x v u (λ q. refl)

      go :
          (b : Bool) → IsValid (if b then hears k s x else silent_step x).state →
          hears_packets (if b then hears k s x else silent_step x).state.view.phase ≡ true →
          shown_node (if b then hears k s x else silent_step x).state ≡ shown_node x
      go true u on = heard-so s u on
      go false u on = refl

  marks-stay :
      (k : ℕ) (s : Signal) (x : NodeState) → IsValid x → hears_packets x.view.phase ≡ true →
      hears_packets (on_signal k s x).state.view.phase ≡ true → Stays x (on_signal k s x).state →
      Marks x → Marks (on_signal k s x).state
  marks-stay k s x v h on t r = record {
    flat = λ p q le most none. r.flat p q le most (λ i low high. sym (t.child i) ∙ none i low high);
    below = λ j d. r.below j (sym (t.child j) ∙ d);
    shown = shown-stays k s x v (sound-on_signal k s x v).valid h on ∙ r.shown;
  }

  -- ---- all that comes in a turn

  pub record Heard-so (x y : NodeState) : Type 0 where
    pub valid : IsValid y
    pub marked : IsMarked y
    pub marks : Marks y
    pub asked : (j : ℕ) → is_asked y j ≡ is_asked x j
    pub stays : Stays x y

  same-asked :
      (k : ℕ) (s : Signal) (x : NodeState) → hears_packets x.view.phase ≡ true →
      hears_packets (on_signal k s x).state.view.phase ≡ true → (j : ℕ) →
      is_asked (on_signal k s x).state j ≡ is_asked x j
  unfolding on_signal
  same-asked k s x h on j = go (is_heard k s x) on
    where
      heard-so :
          (s : Signal) → hears_packets (hears k s x).state.view.phase ≡ true →
          is_asked (hears k s x).state j ≡ is_asked x j
      heard-so signal.Reset on = absurd (reset-heard k x h on)
      heard-so signal.Idle on = level-asked k level.Idle x j
      heard-so signal.Parent on = level-asked k level.Parent x j
      heard-so signal.Child on = level-asked k level.Child x j
      heard-so signal.Grant on = refl
      heard-so (signal.Packet quad) on = refl
      heard-so signal.Done on =
          port_is-changed (λ q. q.asked) k (λ q. record q { named = true }) (λ q. refl) x.view.ports
          j

      go :
          (b : Bool) →
          hears_packets (if b then hears k s x else silent_step x).state.view.phase ≡ true →
          is_asked (if b then hears k s x else silent_step x).state j ≡ is_asked x j
      go true on = heard-so s on
      go false on = refl

  with-more :
      (b : Bool) (s : Signal) (ss pend : List Signal) → with b s ss ++ pend ≡ with b s (ss ++ pend)
  with-more true s ss pend = refl
  with-more false s ss pend = refl

  pub goes-along :
      (x : NodeState) (one two : ℕ → List Signal) → ((j : ℕ) → one j ≡ two j) → Goes-on x one →
      Goes-on x two
  goes-along x one two same g = record {
    id = g.id;
    turn = g.turn;
    grant = λ j. subst (Owes has_grant x.list.items (em (mk 0))) (same j) (g.grant j);
    done = λ j. subst (Owes has_done x.list.items (em (mk (j + 1)))) (same j) (g.done j);
    last = g.last;
  }

  pub hears-all :
      (signals : List (ℕ × Signal)) (x : NodeState) (pend : ℕ → List Signal) → IsValid x →
      IsMarked x → hears_packets x.view.phase ≡ true → Marks x →
      hears_packets (hear_all signals x).state.view.phase ≡ true →
      ((j : ℕ) → fits (mode x j) (sent_on j signals ++ pend j) ≡ true) →
      Goes-on x (λ j. sent_on j signals ++ pend j) →
      Heard-so x (hear_all signals x).state × Goes-on (hear_all signals x).state pend
      × ((j : ℕ) → fits (mode (hear_all signals x).state j) (pend j) ≡ true)
  hears-all [] x pend v m h r on f g = (
    record {
      valid = v;
      marked = m;
      marks = r;
      asked = λ j. refl;
      stays = record { phase = refl; parent = refl; child = λ k. refl; cables = λ k. refl };
    },
    g,
    f,
  )
  hears-all (s ∷ rest) x pend v m h r on f g = elim (signal-stays s.0 s.1 x) [
    | inl t ↦ goes-first t (hears-all rest first.state pend)
    | inr t ↦
        absurd (no-packets (hear_all rest first.state).state.view.phase
        (hear-stays rest first.state t) on)
  ]
    where
      first : Step
      first = on_signal s.0 s.1 x

      later : ℕ → List Signal
      later j = sent_on j rest ++ pend j

      same : (j : ℕ) → sent_on j (s ∷ rest) ++ pend j ≡ with (s.0 == j) s.1 (later j)
      same j = with-more (s.0 == j) s.1 (sent_on j rest) (pend j)

      fs : (j : ℕ) → fits (mode x j) (with (s.0 == j) s.1 (later j)) ≡ true
      fs j = ap (fits (mode x j)) (sym (same j)) ∙ f j

      may : allows (mode x s.0) s.1 ≡ true
      may =
          (rest-fits (mode x s.0) s.1 (later s.0)
          (at-port (s.0 == s.0) (eq-eqb s.0 s.0 refl) (mode x s.0) s.1 (later s.0) (fs s.0))).0

      goes-first :
          Stays x first.state →
          (IsValid first.state → IsMarked first.state →
          hears_packets first.state.view.phase ≡ true → Marks first.state →
          hears_packets (hear_all rest first.state).state.view.phase ≡ true →
          ((j : ℕ) → fits (mode first.state j) (later j) ≡ true) → Goes-on first.state later →
          Heard-so first.state (hear_all rest first.state).state
          × Goes-on (hear_all rest first.state).state pend
          × ((j : ℕ) → fits (mode (hear_all rest first.state).state j) (pend j) ≡ true)) →
          Heard-so x (hear_all rest first.state).state
          × Goes-on (hear_all rest first.state).state pend
          × ((j : ℕ) → fits (mode (hear_all rest first.state).state j) (pend j) ≡ true)
      goes-first t rest-so =
          let n1 : hears_packets first.state.view.phase ≡ true = ap hears_packets t.phase ∙ h in
          let o =
          rest-so (sound-on_signal s.0 s.1 x v).valid (signal-marked s.0 s.1 x v m (λ _. may)) n1
          (marks-stay s.0 s.1 x v h n1 t r) on
          (λ j. front-hears s.0 s.1 x j (later j) v m h n1 may (fs j))
          (hears-one s.0 s.1 x later v m h r n1 fs
          (goes-along x (λ j. sent_on j (s ∷ rest) ++ pend j) (λ j. with (s.0 == j) s.1 (later j))
          same g)) in (
            record {
              valid = o.0.valid;
              marked = o.0.marked;
              marks = o.0.marks;
              asked = λ j. o.0.asked j ∙ same-asked s.0 s.1 x h n1 j;
              stays = record {
                phase = o.0.stays.phase ∙ t.phase;
                parent = o.0.stays.parent ∙ t.parent;
                child = λ k. o.0.stays.child k ∙ t.child k;
                cables = λ k. o.0.stays.cables k ∙ t.cables k;
              };
            },
            o.1,
            o.2,
          )

  -- ---- a tick

  -- it asks a child, or identifies itself, once it has what the nodes before emitted
  pub record Ticks-so (x y : NodeState) : Type 0 where
    pub asks : (q : ℕ) → is_asked x q ≡ false → is_asked y q ≡ true → y.list.items ≡ em (mk q)
    pub names :
        is_ready x.view.phase ≡ false → is_ready y.view.phase ≡ true → y.list.items ≡ em (mk n + 1)

  module _
      (x : NodeState) (pend : ℕ → List Signal) (v : IsValid x) (m : IsMarked x)
      (h : hears_packets x.view.phase ≡ true) (r : Marks x)
      (f : (j : ℕ) → fits (mode x j) (pend j) ≡ true)
      (add : em (mk n + 1) ≡ em (mk n) ++ group c (mk n)) (count : node_count (em (mk n)) ≡ mk n)
      (g : Goes-on x pend) where
    idle : Ticks-so x x
    idle = record { asks = λ q a b. contrary b a; names = λ a b. contrary b a }

    asks-child :
        (k : ℕ) → x.view.phase ≡ SelfIdent → x.view.granted ≡ true →
        lowest is_unnamed x.view.ports ≡ Some k → is_asked x k ≡ false →
        Goes-on (with_port k (λ q. record q { asked = true }) x)
        pend × Ticks-so x (with_port k (λ q. record q { asked = true }) x)
    asks-child k e gr low none = (
      record {
        id = g.id;
        turn = λ gr u p le st. absurd (elim (cases_lt k p) [
          | inl less ↦ contrary (m.named k (sym (named k) ∙ st.named k less (child k ∙ here))) none
          | inr more ↦ contrary (asked k (eq-eqb k k refl)) (st.unasked k more)
        ]);
        grant = g.grant;
        done = g.done;
        last = g.last;
      },
      record {
        asks = λ q a b. elim (cases_eq q k) [
          | inl same ↦ subst (λ (i : ℕ). x.list.items ≡ em (mk i)) (sym same) now
          | inr ne ↦
              contrary b (changed-other (λ q. q.asked) k q (λ q. record q { asked = true })
              x.view.ports (apart q k ne) ∙ a)
        ];
        names = λ a b. contrary b a;
      },
    )
      where
        y : NodeState
        y = with_port k (λ q. record q { asked = true }) x

        here : leads_down x.view.ports k ≡ true
        here = is-unnamed x.view.ports k (lowest-is is_unnamed x.view.ports k low)

        named : (i : ℕ) → is_named y i ≡ is_named x i
        named i =
            port_is-changed (λ q. q.named) k (λ q. record q { asked = true }) (λ q. refl)
            x.view.ports i

        child : (i : ℕ) → leads_down y.view.ports i ≡ leads_down x.view.ports i
        child i =
            port_is-changed (λ q. q.child) k (λ q. record q { asked = true }) (λ q. refl)
            x.view.ports i

        asked : (i : ℕ) → (i == k) ≡ true → is_asked y i ≡ true
        asked i same =
            changed-here (λ q. q.asked) (λ q. q.child) k i (λ q. record q { asked = true })
            x.view.ports (λ q. refl) same
            (subst (λ (j : ℕ). leads_down x.view.ports j ≡ true) (sym (eqb-true i k same)) here)

        apart : (i j : ℕ) → (i ≡ j → ⊥) → (i == j) ≡ false
        apart i j ne = false_from_ne_true _ (λ e. ne (eqb-true i j e))

        late-unasked : (i : ℕ) → k ≤ i → is_asked x i ≡ false
        late-unasked i le = go (is_asked x i) refl
          where
            go : (b : Bool) → is_asked x i ≡ b → b ≡ false
            go false e = refl
            go true e = absurd (elim (cases_eq i k) [
              | inl same ↦ contrary e (ap (is_asked x) same ∙ none)
              | inr ne ↦ contrary (m.named k (m.order k i (omega (arith, le, ne)) e here)) none
            ])

        stands : StandsAt x k
        stands = record {
          named = λ i less d.
              not-unnamed x.view.ports i
              (lowest-first is_unnamed 0 x.view.ports k low i (omega (arith, less)))
              (child-role x i v (hears-late x.view.phase h) d).1 d;
          unasked = late-unasked;
        }

        now : x.list.items ≡ em (mk k)
        now = g.turn gr (ap is_ready e) k (omega (arith, r.below k here)) stands

    names-itself :
        x.view.phase ≡ SelfIdent → x.view.granted ≡ true → lowest is_unnamed x.view.ports ≡ None →
        Goes-on (does false row.names_itself x).state pend
        × Ticks-so x (does false row.names_itself x).state
    names-itself e gr low = (
      record {
        id = λ rd. ap (λ (i : ℕ). Some i) many;
        turn = λ gr u. absurd (true≢false u);
        grant = λ j t. contrary t (silent-has grants (pend j) (quiet-port j));
        done = λ j t. contrary t (silent-has dones (pend j) (quiet-port j));
        last = λ rd o. whole;
      },
      record {
        asks = λ q a b. contrary b a;
        names = λ a b. whole;
      },
    )
      where
        all : (i : ℕ) → leads_down x.view.ports i ≡ true → is_named x i ≡ true
        all = all-named x v (hears-late x.view.phase h) low

        unasked : (i : ℕ) → n ≤ i → is_asked x i ≡ false
        unasked i le = false_from_ne_true _ (λ e. omega (arith, le, r.below i (m.asked i e)))

        now : x.list.items ≡ em (mk n)
        now =
            g.turn gr (ap is_ready e) n (omega arith)
            (record { named = λ i less d. all i d; unasked = unasked })

        many : node_count x.list.items ≡ mk n
        many = ap node_count now ∙ count

        own : own_group x (node_count x.list.items) ≡ group c (mk n)
        own = ap (λ (z : Node). group z (node_count x.list.items)) r.shown ∙ ap (group c) many

        whole : x.list.items ++ own_group x (node_count x.list.items) ≡ em (mk n + 1)
        whole =
            ap (λ (ss : List ℕ). x.list.items ++ ss) own
            ∙ ap (λ (ss : List ℕ). ss ++ group c (mk n)) now ∙ sym add

        quiet-port : (j : ℕ) → silent (pend j) ≡ true
        quiet-port j = names-silent x j (pend j) v m h (f j) e gr low

    does-so :
        (coin : Bool) (w : Row) → LateRow x w →
        Goes-on (does coin w x).state pend × Ticks-so x (does coin w x).state
    does-so coin w rests = (g, idle)
    does-so coin w (asks_next p a) = asks-child p a.phase a.granted a.next a.unasked
    does-so coin w (names_now e) = names-itself e.phase e.granted e.last

  pub ticks-so :
      (coin : Bool) (x : NodeState) (pend : ℕ → List Signal) → IsValid x → IsMarked x →
      hears_packets x.view.phase ≡ true → Marks x → ((j : ℕ) → fits (mode x j) (pend j) ≡ true) →
      em (mk n + 1) ≡ em (mk n) ++ group c (mk n) → node_count (em (mk n)) ≡ mk n → Goes-on x pend →
      Goes-on (tick coin x).state pend × Ticks-so x (tick coin x).state
  unfolding tick
  ticks-so coin x pend v m h r f add count g =
      let o =
      does-so (raise_timer x) pend (valid-raise_timer x v) (raised-marked x m) h
      (record { flat = r.flat; below = r.below; shown = r.shown }) f add count
      (record {
        id = g.id;
        turn = λ gr u p le st. g.turn gr u p le
            (record { named = st.named; unasked = st.unasked });
        grant =
            g.grant;
        done = g.done;
        last = g.last;
      }) coin (next_row x) (late-row x h) in
      (o.0, record { asks = o.1.asks; names = o.1.names })

  -- or the clock misses the turn
  pub beat-ticks-so :
      (b : Option Bool) (x : NodeState) (pend : ℕ → List Signal) → IsValid x → IsMarked x →
      hears_packets x.view.phase ≡ true → Marks x → ((j : ℕ) → fits (mode x j) (pend j) ≡ true) →
      em (mk n + 1) ≡ em (mk n) ++ group c (mk n) → node_count (em (mk n)) ≡ mk n → Goes-on x pend →
      Goes-on (on_beat b x).state pend × Ticks-so x (on_beat b x).state
  beat-ticks-so None x pend v m h r f add count g = (g, record { asks = λ q a b. contrary b a; names = λ a b. contrary b a })
  beat-ticks-so (Some coin) x pend v m h r f add count g = ticks-so coin x pend v m h r f add count g
