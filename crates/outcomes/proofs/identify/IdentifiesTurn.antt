-- A turn keeps what the two ends of a cable tell each other in self identify.
use Rattle.std.proofs.Common.{◌≡◌, ◌⊎◌, inl, inr, ℕ, ◌+◌, ◌-◌, ◌*◌, ◌<◌, ◌≤◌, Bool, true, false, not, ◌&&◌, ◌||◌, List, [], ◌++◌, map, length, refl, sym, ◌∙◌, ap, subst, arith, if◌then◌else◌, true≢false}
use Rattle.std.specs.Prelude.{nat_lt}
use Rattle.std.proofs.lemmas.Bool.{or_cases, ltb-true, ltb-false, false_from_ne_true}
use Rattle.outcomes.proofs.Common.{contrary, Phase, Signal, NodeState, port_is, is_port, sent_on, is_resetting, hears_packets, new_signal, age_signal, is_before_tree, is_after_hold, is_shaking, signals_of, has_reset, leads_down, child-if, not-both, Side, hearing, ticking, leftovers, departures, wire_after, late-roles, after_signals, start-before_tree, Pair, is_ready, is_asked, is_named, IsMarked, silent, MessagesSince, Mode, parent_mode, child_mode, mode_of, mode, Lined, Greets, Identifies, parent-was}
use Rattle.port_state.specs.declared.signal.Phase.TheVariants as phase
use Rattle.cable_world.specs.Phases.{slack}
use Rattle.cable_world.proofs.Lemmas.{NoEntry, AllAsOldAs-less, nothing-left, Ready, early-childless, heard_timing, kept_or_gone, timer_rises, hold_fits, start-timed, start-slack, turned-round, came, near_heard}
use Rattle.outcomes.specs.Identify.{may_speak}
use Rattle.outcomes.proofs.identify.Messages.{silent-append, silent-quads, silent-fits, since-zero, since-less, since-older, since-append, since-silent, since-none}
use Rattle.outcomes.proofs.identify.Lines.{begins}
use Rattle.convergence.proofs.Lemmas.{early-parentless, parent-late, start-mute}
use Rattle.outcomes.proofs.identify.Ports.{child-role}
use Rattle.outcomes.proofs.identify.MarksKept.{hears-late, none-asked, beat-tick-marked}
use Rattle.outcomes.proofs.identify.LinedHears.{Waiting}
use Rattle.outcomes.proofs.identify.LinedTicks.{beat-ticks-on, beat-ticks-parent, beat-arrives, beat-tick-silent}
use Rattle.outcomes.proofs.identify.GreetTicks.{beat-ticks-child, beat-becomes-child}
use Rattle.outcomes.proofs.identify.HearAll.{MayCome, HasRoom, hear-silent, hear-marked}
use Rattle.outcomes.proofs.identify.LinedTurn.{Able, Taken, Comes, comes-adds, waits-turn, front-turn, split, lined-turn, above-front, below-front}

-- ---- phases

mute : (h : Phase) → may_speak h ≡ false → hears_packets h ≡ false
mute h e = grind arith

mute-out : (h : Phase) → may_speak h ≡ false → is_resetting h ≡ false
mute-out h e = grind arith

hears-out : (h : Phase) → hears_packets h ≡ true → is_resetting h ≡ false
hears-out h e = grind arith

speaks-start : (h : Phase) → is_resetting h ≡ true → may_speak h ≡ true
speaks-start h e = grind arith

early-mute :
    (h : Phase) (b : Bool) → (is_before_tree h || (is_shaking h && b)) ≡ true →
    hears_packets h ≡ false
early-mute h b e = grind arith

known :
    (h : Phase) (d t : ℕ) → is_resetting h ≡ true → d < t →
    ((is_resetting h && nat_lt d t) || is_after_hold h) ≡ true
known h d t r l = grind arith

-- ---- one node

-- a node that isn't in self identify or A0 sends no message in its turn
early-silent :
    (d : ℕ) (s : Side) → Ready d s → hears_packets s.node.view.phase ≡ false → silent (departures s)
    ≡ true
early-silent d s r h =
    silent-append (sent_on s.port (hearing s).sends) (sent_on s.port (ticking s).sends) (hear-silent s.inbox s.node s.port h)
    (beat-tick-silent s.beat (hearing s).state s.port (elim r.hears.cases [ inl t ↦ ap hears_packets t.phase ∙ h | inr c ↦ ap hears_packets c.phase ]))

-- what is known of a node and of all that comes to it
pub record Known (s : Side) : Type 0 where
  pub marked : IsMarked s.node
  pub comes : hears_packets s.node.view.phase ≡ true → MayCome s.node s.inbox
  pub room : hears_packets s.node.view.phase ≡ true → HasRoom s.node s.inbox

heard-marked : (d : ℕ) (s : Side) → Ready d s → Known s → IsMarked (hearing s).state
heard-marked d s r k = hear-marked s.inbox s.node r.valid k.marked k.comes

after-marked : (d : ℕ) (s : Side) → Ready d s → Known s → IsMarked (ticking s).state
after-marked d s r k = beat-tick-marked s.beat (hearing s).state r.hears.valid (heard-marked d s r k)

able : (d : ℕ) (s : Side) → Ready d s → Known s → hears_packets s.node.view.phase ≡ true → Able s
able d s r k h = record { valid = r.valid; heard_valid = r.hears.valid; marked = k.marked; hears = h; comes = k.comes h; room = k.room h }

-- what is so of both sides of a cable before the turn
pub record Told (d : ℕ) (x y : Side) : Type 0 where
  pub pair : Pair d x y
  pub near : Known x
  pub other : Known y
  pub greets : Greets x.node x.port x.wire y.node y.port y.wire
  pub greets_back : Greets y.node y.port y.wire x.node x.port x.wire
  pub identifies : Identifies d x.node x.port x.wire y.node y.port y.wire
  pub identifies_back : Identifies d y.node y.port y.wire x.node x.port x.wire

module _ (d : ℕ) (x y : Side) (t : Told d x y) where
  abbrev j : Pair d x y
  j = t.pair

  -- no Reset is under way from a node outside R0
  calm : is_resetting x.node.view.phase ≡ false → has_reset (signals_of x.wire) ≡ false
  calm e = false_from_ne_true _ (λ r. contrary (j.coupled.reset r) e)

  calm-back : is_resetting y.node.view.phase ≡ false → has_reset (signals_of y.wire) ≡ false
  calm-back e = false_from_ne_true _ (λ r. contrary (j.coupled_back.reset r) e)

  going : sent_on y.port y.inbox ++ signals_of (leftovers x) ≡ signals_of x.wire
  going = ap (λ ss. ss ++ signals_of (leftovers x)) j.goes ∙ sym (split x)

  coming-all : sent_on x.port x.inbox ++ signals_of (leftovers y) ≡ signals_of y.wire
  coming-all = ap (λ ss. ss ++ signals_of (leftovers y)) j.comes ∙ sym (split y)

  not-came : hears_packets (ticking x).state.view.phase ≡ true → NoEntry x.node (hearing x)
  not-came n = elim j.near.hears.cases [
    | inl h ↦ h
    | inr c ↦ contrary n (start-mute (ticking x).state.view.phase (came d x y j c).0)
  ]

  stays-out :
      NoEntry x.node (hearing x) → is_resetting x.node.view.phase ≡ false →
      is_resetting (hearing x).state.view.phase ≡ false
  stays-out h e = ap is_resetting h.phase ∙ e

  -- ---- the other node in self identify or A0, and this one between R1 and T3

  -- its port is its parent port there
  above :
      is_resetting x.node.view.phase ≡ false → hears_packets y.node.view.phase ≡ true →
      (leads_down y.node.view.ports y.port ≡ true)
      ⊎ ((is_port y.node.view.parent y.port ≡ true) × (leads_down x.node.view.ports x.port ≡ true))
  above out h = go (leads_down y.node.view.ports y.port) (is_port y.node.view.parent y.port) refl refl (child-if y.node.view.parent y.node.view.ports y.port (late-roles y.node j.other.valid (hears-late y.node.view.phase h)) j.other.connected)
    where
      go :
          (b c : Bool) → leads_down y.node.view.ports y.port ≡ b →
          is_port y.node.view.parent y.port ≡ c →
          leads_down y.node.view.ports y.port ≡ not (is_port y.node.view.parent y.port) → (b ≡ true)
          ⊎ ((c ≡ true) × (leads_down x.node.view.ports x.port ≡ true))
      go true c eb ec r = inl refl
      go false true eb ec r = inr (refl, t.greets_back.accepted h ec (calm out))
      go false false eb ec r = absurd (true≢false (sym (sym eb ∙ r ∙ ap not ec)))

  waiting :
      may_speak x.node.view.phase ≡ false → hears_packets y.node.view.phase ≡ true →
      Waiting y.node y.port [] (sent_on y.port y.inbox ++ signals_of (leftovers x))
  waiting m h = elim (above out h) [
    | inl child ↦ absurd (elim (t.greets_back.both child (calm out)) [
      | inl s ↦ contrary h (ap hears_packets s)
      | inr s ↦ contrary s (mute x.node.view.phase m)
    ])
    | inr p ↦ record {
      parent = p.0;
      ungranted = t.identifies.before p.1 p.0 (mute x.node.view.phase m);
      nothing = t.identifies.idle p.1 p.0 (mute x.node.view.phase m);
      said = refl;
      comes = ap silent going ∙ t.identifies.quiet m;
    }
  ]
    where
      out : is_resetting x.node.view.phase ≡ false
      out = mute-out x.node.view.phase m

  waited :
      may_speak x.node.view.phase ≡ false → (h : hears_packets y.node.view.phase ≡ true) →
      Taken y (λ z o. Waiting z y.port o (signals_of (leftovers x))) (λ o. silent o ≡ true) []
  waited m h = waits-turn y (able d y j.other t.other h) [] (signals_of (leftovers x)) (waiting m h)

  none-sent : may_speak x.node.view.phase ≡ false → silent (departures y) ≡ true
  none-sent m = go (hears_packets y.node.view.phase) refl
    where
      go : (b : Bool) → hears_packets y.node.view.phase ≡ b → silent (departures y) ≡ true
      go true h = elim (waited m h) [ inl w ↦ w.1.said | inr w ↦ w.1 ]
      go false h = early-silent d y j.other h

  -- ---- a node that leaves R0

  long :
      is_resetting x.node.view.phase ≡ true → NoEntry x.node (hearing x) →
      is_resetting (ticking x).state.view.phase ≡ false → 64 * d ≤ x.node.view.timer + 1
  long r h out = go (nat_lt ((hearing x).state.view.timer + 1) (hearing x).state.timing.hold) refl
    where
      go :
          (b : Bool) → nat_lt ((hearing x).state.view.timer + 1) (hearing x).state.timing.hold ≡ b →
          64 * d ≤ x.node.view.timer + 1
      go true e = absurd (true≢false (sym (j.near.ticks.holds (ap is_resetting h.phase ∙ r) (ltb-true ((hearing x).state.view.timer + 1) (hearing x).state.timing.hold e) (hold_fits d x j.some_delay j.near)).0 ∙ out))
      go false e = omega (arith, ltb-false ((hearing x).state.view.timer + 1) (hearing x).state.timing.hold e, h.timer, (heard_timing d x j.near).hold_least)

  nothing-under-way :
      is_resetting x.node.view.phase ≡ true → 64 * d ≤ x.node.view.timer + 1 → x.wire ≡ []
  nothing-under-way r l =
      nothing-left d x.wire j.some_delay
      (AllAsOldAs-less d (x.node.view.timer - slack x.node.view.phase) x.wire (omega (arith, l, j.some_delay, start-slack x.node.view.phase r)) (j.coupled.timed (start-timed x.node.view.phase r))) j.near.ages

  -- the other node has known of the reset for long
  other-mute :
      is_resetting x.node.view.phase ≡ true → d < x.node.view.timer →
      hears_packets y.node.view.phase ≡ false
  other-mute r l = early-mute y.node.view.phase (is_port y.node.view.parent y.port) (j.coupled.early (known x.node.view.phase d x.node.view.timer r l))

  -- ---- one by one

  -- a node between R1 and T3 was there, or was in R0
  mute-before :
      may_speak (ticking x).state.view.phase ≡ false → NoEntry x.node (hearing x) →
      (may_speak x.node.view.phase ≡ false) ⊎ (is_resetting x.node.view.phase ≡ true)
  mute-before m h = go (may_speak x.node.view.phase) refl
    where
      go :
          (b : Bool) → may_speak x.node.view.phase ≡ b → (b ≡ false)
          ⊎ (is_resetting x.node.view.phase ≡ true)
      go false e = inl refl
      go true e = elim (or_cases (is_resetting x.node.view.phase) (hears_packets x.node.view.phase) e) [
        | inl r ↦ inr r
        | inr s ↦ contrary (beat-ticks-on x.beat (hearing x).state (ap hears_packets h.phase ∙ s)) (mute (ticking x).state.view.phase m)
      ]

  mute-heard : may_speak (ticking x).state.view.phase ≡ false → NoEntry x.node (hearing x)
  mute-heard m = elim j.near.hears.cases [
    | inl h ↦ h
    | inr c ↦ contrary (speaks-start (ticking x).state.view.phase (came d x y j c).0) m
  ]

  quiet-after :
      may_speak (ticking x).state.view.phase ≡ false → silent (signals_of (wire_after x)) ≡ true
  quiet-after m = ap silent (after_signals x) ∙ elim (mute-before m h) [
    | inl s ↦ silent-append (signals_of (leftovers x)) (departures x) (kept_or_gone x (λ ss. silent ss ≡ true) refl (t.identifies.quiet s)) (early-silent d x j.near (mute x.node.view.phase s))
    | inr r ↦ silent-append (signals_of (leftovers x)) (departures x)
        (kept_or_gone x (λ ss. silent ss ≡ true) refl (ap (λ ts. silent (signals_of ts)) (nothing-under-way r (long r h (mute-out (ticking x).state.view.phase m)))))
        (early-silent d x j.near (start-mute x.node.view.phase r))
  ]
    where
      h : NoEntry x.node (hearing x)
      h = mute-heard m

  hushed-after :
      may_speak (ticking x).state.view.phase ≡ false → silent (signals_of (wire_after y)) ≡ true
  hushed-after m = ap silent (after_signals y) ∙ elim (mute-before m h) [
    | inl s ↦ silent-append (signals_of (leftovers y)) (departures y) (kept_or_gone y (λ ss. silent ss ≡ true) refl (t.identifies.hushed s)) (none-sent s)
    | inr r ↦
        let l : 64 * d ≤ x.node.view.timer + 1 = long r h (mute-out (ticking x).state.view.phase m) in
        silent-append (signals_of (leftovers y)) (departures y)
        (kept_or_gone y (λ ss. silent ss ≡ true) refl (since-none d y.wire j.some_delay (since-less d (x.node.view.timer - (d + 1)) y.wire (omega (arith, l, j.some_delay)) (t.identifies.stale r)) j.other.ages))
        (early-silent d y j.other (other-mute r (omega (arith, l, j.some_delay))))
  ]
    where
      h : NoEntry x.node (hearing x)
      h = mute-heard m

  stale-after :
      is_resetting (ticking x).state.view.phase ≡ true →
      MessagesSince ((ticking x).state.view.timer - (d + 1)) (wire_after y)
  stale-after r = elim j.near.hears.cases [
    | inl h ↦ still h (before h (is_resetting x.node.view.phase) refl)
    | inr c ↦ since-less ((ticking x).state.view.timer - (d + 1)) 0 (wire_after y) (omega (arith, (came d x y j c).1)) (since-zero (wire_after y))
  ]
    where
      before :
          NoEntry x.node (hearing x) → (b : Bool) → is_resetting x.node.view.phase ≡ b → b ≡ true
      before h true e = refl
      before h false e = contrary r (j.near.ticks.out (stays-out h e))

      rises : NoEntry x.node (hearing x) → (ticking x).state.view.timer ≤ x.node.view.timer + 1
      rises h = elim (j.near.ticks.timed (start-timed (ticking x).state.view.phase r)) [
        | inl s ↦ timer_rises x h (ticking x).state.view.timer s.1
        | inr z ↦ omega (arith, z)
      ]

      older-kept : (n : ℕ) → MessagesSince n y.wire → MessagesSince (n + 1) (leftovers y)
      older-kept n s = go y.gives
        where
          go : (b : Bool) → MessagesSince (n + 1) (if b then [] else map age_signal y.wire)
          go true = tt
          go false = since-older n y.wire s

      new :
          (n : ℕ) → (n ≤ d + 1) ⊎ (silent (departures y) ≡ true) → MessagesSince (n - (d + 1))
          (map new_signal (departures y))
      new n (inl l) = since-less (n - (d + 1)) 0 (map new_signal (departures y)) (omega (arith, l)) (since-zero (map new_signal (departures y)))
      new n (inr s) = since-silent (n - (d + 1)) (departures y) s

      either : (n : ℕ) → (n ≤ d + 1) ⊎ (d + 1 < n)
      either n = grind arith

      still :
          NoEntry x.node (hearing x) → is_resetting x.node.view.phase ≡ true →
          MessagesSince ((ticking x).state.view.timer - (d + 1)) (wire_after y)
      still h was = since-append ((ticking x).state.view.timer - (d + 1)) (leftovers y) (map new_signal (departures y))
          (since-less ((ticking x).state.view.timer - (d + 1)) (x.node.view.timer - (d + 1) + 1) (leftovers y) (omega (arith, rises h)) (older-kept (x.node.view.timer - (d + 1)) (t.identifies.stale was)))
          (new (ticking x).state.view.timer (elim (either (ticking x).state.view.timer) [
            | inl l ↦ inl l
            | inr l ↦ inr (early-silent d y j.other (other-mute was (omega (arith, l, rises h))))
          ]))

  -- ---- what comes to a port

  mode-above :
      (i r g : Bool) (m : Mode) (list : List ℕ) (ss : List Signal) → i ≡ false → Comes m list ss →
      Comes (mode_of i (parent_mode r g) m) list ss
  mode-above true r g m list ss e f = absurd (true≢false e)
  mode-above false r g m list ss e f = f

  mode-below :
      (i : Bool) (m n : Mode) (list : List ℕ) (ss : List Signal) → i ≡ true → Comes m list ss →
      Comes (mode_of i m n) list ss
  mode-below true m n list ss e f = f
  mode-below false m n list ss e f = absurd (true≢false (sym e))

  front-after :
      hears_packets (ticking x).state.view.phase ≡ true → Comes (mode (ticking x).state x.port)
      (ticking x).state.list.items (signals_of (wire_after y))
  front-after n = go (hears_packets x.node.view.phase) refl (hears_packets y.node.view.phase) refl
    where
      h : NoEntry x.node (hearing x)
      h = not-came n

      go :
          (b : Bool) → hears_packets x.node.view.phase ≡ b → (c : Bool) →
          hears_packets y.node.view.phase ≡ c → Comes (mode (ticking x).state x.port)
          (ticking x).state.list.items (signals_of (wire_after y))
      go false e c f =
          let early : hears_packets (hearing x).state.view.phase ≡ false = ap hears_packets h.phase ∙ e in
          let a = beat-arrives x.beat (hearing x).state early n in
          let s : may_speak x.node.view.phase ≡ false = ap may_speak (sym h.phase ∙ a.shakes) in
          let none : silent (signals_of (wire_after y)) ≡ true = ap silent (after_signals y) ∙ silent-append (signals_of (leftovers y)) (departures y) (kept_or_gone y (λ ss. silent ss ≡ true) refl (t.identifies.hushed s)) (none-sent s) in
          (silent-fits (mode (ticking x).state x.port) (signals_of (wire_after y)) none, omega (arith, ap length (a.list ∙ (heard-marked d x j.near t.near).unheard early), ap length (silent-quads (signals_of (wire_after y)) none)))
      go true e false f =
          subst (Comes (mode (ticking x).state x.port) (ticking x).state.list.items) (sym (after_signals y))
          (comes-adds (mode (ticking x).state x.port) (ticking x).state.list.items (signals_of (leftovers y)) (departures y)
          (front-turn x (able d x j.near t.near e) (signals_of (leftovers y)) (subst (Comes (mode x.node x.port) x.node.list.items) (sym coming-all) (t.identifies.front e, t.identifies.room e)) n (stays-out h (hears-out x.node.view.phase e)))
          (early-silent d y j.other f))
      go true e true f = elim (above (hears-out x.node.view.phase e) f) [
        | inl child ↦
            let p : is_port x.node.view.parent x.port ≡ true = (j.coupled_back.child child (calm (hears-out x.node.view.phase e))).0 in
            let q : is_port (ticking x).state.view.parent x.port ≡ true = ap (λ o. is_port o x.port) (beat-ticks-parent x.beat (hearing x).state (ap hears_packets h.phase ∙ e) ∙ h.parent) ∙ p in
            mode-below (is_port (ticking x).state.view.parent x.port) (parent_mode (is_ready (ticking x).state.view.phase) (ticking x).state.view.granted) (child_mode (is_asked (ticking x).state x.port) (is_named (ticking x).state x.port)) (ticking x).state.list.items (signals_of (wire_after y)) q
            (below-front d y x (turned-round d x y j) (able d y j.other t.other f) (able d x j.near t.near e) child p (t.identifies_back.line child p f) (stays-out h (hears-out x.node.view.phase e)))
        | inr p ↦
            let child : leads_down (ticking x).state.view.ports x.port ≡ true = beat-ticks-child x.beat (hearing x).state x.port (h.child x.port ∙ p.1) in
            mode-above (is_port (ticking x).state.view.parent x.port) (is_ready (ticking x).state.view.phase) (ticking x).state.view.granted (child_mode (is_asked (ticking x).state x.port) (is_named (ticking x).state x.port)) (ticking x).state.list.items (signals_of (wire_after y))
            (child-role (ticking x).state x.port j.near.ticks.valid (hears-late (ticking x).state.view.phase n) child).0
            (above-front d x y j (able d x j.near t.near e) (able d y j.other t.other f) p.1 p.0 (t.identifies.line p.1 p.0 e) (stays-out h (hears-out x.node.view.phase e)))
      ]

  -- ---- child cables

  -- a node with a parent port began no reset in this turn
  parent-heard : is_port (ticking y).state.view.parent y.port ≡ true → NoEntry y.node (hearing y)
  parent-heard p = elim j.other.hears.cases [
    | inl h ↦ h
    | inr c ↦ contrary p (ap (λ o. is_port o y.port) (early-parentless (ticking y).state j.other.ticks.valid (start-before_tree (ticking y).state.view.phase (came d y x (turned-round d x y j) c).0)))
  ]

  -- and was outside R0
  parent-out :
      is_port (ticking y).state.view.parent y.port ≡ true → NoEntry y.node (hearing y) →
      is_resetting y.node.view.phase ≡ false
  parent-out p h = elim (parent-was y.beat (hearing y).state y.port p) [
    | inl was ↦ late (is_resetting y.node.view.phase) refl (parent-late y.node j.other.valid y.port (sym (ap (λ o. is_port o y.port) h.parent) ∙ was))
    | inr s ↦ ap is_resetting (sym h.phase ∙ s)
  ]
    where
      late :
          (b : Bool) → is_resetting y.node.view.phase ≡ b →
          is_before_tree y.node.view.phase ≡ false → b ≡ false
      late true e f = contrary (start-before_tree y.node.view.phase e) f
      late false e f = refl

  -- nor was a node with a child port in R0
  child-out :
      leads_down (ticking x).state.view.ports x.port ≡ true → NoEntry x.node (hearing x) →
      is_resetting x.node.view.phase ≡ false
  child-out c h = false_from_ne_true _ (λ e.
      let r : is_resetting (hearing x).state.view.phase ≡ true = ap is_resetting h.phase ∙ e in
      elim (j.near.ticks.child x.port (j.near.hears.cables x.port ∙ j.near.connected) c) [
        | inl z ↦ not-both (leads_down (hearing x).state.view.ports x.port) z (early-childless (hearing x).state j.near.hears.valid x.port (start-before_tree (hearing x).state.view.phase r))
        | inr o ↦ elim o [
          | inl z ↦ contrary r (ap is_resetting z.0)
          | inr z ↦ contrary r (ap is_resetting z.0)
        ]
      ])

  -- a child that waited before the turn, or came to self identify in it, waits for its grant
  idle-after :
      leads_down (ticking x).state.view.ports x.port ≡ true →
      is_port (ticking y).state.view.parent y.port ≡ true →
      hears_packets (ticking x).state.view.phase ≡ false → ((ticking y).state.view.granted ≡ false)
      × ((ticking y).state.list.items ≡ [])
  idle-after c p n = go (hears_packets (ticking y).state.view.phase) refl (hears_packets y.node.view.phase) refl
    where
      h : NoEntry x.node (hearing x)
      h = near_heard d x y j c

      k : NoEntry y.node (hearing y)
      k = parent-heard p

      none :
          (z : NodeState) → IsMarked z → hears_packets z.view.phase ≡ false → z.view.granted ≡ false
      none z m e = false_from_ne_true _ (λ g. contrary (m.granted g) e)

      not-hearing : (b : Bool) → hears_packets x.node.view.phase ≡ b → b ≡ false
      not-hearing true e = contrary (beat-ticks-on x.beat (hearing x).state (ap hears_packets h.phase ∙ e)) n
      not-hearing false e = refl

      neither : (h : Phase) → is_resetting h ≡ false → hears_packets h ≡ false → may_speak h ≡ false
      neither h a b = grind arith

      go :
          (b : Bool) → hears_packets (ticking y).state.view.phase ≡ b → (a : Bool) →
          hears_packets y.node.view.phase ≡ a → ((ticking y).state.view.granted ≡ false)
          × ((ticking y).state.list.items ≡ [])
      go false e a f = (none (ticking y).state (after-marked d y j.other t.other) e, (after-marked d y j.other t.other).unheard e)
      go true e false f =
          let m : IsMarked (hearing y).state = heard-marked d y j.other t.other in
          let early : hears_packets (hearing y).state.view.phase ≡ false = ap hears_packets k.phase ∙ f in
          let r = beat-arrives y.beat (hearing y).state early e in
          elim r.how [
            | inl o ↦ contrary p (ap (λ q. is_port q y.port) (r.parent ∙ o))
            | inr o ↦ (o.0 ∙ none (hearing y).state m early, r.list ∙ m.unheard early)
          ]
      go true e true f = elim (waited (neither x.node.view.phase (child-out c h) (not-hearing (hears_packets x.node.view.phase) refl)) f) [
        | inl w ↦ (w.1.ungranted, w.1.nothing)
        | inr w ↦ contrary w.0 (ap is_resetting k.phase ∙ hears-out y.node.view.phase f)
      ]

  line-after :
      leads_down (ticking x).state.view.ports x.port ≡ true →
      is_port (ticking y).state.view.parent y.port ≡ true →
      hears_packets (ticking x).state.view.phase ≡ true →
      Lined (ticking x).state x.port (signals_of (wire_after x))
      (ticking y).state (signals_of (wire_after y))
  line-after c p n = go (hears_packets x.node.view.phase) refl
    where
      h : NoEntry x.node (hearing x)
      h = not-came n

      k : NoEntry y.node (hearing y)
      k = parent-heard p

      was : leads_down x.node.view.ports x.port ≡ true
      was = elim (beat-becomes-child x.beat (hearing x).state x.port c) [
        | inl z ↦ sym (h.child x.port) ∙ z
        | inr z ↦ contrary n (ap hears_packets z)
      ]

      no-reset : has_reset (signals_of y.wire) ≡ false
      no-reset = calm-back (parent-out p k)

      parent : is_port y.node.view.parent y.port ≡ true
      parent = (j.coupled.child was no-reset).0

      hears-other :
          (x.node.view.phase ≡ phase.ChildShake → ⊥) → hears_packets y.node.view.phase ≡ true
      hears-other not-shaking = elim (t.greets.both was no-reset) [ inl s ↦ absurd (not-shaking s) | inr s ↦ s ]

      phases : (q : Phase) → q ≡ phase.ParentShake → q ≡ phase.ChildShake → ⊥
      phases q a b = grind arith

      unasked :
          (z : NodeState) → IsMarked z → hears_packets z.view.phase ≡ false → (q : ℕ) →
          is_asked z q ≡ false
      unasked z m e q = false_from_ne_true _ (λ g. none-asked z m e q g)

      unnamed :
          (z : NodeState) → IsMarked z → hears_packets z.view.phase ≡ false → (q : ℕ) →
          is_named z q ≡ false
      unnamed z m e q = false_from_ne_true _ (λ g. none-asked z m e q (m.named q g))

      not-ready :
          (z : NodeState) → IsMarked z → z.view.granted ≡ false → is_ready z.view.phase ≡ false
      not-ready z m g = false_from_ne_true _ (λ e. contrary (m.ready e) g)

      go :
          (b : Bool) → hears_packets x.node.view.phase ≡ b →
          Lined (ticking x).state x.port (signals_of (wire_after x))
          (ticking y).state (signals_of (wire_after y))
      go true e =
          let f : hears_packets y.node.view.phase ≡ true = hears-other (λ s. contrary e (ap hears_packets s)) in
          lined-turn d x y j (able d x j.near t.near e) (able d y j.other t.other f) was parent (t.identifies.line was parent e) (stays-out h (hears-out x.node.view.phase e)) (ap is_resetting k.phase ∙ hears-out y.node.view.phase f)
      go false e =
          let early : hears_packets (hearing x).state.view.phase ≡ false = ap hears_packets h.phase ∙ e in
          let a = beat-arrives x.beat (hearing x).state early n in
          let shakes : x.node.view.phase ≡ phase.ParentShake = sym h.phase ∙ a.shakes in
          let s : may_speak x.node.view.phase ≡ false = ap may_speak shakes in
          let f : hears_packets y.node.view.phase ≡ true = hears-other (phases x.node.view.phase shakes) in
          let m : IsMarked (hearing x).state = heard-marked d x j.near t.near in
          elim (waited s f) [
            | inl w ↦
                let asked : is_asked (ticking x).state x.port ≡ false = ap (λ ps. port_is (λ q. q.asked) ps x.port) a.ports ∙ unasked (hearing x).state m early x.port in
                let named : is_named (ticking x).state x.port ≡ false = ap (λ ps. port_is (λ q. q.named) ps x.port) a.ports ∙ unnamed (hearing x).state m early x.port in
                let list : (ticking x).state.list.items ≡ [] = a.list ∙ m.unheard early in
                let unready : is_ready (ticking y).state.view.phase ≡ false = not-ready (ticking y).state (after-marked d y j.other t.other) w.1.ungranted in
                rw (asked, named, w.1.ungranted, unready, list, w.1.nothing)
                (begins (signals_of (wire_after x)) (signals_of (wire_after y))
                (ap silent (after_signals x) ∙ silent-append (signals_of (leftovers x)) (departures x) (kept_or_gone x (λ ss. silent ss ≡ true) refl (t.identifies.quiet s)) (early-silent d x j.near e))
                (ap silent (after_signals y) ∙ silent-append (signals_of (leftovers y)) (departures y) (kept_or_gone y (λ ss. silent ss ≡ true) refl (t.identifies.hushed s)) (none-sent s)))
            | inr w ↦ contrary w.0 (ap is_resetting k.phase ∙ hears-out y.node.view.phase f)
          ]

  pub identifies-turn :
      Identifies d (ticking x).state x.port (wire_after x) (ticking y).state y.port (wire_after y)
  identifies-turn = record {
    quiet = quiet-after;
    hushed = hushed-after;
    stale = stale-after;
    front = λ n. (front-after n).0;
    room = λ n. (front-after n).1;
    before = λ c p n. (idle-after c p n).0;
    idle = λ c p n. (idle-after c p n).1;
    line = line-after;
  }
