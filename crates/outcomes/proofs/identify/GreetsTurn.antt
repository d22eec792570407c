-- A turn keeps how the two ends of a cable come to self identify.
use Rattle.std.proofs.Common.{◌≡◌, ◌⊎◌, inl, inr, ℕ, ◌-◌, ◌*◌, ◌≤◌, Bool, true, false, not, ◌&&◌, ◌||◌, List, [], ◌∷◌, ◌++◌, map, refl, sym, ◌∙◌, ap, subst, arith, if◌then◌else◌, true≢false}
use Rattle.std.proofs.Math.Bool.{or_assoc}
use Rattle.std.proofs.lemmas.Bool.{eq-eqb, and_from, and_parts, or_cases, or_parts, false_from_ne_true}
use Rattle.outcomes.proofs.Common.{Level, Phase, Signal, PortView, is_parent, passes, is_port, sent_on, is_resetting, hears_packets, contrary, age_signal, level_sent, shown_or_idle, level_shown, leads_down, level_after, signals_of, has_reset, is_before_tree, is_shaking, is_asking, risen, not-both, Side, hearing, ticking, arrivals, leftovers, departures, wire_after, after_signals, start-before_tree, Pair, any_child, Greets, parent-was}
use Rattle.port_state.specs.declared.signal.Level.TheVariants as level
use Rattle.port_state.specs.declared.signal.Phase.TheVariants as phase
use Rattle.port_state.specs.Ports.{is_child}
use Rattle.std.specs.Prelude.{Option, Some, None, slice_get}
use Rattle.cable_world.specs.Agreement.{level_after_one, level_sent_at}
use Rattle.cable_world.specs.Signals.{is_reset, shows_no_notice, takes_back, has_no_takeback}
use Rattle.cable_world.specs.Coupling.{NoneTakesBack}
use Rattle.cable_world.proofs.Lemmas.{NoEntry, signals-older, has_reset-append, has_no_takeback-append, parent-stays, early-childless, parent-asks, tree_start-known, risen-most, heard_connected, contend_empty, turned-round, heard_shown, heard_low, heard_no_parent, came, other_heard, near_heard, no_reset_before, taken, heard_idle}
use Rattle.outcomes.specs.Identify.{is_child_signal}
use Rattle.convergence.proofs.Lemmas.{parent-late}
use Rattle.outcomes.proofs.identify.LinedTicks.{beat-ticks-on, beat-arrives}
use Rattle.outcomes.proofs.identify.GreetTicks.{beat-ticks-child, beat-becomes-child, beat-leaves-shake, beat-says-child, Asked, beat-asked-before, beat-asking-sends, beat-asks-on}

-- ---- signals

-- with nothing that takes it back, a Parent that is shown stays
said-parent :
    (ss : List Signal) → has_no_takeback ss ≡ true → has_reset ss ≡ false →
    level_after level.Parent ss ≡ level.Parent
said-parent [] h g = refl
said-parent (s ∷ ss) h g =
    let a = and_parts (not (takes_back s)) (has_no_takeback ss) h in
    let b = or_parts (is_reset s) (has_reset ss) g in
    ap (λ l. level_after l ss) (still s a.0 b.0) ∙ said-parent ss a.1 b.1
  where
    still :
        (s : Signal) → not (takes_back s) ≡ true → is_reset s ≡ false →
        level_after_one s level.Parent ≡ level.Parent
    still s h g = grind arith

any_child-append : (xs ys : List Signal) → any_child (xs ++ ys) ≡ (any_child xs || any_child ys)
any_child-append [] ys = refl
any_child-append (x ∷ xs) ys =
    ap (λ b. is_child_signal x || b) (any_child-append xs ys)
    ∙ sym (or_assoc (is_child_signal x) (any_child xs) (any_child ys))

no_fall-no_child : (ss : List Signal) → has_no_takeback ss ≡ true → any_child ss ≡ true → ⊥
no_fall-no_child [] h g = true≢false (sym g)
no_fall-no_child (s ∷ ss) h g =
    let a = and_parts (not (takes_back s)) (has_no_takeback ss) h in
    elim (or_cases (is_child_signal s) (any_child ss) g) [
      | inl c ↦ falls s a.0 c
      | inr c ↦ no_fall-no_child ss a.1 c
    ]
  where
    falls : (s : Signal) → not (takes_back s) ≡ true → is_child_signal s ≡ true → ⊥
    falls s h g = grind arith

module _
    (d : ℕ) (x y : Side) (j : Pair d x y) (g : Greets x.node x.port x.wire y.node y.port y.wire)
  where
    rounded : Pair d y x
    rounded = turned-round d x y j

    -- no Reset is under way from the other node afterwards, nor was
    abbrev NoReset : Type 0
    NoReset = has_reset (signals_of (wire_after y)) ≡ false

    no-reset-kept : NoReset → has_reset (signals_of (leftovers y)) ≡ false
    no-reset-kept a =
        (or_parts (has_reset (signals_of (leftovers y))) (has_reset (departures y))
        (sym (has_reset-append (signals_of (leftovers y)) (departures y))
        ∙ sym (ap has_reset (after_signals y)) ∙ a)).0

    -- a wire that gives nothing keeps what is under way
    held-wire : y.gives ≡ false → signals_of (leftovers y) ≡ signals_of y.wire
    held-wire e = go y.gives e
      where
        go :
            (b : Bool) → b ≡ false → signals_of (if b then [] else map age_signal y.wire)
            ≡ signals_of y.wire
        go true e = absurd (true≢false e)
        go false e = signals-older y.wire

    given-all : y.gives ≡ true → arrivals y ≡ signals_of y.wire
    given-all e = ap (λ (b : Bool). if b then signals_of y.wire else []) e

    given-none : y.gives ≡ false → arrivals y ≡ []
    given-none e = ap (λ (b : Bool). if b then signals_of y.wire else []) e

    kept-none : y.gives ≡ true → leftovers y ≡ []
    kept-none e = ap (λ (b : Bool). if b then [] else map age_signal y.wire) e

    -- the port shows what the other node last told, or what it did
    shows : level_shown (ticking x).state x.port ≡ level_shown (hearing x).state x.port
    shows = j.near.ticks.shown x.port

    shows-told : y.gives ≡ true → level_shown (hearing x).state x.port ≡ level_sent_at y.node y.port
    shows-told e =
        heard_shown d y x rounded ∙ ap (level_after (level_shown x.node x.port)) (given-all e)
        ∙ j.levels_back

    shows-old : y.gives ≡ false → level_shown (hearing x).state x.port ≡ level_shown x.node x.port
    shows-old e =
        heard_shown d y x rounded ∙ ap (level_after (level_shown x.node x.port)) (given-none e)

    -- ---- what the other node said isn't taken back

    other-asked :
        is_asking (ticking y).state y.port ≡ true → NoEntry y.node (hearing y) → Asked y.node y.port
    other-asked a h = elim (beat-asked-before y.beat (hearing y).state y.port a) [
      | inl was ↦
          inl (ap (λ (p : Phase). is_shaking p && is_port y.node.view.parent y.port) (sym h.phase)
          ∙ ap (λ o. is_shaking (hearing y).state.view.phase && is_port o y.port) (sym h.parent)
          ∙ was)
      | inr more ↦ elim more [
        | inl start ↦ inr (inl (sym h.phase ∙ start))
        | inr over ↦
            inr (inr (
              sym h.phase ∙ over.0,
              ap (λ o. is_port o y.port) (sym h.parent) ∙ over.1,
              omega (arith, over.2, h.wait, h.timer),
            ))
      ]
    ]

    kept-parent :
        is_asking (ticking y).state y.port ≡ true →
        level_shown (ticking x).state x.port ≡ level.Parent → NoReset →
        has_no_takeback (signals_of (leftovers y)) ≡ true
    kept-parent a s r = go y.gives refl
      where
        low-parent : (m : Level) → shows_no_notice m ≡ true → m ≡ level.Parent → ⊥
        low-parent m h g = contrary h (ap shows_no_notice g)

        go : (b : Bool) → y.gives ≡ b → has_no_takeback (signals_of (leftovers y)) ≡ true
        go true e = ap (λ ts. has_no_takeback (signals_of ts)) (kept-none e)
        go false e =
            ap has_no_takeback (held-wire e) ∙ elim (other-asked a (other_heard d x y j r)) [
              | inl was ↦ g.asks was shown (sym (ap has_reset (held-wire e)) ∙ no-reset-kept r)
              | inr more ↦ elim more [
                | inl start ↦
                    absurd (low-parent (level_shown x.node x.port)
                    (j.coupled_back.no_notice (tree_start-known d y.node start)).0 shown)
                | inr over ↦
                    ap (λ ts. has_no_takeback (signals_of ts))
                    (contend_empty d y j.some_delay j.other j.coupled_back.timed over.0
                    (omega (
                      arith,
                      over.2,
                      risen-most y.node.view.timer,
                      j.other.waits over.0,
                      j.some_delay,
                    )))
              ]
            ]
          where
            shown : level_shown x.node x.port ≡ level.Parent
            shown = sym (shows-old e) ∙ sym shows ∙ s

    asks-after :
        is_asking (ticking y).state y.port ≡ true →
        level_shown (ticking x).state x.port ≡ level.Parent → NoReset →
        has_no_takeback (signals_of (wire_after y)) ≡ true
    asks-after a s r =
        ap has_no_takeback (after_signals y) ∙ has_no_takeback-append (signals_of (leftovers y))
        (departures y) ∙ and_from _ _ (kept-parent a s r)
        (has_no_takeback-append (sent_on y.port (hearing y).sends)
        (sent_on y.port (ticking y).sends) ∙ and_from _ _ (j.other.hears.takes_none_back y.port)
        (beat-asking-sends y.beat (hearing y).state y.port j.other.ticks.valid
        (j.other.ticks.cables y.port ∙ heard_connected d y j.other) a))

    -- ---- children

    -- the other node asks, and this one is shown it
    goes-on :
        is_asking y.node y.port ≡ true → NoEntry y.node (hearing y) →
        level_shown (hearing x).state x.port ≡ level.Parent →
        is_parent (level_shown (hearing y).state y.port) ≡ false →
        ((is_asking (ticking y).state y.port ≡ true)
        × (level_shown (ticking x).state x.port ≡ level.Parent))
        ⊎ (hears_packets (ticking y).state.view.phase ≡ true)
    goes-on a h s n =
        let still : is_asking (hearing y).state y.port ≡ true =
        ap (λ (p : Phase). is_shaking p && is_port (hearing y).state.view.parent y.port) h.phase
        ∙ ap (λ o. is_shaking y.node.view.phase && is_port o y.port) h.parent ∙ a in
        elim (beat-asks-on y.beat (hearing y).state y.port still n) [
          | inl b ↦ inl (b, shows ∙ s)
          | inr b ↦ inr b
        ]

    hears-on :
        hears_packets y.node.view.phase ≡ true → NoEntry y.node (hearing y) →
        hears_packets (ticking y).state.view.phase ≡ true
    hears-on h s = beat-ticks-on y.beat (hearing y).state (ap hears_packets s.phase ∙ h)

    late : leads_down x.node.view.ports x.port ≡ true → is_resetting x.node.view.phase ≡ false
    late z =
        false_from_ne_true _ (λ e. not-both (leads_down x.node.view.ports x.port) z
        (early-childless x.node j.near.valid x.port (start-before_tree x.node.view.phase e)))

    no-reset :
        leads_down x.node.view.ports x.port ≡ true → NoEntry x.node (hearing x) → NoReset →
        has_reset (signals_of y.wire) ≡ false
    no-reset z h r = no_reset_before d x y j (late z) h r

    -- a Parent that is shown where the other node asks is shown after hearing
    still-parent :
        is_asking y.node y.port ≡ true → level_shown x.node x.port ≡ level.Parent →
        has_reset (signals_of y.wire) ≡ false → level_shown (hearing x).state x.port ≡ level.Parent
    still-parent a s r =
        heard_shown d y x rounded ∙ ap (λ l. level_after l (arrivals y)) s ∙ go y.gives
      where
        go :
            (b : Bool) →
            level_after level.Parent (if b then signals_of y.wire else []) ≡ level.Parent
        go true = said-parent (signals_of y.wire) (g.asks a s r) r
        go false = refl

    -- one that is asked by the other node
    asking-of :
        is_port y.node.view.parent y.port ≡ true →
        (is_before_tree y.node.view.phase || is_asking y.node y.port) ≡ true →
        is_asking y.node y.port ≡ true
    asking-of p e = elim (or_cases (is_before_tree y.node.view.phase) (is_asking y.node y.port) e) [
      | inl b ↦ contrary b (parent-late y.node j.other.valid y.port p)
      | inr b ↦ b
    ]

    greeted-after :
        leads_down (ticking x).state.view.ports x.port ≡ true → NoReset →
        ((is_asking (ticking y).state y.port ≡ true)
        × (level_shown (ticking x).state x.port ≡ level.Parent))
        ⊎ (hears_packets (ticking y).state.view.phase ≡ true)
    greeted-after c r = elim (j.near.ticks.child x.port (heard_connected d x j.near) c) [
      | inl z ↦ old (sym (h.child x.port) ∙ z)
      | inr o ↦ elim o [
        | inl z ↦
            let t : x.node.view.phase ≡ phase.TreeStart = sym h.phase ∙ z.0 in
            let calm = no_reset_before d x y j (ap is_resetting t) h r in
            let l = j.coupled.no_notice (tree_start-known d x.node t) in
            goes-on (asking-of (taken d x y j t z.1 calm)
            (j.coupled.early (tree_start-known d x.node t))) k z.1
            (low_parent (level_shown (hearing y).state y.port) (heard_low d x y j l.0 l.1))
        | inr z ↦
            fought (sym h.phase ∙ z.0) (ap (λ o. is_port o x.port) (sym h.parent ∙ z.1)
            ∙ eq-eqb x.port x.port refl) z.2 (omega (arith, h.wait, z.3))
      ]
    ]
      where
        h : NoEntry x.node (hearing x)
        h = near_heard d x y j c

        k : NoEntry y.node (hearing y)
        k = other_heard d x y j r

        low_parent : (l : Level) → shows_no_notice l ≡ true → is_parent l ≡ false
        low_parent l h = grind arith

        old :
            leads_down x.node.view.ports x.port ≡ true →
            ((is_asking (ticking y).state y.port ≡ true)
            × (level_shown (ticking x).state x.port ≡ level.Parent))
            ⊎ (hears_packets (ticking y).state.view.phase ≡ true)
        old z =
            let calm = no-reset z h r in
            let i = j.coupled.child z calm in
            elim (g.greeted z calm) [
              | inl a ↦ goes-on a.0 k (still-parent a.0 a.1 calm) (heard_no_parent d x y j i.1 i.2)
              | inr a ↦ inr (hears-on a k)
            ]

        fought :
            x.node.view.phase ≡ phase.Contend → is_port x.node.view.parent x.port ≡ true →
            level_shown (hearing x).state x.port ≡ level.Parent →
            x.node.view.wait ≤ risen (hearing x).state.view.timer →
            ((is_asking (ticking y).state y.port ≡ true)
            × (level_shown (ticking x).state x.port ≡ level.Parent))
            ⊎ (hears_packets (ticking y).state.view.phase ≡ true)
        fought t b s f =
            let p =
            parent-asks y.node j.other.valid y.port j.other.connected
            (told y.gives (sym (heard_shown d y x rounded) ∙ s)) in
            goes-on (and_from (is_shaking y.node.view.phase) (is_port y.node.view.parent y.port) p.0
            p.1) k s (ap is_parent (heard_idle d x y j t b long))
          where
            twice : 2 * d ≤ x.node.view.timer
            twice =
                omega (
                  arith,
                  f,
                  h.timer,
                  risen-most (hearing x).state.view.timer,
                  j.near.waits t,
                  j.some_delay,
                )

            long : d ≤ x.node.view.timer
            long = omega (arith, twice)

            calm : has_reset (signals_of y.wire) ≡ false
            calm = no_reset_before d x y j (ap is_resetting t) h r

            told :
                (v : Bool) → level_after (level_shown x.node x.port)
                (if v then signals_of y.wire else []) ≡ level.Parent →
                level_sent_at y.node y.port ≡ level.Parent
            told true q = sym j.levels_back ∙ q
            told false q =
                sym j.levels_back ∙ ap (λ l. level_after l (signals_of y.wire)) q
                ∙ parent-stays (x.node.view.timer - d) (d - 1) y.wire
                (omega (arith, twice, j.some_delay)) j.other.ages calm
                (subst (λ l. NoneTakesBack (x.node.view.timer - d) l y.wire) q
                (j.coupled.contend t b))

    both-after :
        leads_down (ticking x).state.view.ports x.port ≡ true → NoReset →
        ((ticking x).state.view.phase ≡ phase.ChildShake)
        ⊎ (hears_packets (ticking y).state.view.phase ≡ true)
    both-after c r = elim (beat-becomes-child x.beat (hearing x).state x.port c) [
      | inl z ↦ old (sym (h.child x.port) ∙ z) z
      | inr z ↦ inl z
    ]
      where
        h : NoEntry x.node (hearing x)
        h = near_heard d x y j c

        k : NoEntry y.node (hearing y)
        k = other_heard d x y j r

        shown-twice : (l : Level) → l ≡ level.Parent → l ≡ level.Idle → ⊥
        shown-twice l a b = grind arith

        old :
            leads_down x.node.view.ports x.port ≡ true →
            leads_down (hearing x).state.view.ports x.port ≡ true →
            ((ticking x).state.view.phase ≡ phase.ChildShake)
            ⊎ (hears_packets (ticking y).state.view.phase ≡ true)
        old z zh =
            let calm = no-reset z h r in
            elim (g.both z calm) [
              | inl s ↦
                  elim (beat-leaves-shake x.beat (hearing x).state x.port (h.phase ∙ s)
                  (heard_connected d x j.near) zh) [
                    | inl stays ↦ inl stays
                    | inr idle ↦ elim (g.greeted z calm) [
                      | inl a ↦
                          absurd (shown-twice (level_shown (hearing x).state x.port)
                          (still-parent a.0 a.1 calm) idle)
                      | inr a ↦ inr (hears-on a k)
                    ]
                  ]
              | inr a ↦ inr (hears-on a k)
            ]

    -- ---- Child

    child-on :
        leads_down y.node.view.ports y.port ≡ true → NoEntry y.node (hearing y) →
        leads_down (ticking y).state.view.ports y.port ≡ true
    child-on e h = beat-ticks-child y.beat (hearing y).state y.port (h.child y.port ∙ e)

    out-child : (h : Phase) (b : Bool) → level_sent h b ≡ level.Child → b ≡ true
    out-child h b e = grind arith

    -- a node that has heard a Child has a parent
    heard-child :
        has_reset (signals_of (leftovers y)) ≡ false →
        level_shown (hearing x).state x.port ≡ level.Child →
        leads_down y.node.view.ports y.port ≡ true
    heard-child r s = go y.gives refl
      where
        go : (b : Bool) → y.gives ≡ b → leads_down y.node.view.ports y.port ≡ true
        go true e =
            out-child y.node.view.phase (leads_down y.node.view.ports y.port)
            (sym (shows-told e) ∙ s)
        go false e = g.says_shown (sym (ap has_reset (held-wire e)) ∙ r) (sym (shows-old e) ∙ s)

    says_shown-after :
        NoReset → level_shown (ticking x).state x.port ≡ level.Child →
        leads_down (ticking y).state.view.ports y.port ≡ true
    says_shown-after r s =
        child-on (heard-child (no-reset-kept r) (sym shows ∙ s)) (other_heard d x y j r)

    says-after :
        NoReset → any_child (signals_of (wire_after y)) ≡ true →
        leads_down (ticking y).state.view.ports y.port ≡ true
    says-after r s =
        elim (or_cases (any_child (signals_of (leftovers y))) (any_child (departures y))
        (sym (any_child-append (signals_of (leftovers y)) (departures y))
        ∙ sym (ap any_child (after_signals y)) ∙ s)) [
          | inl a ↦ child-on (before y.gives refl a) (other_heard d x y j r)
          | inr a ↦
              elim (or_cases (any_child (sent_on y.port (hearing y).sends))
              (any_child (sent_on y.port (ticking y).sends))
              (sym (any_child-append (sent_on y.port (hearing y).sends)
              (sent_on y.port (ticking y).sends)) ∙ a)) [
                | inl b ↦
                    absurd (no_fall-no_child (sent_on y.port (hearing y).sends)
                    (j.other.hears.takes_none_back y.port) b)
                | inr b ↦ beat-says-child y.beat (hearing y).state y.port (heard_connected d y j.other) b
              ]
        ]
      where
        before :
            (b : Bool) → y.gives ≡ b → any_child (signals_of (leftovers y)) ≡ true →
            leads_down y.node.view.ports y.port ≡ true
        before true e a = contrary a (ap (λ ts. any_child (signals_of ts)) (kept-none e))
        before false e a =
            g.says (sym (ap has_reset (held-wire e)) ∙ no-reset-kept r)
            (sym (ap any_child (held-wire e)) ∙ a)

    accepted-after :
        hears_packets (ticking x).state.view.phase ≡ true →
        is_port (ticking x).state.view.parent x.port ≡ true → NoReset →
        leads_down (ticking y).state.view.ports y.port ≡ true
    accepted-after n p r = elim j.near.hears.cases [
      | inl h ↦ go h (hears_packets x.node.view.phase) refl
      | inr b ↦ absurd (resetting (ticking x).state.view.phase (came d x y j b).0 n)
    ]
      where
        resetting : (h : Phase) → is_resetting h ≡ true → hears_packets h ≡ true → ⊥
        resetting h a b = grind arith

        out-of : (h : Phase) → hears_packets h ≡ true → is_resetting h ≡ false
        out-of h a = grind arith

        start : (h : Phase) → h ≡ phase.TreeStart → hears_packets h ≡ true → ⊥
        start h a b = contrary b (ap hears_packets a)

        is-child :
            (o : Option PortView) → passes (λ q. is_child q.shown) o ≡ true →
            shown_or_idle o ≡ level.Child
        is-child None e = absurd (true≢false (sym e))
        is-child (Some q) e = one q.shown e
          where
            one : (l : Level) → is_child l ≡ true → l ≡ level.Child
            one l e = grind arith

        go :
            NoEntry x.node (hearing x) → (b : Bool) → hears_packets x.node.view.phase ≡ b →
            leads_down (ticking y).state.view.ports y.port ≡ true
        go h true e = elim (parent-was x.beat (hearing x).state x.port p) [
          | inl was ↦
              child-on (g.accepted e (sym (ap (λ o. is_port o x.port) h.parent) ∙ was)
              (no_reset_before d x y j (out-of x.node.view.phase e) h r)) (other_heard d x y j r)
          | inr s ↦ absurd (start (hearing x).state.view.phase s (ap hears_packets h.phase ∙ e))
        ]
        go h false e =
            let a = beat-arrives x.beat (hearing x).state (ap hears_packets h.phase ∙ e) n in
            let was : is_port (hearing x).state.view.parent x.port ≡ true =
            sym (ap (λ o. is_port o x.port) a.parent) ∙ p in
            elim a.how [
              | inl none ↦ contrary was (ap (λ o. is_port o x.port) none)
              | inr t ↦
                  child-on (heard-child (no-reset-kept r)
                  (is-child (slice_get (hearing x).state.view.ports x.port) (t.1 x.port was)))
                  (other_heard d x y j r)
            ]

    pub greets-turn :
        Greets (ticking x).state x.port (wire_after x) (ticking y).state y.port (wire_after y)
    greets-turn = record {
      asks = asks-after;
      greeted = greeted-after;
      both = both-after;
      says_shown = says_shown-after;
      says = says-after;
      accepted = accepted-after;
    }
