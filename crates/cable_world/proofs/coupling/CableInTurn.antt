-- A turn keeps what is so at the two ends of a cable.
use Rattle.std.proofs.Common.{◌≡◌, ◌⊎◌, inl, inr, ℕ, ◌+◌, ◌-◌, ◌*◌, ◌<◌, ◌≤◌, Bool, true, false, not, ◌&&◌, ◌||◌, List, [], ◌++◌, map, refl, sym, ◌∙◌, ap, subst, arith, if◌then◌else◌}
use Rattle.std.specs.Prelude.{nat_lt}
use Rattle.std.proofs.lemmas.Bool.{eq-eqb, and_from, or_cases, or_left, or_parts}
use Rattle.port_state.specs.declared.signal.Level.{Level}
use Rattle.port_state.specs.declared.signal.Level.TheVariants as level
use Rattle.port_state.specs.declared.signal.Phase.{Phase}
use Rattle.port_state.specs.declared.signal.Phase.TheVariants as phase
use Rattle.port_state.specs.declared.signal.Signal.{Signal}
use Rattle.cable_world.proofs.Times.{SuitsCables}
use Rattle.port_state.specs.Ports.{is_parent, is_port}
use Rattle.port_state.specs.Sends.{sent_on}
use Rattle.port_state.specs.Heard.{is_resetting, hears_packets}
use Rattle.cable_world.specs.Wire.{Travelling, new_signal, age_signal}
use Rattle.cable_world.specs.Agreement.{level_sent, level_shown, leads_down, level_after, level_sent_at}
use Rattle.cable_world.specs.Phases.{is_before_tree, is_after_hold, is_shaking, is_timed, slack}
use Rattle.cable_world.specs.Signals.{signals_of, has_reset, shows_no_notice, has_no_notice, has_no_parent_signal, has_no_takeback, AllAsOldAs}
use Rattle.cable_world.specs.Coupling.{NoneTakesBack, is_asking, is_reset_known, Coupling}
use Rattle.cable_world.proofs.levels.LastSent.{level_after-append, child-if}
use Rattle.cable_world.proofs.turns.NodeFacts.{NoEntry, EntersReset, risen}
use Rattle.cable_world.proofs.PhaseFacts.{start-timed, start-slack, start-before_tree, start-contend, after_hold-before_tree, bus_reset-before_tree, contend-late, timed-relays_none, start-sent, reset-sent, contend-sent, before_tree-parent}
use Rattle.cable_world.proofs.coupling.Streams.{not-both, signals-older, has_reset-append, has_no_notice-append, has_no_takeback-append, has_no_parent_signal-append, level_after-low, level_after-has_no_parent_signal, low-has_no_parent_signal, level_after-reset, AllAsOldAs-zero, AllAsOldAs-less, nothing-left, reset-age, NoneTakesBack-append, NoneTakesBack-older, NoneTakesBack-zero, NoneTakesBack-has_no_takeback, NoneTakesBack-has_no_parent_signal, parent-stays}
use Rattle.cable_world.proofs.coupling.Sides.{Side, hearing, ticking, arrivals, leftovers, departures, wire_after, Ready, early-childless, late-roles, parent-asks, known-cases, between-known, tree_start-known, risen-most, heard_timing, heard_connected, heard_parent, timer_rises, calm_sent, hold_fits, came_after, came_silent, came_unknown, same_wire, kept_since, after_signals, kept_or_gone, contend_empty, watches-turn}

-- ---- both sides

-- what is so of both before the turn
pub record Pair (d : ℕ) (x y : Side) : Type 0 where
  pub some_delay : 1 ≤ d
  pub near : Ready d x
  pub other : Ready d y
  pub comes : sent_on x.port x.inbox ≡ arrivals y
  pub goes : sent_on y.port y.inbox ≡ arrivals x
  pub levels :
      level_after (level_shown y.node y.port) (signals_of x.wire) ≡ level_sent_at x.node x.port
  pub levels_back :
      level_after (level_shown x.node x.port) (signals_of y.wire) ≡ level_sent_at y.node y.port
  pub coupled : Coupling d x.node x.port x.wire y.node y.port y.wire
  pub coupled_back : Coupling d y.node y.port y.wire x.node x.port x.wire

pub turned-round : (d : ℕ) (x y : Side) → Pair d x y → Pair d y x
turned-round d x y j = record {
  some_delay = j.some_delay;
  near = j.other;
  other = j.near;
  comes = j.goes;
  goes = j.comes;
  levels = j.levels_back;
  levels_back = j.levels;
  coupled = j.coupled_back;
  coupled_back = j.coupled;
}

module _ (d : ℕ) (x y : Side) (j : Pair d x y) where
  -- what the other end shows, once it has heard, and after the turn
  pub heard_shown :
      level_shown (hearing y).state y.port ≡ level_after (level_shown y.node y.port) (arrivals x)
  heard_shown = j.other.hears.shown y.port j.other.connected ∙ ap (level_after (level_shown y.node y.port)) j.goes

  pub after_shown :
      level_shown (ticking y).state y.port ≡ level_after (level_shown y.node y.port) (arrivals x)
  after_shown = j.other.ticks.shown y.port ∙ heard_shown

  -- what the wire gave is shown, and the rest is under way
  pub kept_levels :
      level_after (level_after (level_shown y.node y.port) (arrivals x)) (signals_of (leftovers x))
      ≡ level_sent_at x.node x.port
  kept_levels = go x.gives
    where
      go :
          (b : Bool) →
          level_after (level_after (level_shown y.node y.port) (if b then signals_of x.wire else [])) (signals_of (if b then [] else map age_signal x.wire))
          ≡ level_sent_at x.node x.port
      go true = j.levels
      go false = ap (level_after (level_shown y.node y.port)) (signals-older x.wire) ∙ j.levels

  sent_levels :
      level_after (level_sent_at x.node x.port) (departures x)
      ≡ level_sent_at (ticking x).state x.port
  sent_levels =
      level_after-append (level_sent_at x.node x.port) (sent_on x.port (hearing x).sends) (sent_on x.port (ticking x).sends)
      ∙ ap (λ l. level_after l (sent_on x.port (ticking x).sends)) (j.near.hears.says x.port j.near.connected)
      ∙ j.near.ticks.says x.port (heard_connected d x j.near)

  -- the levels agree after the turn
  pub levels_after :
      level_after (level_shown (ticking y).state y.port) (signals_of (wire_after x))
      ≡ level_sent_at (ticking x).state x.port
  levels_after =
      ap (λ l. level_after l (signals_of (wire_after x))) after_shown
      ∙ ap (level_after (level_after (level_shown y.node y.port) (arrivals x))) (after_signals x)
      ∙ level_after-append (level_after (level_shown y.node y.port) (arrivals x)) (signals_of (leftovers x)) (departures x)
      ∙ ap (λ l. level_after l (departures x)) kept_levels
      ∙ sent_levels

  pub heard_low :
      shows_no_notice (level_shown y.node y.port) ≡ true →
      has_no_notice (signals_of x.wire) ≡ true →
      shows_no_notice (level_shown (hearing y).state y.port) ≡ true
  heard_low s t = ap shows_no_notice heard_shown ∙ go x.gives
    where
      go :
          (b : Bool) →
          shows_no_notice (level_after (level_shown y.node y.port) (if b then signals_of x.wire else []))
          ≡ true
      go true = level_after-low (level_shown y.node y.port) (signals_of x.wire) s t
      go false = s

  pub heard_no_parent :
      is_parent (level_shown y.node y.port) ≡ false →
      has_no_parent_signal (signals_of x.wire) ≡ true →
      is_parent (level_shown (hearing y).state y.port) ≡ false
  heard_no_parent s t = ap is_parent heard_shown ∙ go x.gives
    where
      go :
          (b : Bool) →
          is_parent (level_after (level_shown y.node y.port) (if b then signals_of x.wire else []))
          ≡ false
      go true = level_after-has_no_parent_signal (level_shown y.node y.port) (signals_of x.wire) s t
      go false = s

  pub came :
      EntersReset x.node (hearing x) →
      (is_resetting (ticking x).state.view.phase ≡ true) × ((ticking x).state.view.timer ≤ 1)
  came c = came_after d x j.some_delay j.near c

  -- the facts, one by one
  timed_after :
      is_timed (ticking x).state.view.phase ≡ true →
      AllAsOldAs ((ticking x).state.view.timer - slack (ticking x).state.view.phase) (wire_after x)
  timed_after t = elim j.near.hears.cases [
    | inl h ↦ calm h (j.near.ticks.timed t)
    | inr c ↦ AllAsOldAs-less ((ticking x).state.view.timer - slack (ticking x).state.view.phase) 0 (wire_after x) (one c) (AllAsOldAs-zero (wire_after x))
  ]
    where
      one :
          EntersReset x.node (hearing x) →
          (ticking x).state.view.timer - slack (ticking x).state.view.phase ≤ 0
      one c = omega (arith, (came c).1, start-slack (ticking x).state.view.phase (came c).0)

      less : (a b c : ℕ) → a ≤ b + 1 → a - c ≤ b - c + 1
      less a b c h = omega (arith, h)

      calm :
          NoEntry x.node (hearing x) →
          (((ticking x).state.view.phase ≡ (hearing x).state.view.phase) × ((ticking x).state.view.timer ≤ (hearing x).state.view.timer + 1) × ((ticking x).sends ≡ []))
          ⊎ ((ticking x).state.view.timer ≡ 0) →
          AllAsOldAs ((ticking x).state.view.timer - slack (ticking x).state.view.phase) (wire_after x)
      calm h (inl s) =
          let ph : (ticking x).state.view.phase ≡ x.node.view.phase = s.0 ∙ h.phase in
          let was : is_timed x.node.view.phase ≡ true = ap is_timed (sym ph) ∙ t in
          let since : AllAsOldAs ((ticking x).state.view.timer - slack x.node.view.phase) (leftovers x)
          = AllAsOldAs-less ((ticking x).state.view.timer - slack x.node.view.phase) (x.node.view.timer - slack x.node.view.phase + 1) (leftovers x)
          (less (ticking x).state.view.timer x.node.view.timer (slack x.node.view.phase) (timer_rises x h (ticking x).state.view.timer s.1))
          (kept_since x (x.node.view.timer - slack x.node.view.phase) (j.coupled.timed was)) in
          subst (λ ts. AllAsOldAs ((ticking x).state.view.timer - slack (ticking x).state.view.phase) ts) (sym (same_wire x (h.sends (timed-relays_none x.node.view.phase was)) s.2))
          (subst (λ p. AllAsOldAs ((ticking x).state.view.timer - slack p) (leftovers x)) (sym ph) since)
      calm h (inr z) = AllAsOldAs-less ((ticking x).state.view.timer - slack (ticking x).state.view.phase) 0 (wire_after x) (omega (arith, z)) (AllAsOldAs-zero (wire_after x))

  -- nothing is under way from a node that has been in R0 for long
  empty_after :
      is_resetting (ticking x).state.view.phase ≡ true → d < (ticking x).state.view.timer →
      wire_after x ≡ []
  empty_after r t =
      nothing-left d (wire_after x) j.some_delay
      (AllAsOldAs-less d ((ticking x).state.view.timer - slack (ticking x).state.view.phase) (wire_after x) (omega (arith, t, start-slack (ticking x).state.view.phase r)) (timed_after (start-timed (ticking x).state.view.phase r)))
      j.near.ages_after

  -- then the other end shows Reset
  shows_reset_after :
      is_resetting (ticking x).state.view.phase ≡ true → d < (ticking x).state.view.timer →
      level_shown (ticking y).state y.port ≡ level.Reset
  shows_reset_after r t =
      ap (λ ts. level_after (level_shown (ticking y).state y.port) (signals_of ts)) (sym (empty_after r t)) ∙ levels_after ∙ start-sent (ticking x).state.view.phase (leads_down (ticking x).state.view.ports x.port) r

  unknown : EntersReset x.node (hearing x) → is_reset_known d (ticking x).state ≡ true → ⊥
  unknown c s = came_unknown d x j.some_delay j.near c s

  -- past R0, the reset was known before
  known_before :
      is_after_hold (ticking x).state.view.phase ≡ true → NoEntry x.node (hearing x) →
      is_reset_known d x.node ≡ true
  known_before m h = elim (j.near.ticks.between m) [
    | inl a ↦ between-known d x.node (ap is_after_hold (sym h.phase) ∙ a)
    | inr a ↦ long x.node.view.phase x.node.view.timer (ap is_resetting (sym h.phase) ∙ a.0)
        (omega (arith, h.timer, a.1, risen-most (hearing x).state.view.timer, (heard_timing d x j.near).hold_least, j.some_delay))
  ]
    where
      long :
          (h : Phase) (t : ℕ) → is_resetting h ≡ true → d < t →
          ((is_resetting h && nat_lt d t) || is_after_hold h) ≡ true
      long h t r l = grind arith

  low_after :
      is_reset_known d (ticking x).state ≡ true →
      (shows_no_notice (level_shown (ticking y).state y.port) ≡ true)
      × (has_no_notice (signals_of (wire_after x)) ≡ true)
  low_after s = elim (known-cases d (ticking x).state s) [
    | inl r ↦ (ap shows_no_notice (shows_reset_after r.0 r.1), ap (λ ts. has_no_notice (signals_of ts)) (empty_after r.0 r.1))
    | inr m ↦ elim j.near.hears.cases [ inl h ↦ middle m h | inr c ↦ absurd (unknown c s) ]
  ]
    where
      silent :
          (h : Phase) (b : Bool) → ((is_resetting h && b) || is_after_hold h) ≡ true →
          hears_packets h ≡ false
      silent h b s = grind arith

      middle :
          is_after_hold (ticking x).state.view.phase ≡ true → NoEntry x.node (hearing x) →
          (shows_no_notice (level_shown (ticking y).state y.port) ≡ true)
          × (has_no_notice (signals_of (wire_after x)) ≡ true)
      middle m h =
          let was : is_reset_known d x.node ≡ true = known_before m h in
          let l : (shows_no_notice (level_shown y.node y.port) ≡ true) × (has_no_notice (signals_of x.wire) ≡ true) = j.coupled.no_notice was in
          let none : (hearing x).sends ≡ [] = h.sends (silent x.node.view.phase (nat_lt d x.node.view.timer) was) in
          let told : has_no_notice (sent_on x.port (hearing x).sends) ≡ true = ap (λ ss. has_no_notice (sent_on x.port ss)) none in
          let ticks : has_no_notice (sent_on x.port (ticking x).sends) ≡ true
          = j.near.ticks.no_notice x.port (heard_connected d x j.near) (after_hold-before_tree (ticking x).state.view.phase m) in
          let stay : has_no_notice (signals_of (leftovers x)) ≡ true = kept_or_gone x (λ ss. has_no_notice ss ≡ true) refl l.1 in (
            ap shows_no_notice (j.other.ticks.shown y.port) ∙ heard_low l.0 l.1,
            ap has_no_notice (after_signals x)
                ∙ has_no_notice-append (signals_of (leftovers x)) (departures x)
                ∙ and_from (has_no_notice (signals_of (leftovers x))) (has_no_notice (departures x)) stay
                (has_no_notice-append (sent_on x.port (hearing x).sends) (sent_on x.port (ticking x).sends) ∙ and_from (has_no_notice (sent_on x.port (hearing x).sends)) (has_no_notice (sent_on x.port (ticking x).sends)) told ticks),
          )

  reset_after :
      has_reset (signals_of (wire_after x)) ≡ true →
      is_resetting (ticking x).state.view.phase ≡ true
  reset_after a = elim j.near.hears.cases [
    | inl h ↦ still h (elim (or_cases (has_reset (signals_of (leftovers x))) (has_reset (departures x)) (sym split ∙ a)) [
      | inl b ↦ kept_or_gone x (λ ss. has_reset ss ≡ true → has_reset (signals_of x.wire) ≡ true) (λ n. absurd cc) (λ n. n) b
      | inr b ↦ absurd (not-both (has_reset (departures x)) b (calm_sent d x j.near h))
    ])
    | inr c ↦ (came c).0
  ]
    where
      split :
          has_reset (signals_of (wire_after x))
          ≡ (has_reset (signals_of (leftovers x)) || has_reset (departures x))
      split = ap has_reset (after_signals x) ∙ has_reset-append (signals_of (leftovers x)) (departures x)

      still :
          NoEntry x.node (hearing x) → has_reset (signals_of x.wire) ≡ true →
          is_resetting (ticking x).state.view.phase ≡ true
      still h b =
          let r : is_resetting x.node.view.phase ≡ true = j.coupled.reset b in
          let t : x.node.view.timer - slack x.node.view.phase ≤ d - 1 = reset-age (d - 1) (x.node.view.timer - slack x.node.view.phase) x.wire b (j.coupled.timed (start-timed x.node.view.phase r)) j.near.ages in
          let i : SuitsCables d (hearing x).state.timing = heard_timing d x j.near in
          (j.near.ticks.holds (ap is_resetting h.phase ∙ r) (omega (arith, t, start-slack x.node.view.phase r, h.timer, i.hold_least, j.some_delay)) (hold_fits d x j.some_delay j.near)).0

-- ---- facts that look at both sides

module _ (d : ℕ) (x y : Side) (j : Pair d x y) where
  back : Pair d y x
  back = turned-round d x y j

  early_after :
      is_reset_known d (ticking x).state ≡ true →
      (is_before_tree (ticking y).state.view.phase || is_asking (ticking y).state y.port) ≡ true
  early_after s = elim (known-cases d (ticking x).state s) [
    | inl r ↦ or_left (is_before_tree (ticking y).state.view.phase) (is_asking (ticking y).state y.port)
        (bus_reset-before_tree (ticking y).state.view.phase
        (watches-turn y.inbox y.beat y.node j.other.hears j.other.ticks j.other.watches y.port (j.other.ticks.cables y.port ∙ heard_connected d y j.other) (shows_reset_after d x y j r.0 r.1)))
    | inr m ↦ elim j.near.hears.cases [ inl h ↦ middle (known_before d x y j m h) | inr c ↦ absurd (unknown d x y j c s) ]
  ]
    where
      middle :
          is_reset_known d x.node ≡ true →
          (is_before_tree (ticking y).state.view.phase || is_asking (ticking y).state y.port) ≡ true
      middle was = elim j.other.hears.cases [
        | inl h ↦ j.other.ticks.early y.port (heard_connected d y j.other) (heard_low d x y j (j.coupled.no_notice was).0 (j.coupled.no_notice was).1)
            (ap (λ p. is_before_tree p || (is_shaking p && is_port (hearing y).state.view.parent y.port)) h.phase
            ∙ ap (λ o. is_before_tree y.node.view.phase || (is_shaking y.node.view.phase && is_port o y.port)) h.parent ∙ j.coupled.early was)
        | inr c ↦ or_left (is_before_tree (ticking y).state.view.phase) (is_asking (ticking y).state y.port) (start-before_tree (ticking y).state.view.phase (came d y x back c).0)
      ]

  -- the other node doesn't begin a reset, if no Reset is under way from it afterwards
  pub other_heard : has_reset (signals_of (wire_after y)) ≡ false → NoEntry y.node (hearing y)
  other_heard a = elim j.other.hears.cases [ inl h ↦ h | inr c ↦ absurd (not-both (has_reset (signals_of (wire_after y))) (sends c) a) ]
    where
      reset_sent :
          EntersReset y.node (hearing y) → has_reset (sent_on y.port (hearing y).sends) ≡ true
      reset_sent c = level_after-reset (level_sent_at y.node y.port) (sent_on y.port (hearing y).sends)
          (j.other.hears.says y.port j.other.connected ∙ start-sent (hearing y).state.view.phase (leads_down (hearing y).state.view.ports y.port) (ap is_resetting c.phase))
          (reset-sent y.node.view.phase (leads_down y.node.view.ports y.port) c.before)

      last : (a b c : Bool) → b ≡ true → (a || (b || c)) ≡ true
      last a b c h = grind arith

      sends : EntersReset y.node (hearing y) → has_reset (signals_of (wire_after y)) ≡ true
      sends c =
          ap has_reset (after_signals y)
          ∙ has_reset-append (signals_of (leftovers y)) (departures y)
          ∙ ap (λ b. has_reset (signals_of (leftovers y)) || b) (has_reset-append (sent_on y.port (hearing y).sends) (sent_on y.port (ticking y).sends))
          ∙ last (has_reset (signals_of (leftovers y))) (has_reset (sent_on y.port (hearing y).sends)) (has_reset (sent_on y.port (ticking y).sends)) (reset_sent c)

  -- a node doesn't begin a reset, if its port leads to a child afterwards
  pub near_heard :
      leads_down (ticking x).state.view.ports x.port ≡ true → NoEntry x.node (hearing x)
  near_heard c = elim j.near.hears.cases [
    | inl h ↦ h
    | inr a ↦ absurd (not-both (leads_down (ticking x).state.view.ports x.port) c
        (early-childless (ticking x).state j.near.ticks.valid x.port (start-before_tree (ticking x).state.view.phase (came d x y j a).0)))
  ]

  -- no Reset was under way to a node that begins none, if none is afterwards
  pub no_reset_before :
      is_resetting x.node.view.phase ≡ false → NoEntry x.node (hearing x) →
      has_reset (signals_of (wire_after y)) ≡ false → has_reset (signals_of y.wire) ≡ false
  no_reset_before r h a = go (has_reset (signals_of y.wire)) refl
    where
      stays : has_reset (signals_of (leftovers y)) ≡ false
      stays = (or_parts (has_reset (signals_of (leftovers y))) (has_reset (departures y))
          (sym (has_reset-append (signals_of (leftovers y)) (departures y)) ∙ sym (ap has_reset (after_signals y)) ∙ a)).0

      heard_reset : has_reset (arrivals y) ≡ true → ⊥
      heard_reset t = not-both (is_resetting (hearing x).state.view.phase)
          (j.near.hears.enters x.port j.near.connected (ap has_reset j.comes ∙ t)) (ap is_resetting h.phase ∙ r)

      none :
          has_reset (signals_of y.wire) ≡ true → (b : Bool) →
          (has_reset (if b then signals_of y.wire else []) ≡ true → ⊥) →
          has_reset (signals_of (if b then [] else map age_signal y.wire)) ≡ false → ⊥
      none t true f g = f t
      none t false f g = not-both (has_reset (signals_of y.wire)) t (sym (ap has_reset (signals-older y.wire)) ∙ g)

      go : (b : Bool) → has_reset (signals_of y.wire) ≡ b → has_reset (signals_of y.wire) ≡ false
      go true t = absurd (none t y.gives heard_reset stays)
      go false t = t

  -- the other node keeps this one for its parent, and no Parent is shown or sent to it
  stays_so :
      leads_down (ticking x).state.view.ports x.port ≡ true → NoEntry x.node (hearing x) →
      NoEntry y.node (hearing y) → is_port y.node.view.parent y.port ≡ true →
      is_parent (level_shown y.node y.port) ≡ false →
      has_no_parent_signal (signals_of x.wire) ≡ true →
      (is_port (ticking y).state.view.parent y.port ≡ true)
      × (is_parent (level_shown (ticking y).state y.port) ≡ false)
      × (has_no_parent_signal (signals_of (wire_after x)) ≡ true)
  stays_so c h g a b n =
      let later : is_parent (level_shown (hearing y).state y.port) ≡ false = heard_no_parent d x y j b n in
      let stay : has_no_parent_signal (signals_of (leftovers x)) ≡ true = kept_or_gone x (λ ss. has_no_parent_signal ss ≡ true) refl n in (
        j.other.ticks.parent y.port (heard_parent y g y.port a) later,
        ap is_parent (j.other.ticks.shown y.port) ∙ later,
        ap has_no_parent_signal (after_signals x)
            ∙ has_no_parent_signal-append (signals_of (leftovers x)) (departures x)
            ∙ and_from (has_no_parent_signal (signals_of (leftovers x))) (has_no_parent_signal (departures x)) stay
            (has_no_parent_signal-append (sent_on x.port (hearing x).sends) (sent_on x.port (ticking x).sends)
            ∙ and_from (has_no_parent_signal (sent_on x.port (hearing x).sends)) (has_no_parent_signal (sent_on x.port (ticking x).sends)) (j.near.hears.asks_none x.port)
            (j.near.ticks.asks_no_child x.port (heard_connected d x j.near) c)),
      )

  -- a node in T0 that is shown Parent: the other one asks it
  pub taken :
      x.node.view.phase ≡ phase.TreeStart → level_shown (hearing x).state x.port ≡ level.Parent →
      has_reset (signals_of y.wire) ≡ false → is_port y.node.view.parent y.port ≡ true
  taken t s r = go (is_before_tree y.node.view.phase) refl (j.coupled.early (tree_start-known d x.node t))
    where
      shows : level_after (level_shown x.node x.port) (arrivals y) ≡ level.Parent
      shows = sym (heard_shown d y x back) ∙ s

      cases :
          (h : Phase) → is_before_tree h ≡ true → (is_after_hold h ≡ true) ⊎ (h ≡ phase.ResetStart)
      cases h a = grind arith

      low : (l : Level) → shows_no_notice l ≡ true → l ≡ level.Parent → ⊥
      low l a b = grind arith

      asks : (a b c : Bool) → a ≡ false → (a || (b && c)) ≡ true → c ≡ true
      asks a b c f t = grind arith

      other_level : (l : Level) → l ≡ level.Parent → l ≡ level.Reset → ⊥
      other_level l a b = grind arith

      never :
          is_before_tree y.node.view.phase ≡ true → (g : Bool) →
          level_after (level_shown x.node x.port) (if g then signals_of y.wire else [])
          ≡ level.Parent →
          ⊥
      never a true h = before_tree-parent y.node.view.phase (leads_down y.node.view.ports y.port) a (sym j.levels_back ∙ h)
      never a false h = elim (cases y.node.view.phase a) [
        | inl b ↦ low (level_shown x.node x.port) (j.coupled_back.no_notice (between-known d y.node b)).0 h
        | inr b ↦ not-both (has_reset (signals_of y.wire))
            (level_after-reset (level_shown x.node x.port) (signals_of y.wire) (j.levels_back ∙ ap (λ p. level_sent p (leads_down y.node.view.ports y.port)) b) (other_level (level_shown x.node x.port) h)) r
      ]

      go :
          (b : Bool) → is_before_tree y.node.view.phase ≡ b →
          (is_before_tree y.node.view.phase || is_asking y.node y.port) ≡ true →
          is_port y.node.view.parent y.port ≡ true
      go true a f = absurd (never a y.gives shows)
      go false a f = asks (is_before_tree y.node.view.phase) (is_shaking y.node.view.phase) (is_port y.node.view.parent y.port) a f

  -- in contention for long: nothing is under way to the other node, and it shows Idle
  nothing_there : x.node.view.phase ≡ phase.Contend → d ≤ x.node.view.timer → x.wire ≡ []
  nothing_there c t = contend_empty d x j.some_delay j.near j.coupled.timed c t

  contend_shows :
      x.node.view.phase ≡ phase.Contend → is_port x.node.view.parent x.port ≡ true →
      d ≤ x.node.view.timer → level_shown y.node y.port ≡ level.Idle
  contend_shows c a t =
      ap (λ ts. level_after (level_shown y.node y.port) (signals_of ts)) (sym (nothing_there c t)) ∙ j.levels ∙ contend-sent x.node.view.phase c (leads_down x.node.view.ports x.port) childless
    where
      childless : leads_down x.node.view.ports x.port ≡ false
      childless = child-if x.node.view.parent x.node.view.ports x.port (late-roles x.node j.near.valid (contend-late x.node.view.phase c)) j.near.connected ∙ ap not a

  pub heard_idle :
      x.node.view.phase ≡ phase.Contend → is_port x.node.view.parent x.port ≡ true →
      d ≤ x.node.view.timer → level_shown (hearing y).state y.port ≡ level.Idle
  heard_idle c a t = heard_shown d x y j ∙ idle x.gives (level_shown y.node y.port) x.wire (contend_shows c a t) (nothing_there c t)
    where
      idle :
          (b : Bool) (l : Level) (ts : List Travelling) → l ≡ level.Idle → ts ≡ [] →
          level_after l (if b then signals_of ts else []) ≡ level.Idle
      idle true l ts h g = ap (λ v. level_after l (signals_of v)) g ∙ h
      idle false l ts h g = h

  -- what the other node then sends takes no Parent back
  other_sends :
      x.node.view.phase ≡ phase.Contend → is_port x.node.view.parent x.port ≡ true →
      d ≤ x.node.view.timer → (b : ℕ) →
      NoneTakesBack b (level_sent_at y.node y.port) (map new_signal (departures y))
  other_sends c a t b = elim (is_it (level_sent_at y.node y.port)) [
    | inl o ↦ NoneTakesBack-has_no_takeback b (level_sent_at y.node y.port) (departures y) (no_falls (parent-asks y.node j.other.valid y.port j.other.connected o))
    | inr o ↦ elim (or_cases (has_no_takeback on_tick) (has_no_parent_signal on_tick) (j.other.ticks.batch y.port (heard_connected d y j.other))) [
      | inl f ↦ NoneTakesBack-has_no_takeback b (level_sent_at y.node y.port) (departures y) (joined f)
      | inr f ↦ NoneTakesBack-has_no_parent_signal b (level_sent_at y.node y.port) (departures y) o (has_no_parent_signal-append on_hear on_tick ∙ and_from (has_no_parent_signal on_hear) (has_no_parent_signal on_tick) (j.other.hears.asks_none y.port) f)
    ]
  ]
    where
      on_hear : List Signal
      on_hear = sent_on y.port (hearing y).sends

      on_tick : List Signal
      on_tick = sent_on y.port (ticking y).sends

      joined : has_no_takeback on_tick ≡ true → has_no_takeback (departures y) ≡ true
      joined f = has_no_takeback-append on_hear on_tick ∙ and_from (has_no_takeback on_hear) (has_no_takeback on_tick) (j.other.hears.takes_none_back y.port) f

      is_it : (l : Level) → (l ≡ level.Parent) ⊎ (l ≡ level.Parent → ⊥)
      is_it l = grind arith

      ticks :
          (is_shaking y.node.view.phase ≡ true) × (is_port y.node.view.parent y.port ≡ true) →
          has_no_takeback on_tick ≡ true
      ticks o = elim j.other.hears.cases [
        | inl h ↦ j.other.ticks.asks y.port (heard_connected d y j.other) (ap is_shaking h.phase ∙ o.0) (heard_parent y h y.port o.1) (heard_idle c a t)
        | inr z ↦ ap (λ ss. has_no_takeback (sent_on y.port ss)) (came_silent d y j.some_delay j.other z)
      ]

      no_falls :
          (is_shaking y.node.view.phase ≡ true) × (is_port y.node.view.parent y.port ≡ true) →
          has_no_takeback (departures y) ≡ true
      no_falls o = joined (ticks o)

  contend_after :
      (ticking x).state.view.phase ≡ phase.Contend →
      is_port (ticking x).state.view.parent x.port ≡ true →
      NoneTakesBack ((ticking x).state.view.timer - d) (level_shown (ticking x).state x.port) (wire_after y)
  contend_after c a = elim j.near.hears.cases [
    | inl h ↦ go h (j.near.ticks.contend c)
    | inr z ↦ absurd (start-contend (ticking x).state.view.phase (came d x y j z).0 c)
  ]
    where
      moved :
          (g : Bool) (b c : ℕ) → c ≤ b + 1 → NoneTakesBack b (level_shown x.node x.port) y.wire →
          NoneTakesBack c (level_sent_at y.node y.port) (map new_signal (departures y)) →
          NoneTakesBack c (level_after (level_shown x.node x.port) (if g then signals_of y.wire else [])) ((if g then [] else map age_signal y.wire) ++ map new_signal (departures y))
      moved true b c h f t = subst (λ l. NoneTakesBack c l (map new_signal (departures y))) (sym j.levels_back) t
      moved false b c h f t = NoneTakesBack-append c (level_shown x.node x.port) (map age_signal y.wire) (map new_signal (departures y)) (NoneTakesBack-older b c (level_shown x.node x.port) y.wire h f)
          (subst (λ l. NoneTakesBack c l (map new_signal (departures y))) (sym (ap (level_after (level_shown x.node x.port)) (signals-older y.wire) ∙ j.levels_back)) t)

      zero_or : (b : ℕ) → (b ≡ 0) ⊎ (1 ≤ b)
      zero_or b = grind arith

      none :
          (ticking x).state.view.timer - d ≡ 0 →
          NoneTakesBack ((ticking x).state.view.timer - d) (level_shown (ticking x).state x.port) (wire_after y)
      none z = subst (λ b. NoneTakesBack b (level_shown (ticking x).state x.port) (wire_after y)) (sym z) (NoneTakesBack-zero (level_shown (ticking x).state x.port) (wire_after y))

      go :
          NoEntry x.node (hearing x) →
          (((hearing x).state.view.phase ≡ phase.Contend) × ((ticking x).state.view.parent ≡ (hearing x).state.view.parent) × ((ticking x).state.view.timer ≤ (hearing x).state.view.timer + 1) × ((ticking x).state.view.wait ≡ (hearing x).state.view.wait))
          ⊎ (((ticking x).state.view.timer ≡ 0) × (((ticking x).state.view.wait ≡ (hearing x).state.timing.short) ⊎ ((ticking x).state.view.wait ≡ (hearing x).state.timing.long))) →
          NoneTakesBack ((ticking x).state.view.timer - d) (level_shown (ticking x).state x.port) (wire_after y)
      go h (inr z) = none (omega (arith, z.0))
      go h (inl z) = elim (zero_or ((ticking x).state.view.timer - d)) [
        | inl o ↦ none o
        | inr o ↦ subst (λ l. NoneTakesBack ((ticking x).state.view.timer - d) l (wire_after y)) (sym (after_shown d y x back))
            (moved y.gives (x.node.view.timer - d) ((ticking x).state.view.timer - d) (omega (arith, timer)) (j.coupled.contend was port) (other_sends was port (omega (arith, timer, o)) ((ticking x).state.view.timer - d)))
      ]
        where
          was : x.node.view.phase ≡ phase.Contend
          was = sym h.phase ∙ z.0

          port : is_port x.node.view.parent x.port ≡ true
          port = ap (λ o. is_port o x.port) (sym h.parent ∙ sym z.1) ∙ a

          timer : (ticking x).state.view.timer ≤ x.node.view.timer + 1
          timer = timer_rises x h (ticking x).state.view.timer z.2

  child_after :
      leads_down (ticking x).state.view.ports x.port ≡ true →
      has_reset (signals_of (wire_after y)) ≡ false →
      (is_port (ticking y).state.view.parent y.port ≡ true)
      × (is_parent (level_shown (ticking y).state y.port) ≡ false)
      × (has_no_parent_signal (signals_of (wire_after x)) ≡ true)
  child_after c a =
      elim (j.near.ticks.child x.port (heard_connected d x j.near) c) [
        | inl z ↦ old (sym (h.child x.port) ∙ z)
        | inr o ↦ elim o [
          | inl z ↦ new (sym h.phase ∙ z.0) z.1
          | inr z ↦ fought (sym h.phase ∙ z.0) (ap (λ o. is_port o x.port) (sym h.parent ∙ z.1) ∙ eq-eqb x.port x.port refl) z.2 (omega (arith, h.wait, z.3))
        ]
      ]
    where
      h : NoEntry x.node (hearing x)
      h = near_heard c

      g : NoEntry y.node (hearing y)
      g = other_heard a

      Goal : Type 0
      Goal = (is_port (ticking y).state.view.parent y.port ≡ true) × (is_parent (level_shown (ticking y).state y.port) ≡ false) × (has_no_parent_signal (signals_of (wire_after x)) ≡ true)

      low_parent : (l : Level) → shows_no_notice l ≡ true → is_parent l ≡ false
      low_parent l h = grind arith

      late : leads_down x.node.view.ports x.port ≡ true → is_resetting x.node.view.phase ≡ false
      late z = go (is_resetting x.node.view.phase) refl
        where
          go :
              (b : Bool) → is_resetting x.node.view.phase ≡ b →
              is_resetting x.node.view.phase ≡ false
          go true e = absurd (not-both (leads_down x.node.view.ports x.port) z (early-childless x.node j.near.valid x.port (start-before_tree x.node.view.phase e)))
          go false e = e

      old : leads_down x.node.view.ports x.port ≡ true → Goal
      old z =
          let i : (is_port y.node.view.parent y.port ≡ true) × (is_parent (level_shown y.node y.port) ≡ false) × (has_no_parent_signal (signals_of x.wire) ≡ true)
          = j.coupled.child z (no_reset_before (late z) h a) in
          stays_so c h g i.0 i.1 i.2

      new :
          x.node.view.phase ≡ phase.TreeStart →
          level_shown (hearing x).state x.port ≡ level.Parent → Goal
      new t s =
          let l : (shows_no_notice (level_shown y.node y.port) ≡ true) × (has_no_notice (signals_of x.wire) ≡ true) = j.coupled.no_notice (tree_start-known d x.node t) in
          stays_so c h g (taken t s (no_reset_before (ap is_resetting t) h a)) (low_parent (level_shown y.node y.port) l.0) (low-has_no_parent_signal (signals_of x.wire) l.1)

      fought :
          x.node.view.phase ≡ phase.Contend → is_port x.node.view.parent x.port ≡ true →
          level_shown (hearing x).state x.port ≡ level.Parent →
          x.node.view.wait ≤ risen (hearing x).state.view.timer → Goal
      fought t b s f =
          stays_so c h g (parent-asks y.node j.other.valid y.port j.other.connected (told y.gives (sym (heard_shown d y x back) ∙ s))).1
          (ap is_parent (contend_shows t b long)) (ap (λ ts. has_no_parent_signal (signals_of ts)) (nothing_there t long))
        where
          twice : 2 * d ≤ x.node.view.timer
          twice = omega (arith, f, h.timer, risen-most (hearing x).state.view.timer, j.near.waits t, j.some_delay)

          long : d ≤ x.node.view.timer
          long = omega (arith, twice)

          calm : has_reset (signals_of y.wire) ≡ false
          calm = no_reset_before (ap is_resetting t) h a

          told :
              (v : Bool) →
              level_after (level_shown x.node x.port) (if v then signals_of y.wire else [])
              ≡ level.Parent →
              level_sent_at y.node y.port ≡ level.Parent
          told true r = sym j.levels_back ∙ r
          told false r =
              sym j.levels_back ∙ ap (λ l. level_after l (signals_of y.wire)) r
              ∙ parent-stays (x.node.view.timer - d) (d - 1) y.wire (omega (arith, twice, j.some_delay)) j.other.ages calm (subst (λ l. NoneTakesBack (x.node.view.timer - d) l y.wire) r (j.coupled.contend t b))

-- A turn keeps what is so of a cable.
pub coupled-turn :
    (d : ℕ) (x y : Side) → Pair d x y →
    Coupling d (ticking x).state x.port (wire_after x) (ticking y).state y.port (wire_after y)
coupled-turn d x y j = record {
  timed = timed_after d x y j;
  reset = reset_after d x y j;
  no_notice = low_after d x y j;
  early = early_after d x y j;
  child = child_after d x y j;
  contend = contend_after d x y j;
}
