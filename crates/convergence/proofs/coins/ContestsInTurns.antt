-- A turn keeps what two ends of a cable know of coins.
use Rattle.std.proofs.Common.{◌≡◌, ◌⊎◌, inl, inr, ℕ, ◌+◌, ◌*◌, ◌≤◌, Bool, true, false, not, [], Option, Some, None, refl, sym, ◌∙◌, ap, subst, arith, if◌then◌else◌}
use Rattle.std.proofs.lemmas.Bool.{eq-eqb, and_parts, or_cases, false_from_ne_true, not-false}
use Rattle.convergence.proofs.Common.{Level, Phase, is_idle, is_parent, is_child, is_port, level_sent, level_shown, leads_down, level_after, is_before_tree, is_shaking, signals_of, has_reset, is_asking, child-if, NoEntry, risen, not-both, Side, hearing, ticking, wire_after, late-roles, tree_start-known, heard_shown, AddsDraw, DrewTogether, IsAhead, AsksAgain, Contests, AreRivals, contrary, NodeState, on_beat}
use Rattle.port_state.specs.declared.signal.Level.TheVariants as level
use Rattle.port_state.specs.declared.signal.Phase.TheVariants as phase
use Rattle.cable_world.specs.Phases.{is_after_hold}
use Rattle.cable_world.specs.Signals.{shows_no_notice, has_no_parent_signal}
use Rattle.cable_world.proofs.Lemmas.{level_after-reset, between-known, heard_connected, turned-round, after_shown, heard_low, heard_no_parent, other_heard, near_heard, no_reset_before}
use Rattle.convergence.specs.Rivals.{HasWon, IsBelow, AreAlike}
use Rattle.convergence.proofs.coins.CoinsInTurns.{zero-or}
use Rattle.convergence.proofs.turns.Moves.{Drew, DrewNone, Fights, coin_of, beat-draws, beat-shaken, beat-fought, beat-contending, beat-shaking-from, beat-child-shake, child-idle}
use Rattle.port_state.specs.Clock.{clock_after}
use Rattle.convergence.proofs.coins.Rivals.{child-told, Rivals, swapped, stand-round, other-level, after-knows, late-heard, late-before, late-after, calm, start-calm, up-late, up-heard, up-before, up-mid, not-down, drew-sees, accepted-sees, again-sees, still, draws-not, adds-still, asks-on}
use Rattle.convergence.proofs.turns.Roles.{parent-late, parent-was, child-late}
use Rattle.convergence.proofs.coins.Stands.{near-most, stand-after, contend-none, over-timer, long-idle, long-undrawn, contend-shaking, idle-parent}
use Rattle.convergence.proofs.turns.PhaseFacts.{start-late, late-start}

low-parent : (l : Level) → shows_no_notice l ≡ true → l ≡ level.Parent → ⊥
low-parent l a b = grind arith

low-child : (l : Level) → shows_no_notice l ≡ true → is_child l ≡ true → ⊥
low-child l a b = grind arith

low-is-child : (l : Level) → shows_no_notice l ≡ true → l ≡ level.Child → ⊥
low-is-child l a b = grind arith

start-shake : (f : Phase) → f ≡ phase.TreeStart → f ≡ phase.ParentShake → ⊥
start-shake f a b = cc

early-shake : (f : Phase) → is_before_tree f ≡ true → f ≡ phase.ParentShake → ⊥
early-shake f a b = grind arith

-- ---- a node in T0, and the other

missed-same :
    (b : Option Bool) (m : NodeState) (k : ℕ) → b ≡ None →
    leads_down (on_beat b m).state.view.ports k ≡ leads_down m.view.ports k
missed-same None m k e = refl
missed-same (Some c) m k e = absurd cc

-- a parent port that becomes a child port does so at a tick
not-missed :
    (d : ℕ) (x y : Side) → Rivals d x y → NoEntry x.node (hearing x) →
    is_port x.node.view.parent x.port ≡ true →
    leads_down (ticking x).state.view.ports x.port ≡ true → x.beat ≡ None → ⊥
not-missed d x y r hx ux c e =
    contrary (sym (missed-same x.beat (hearing x).state x.port e ∙ hx.child x.port) ∙ c) (not-down d x y r ux)

module _ (d : ℕ) (x y : Side) (r : Rivals d x y) (start : x.node.view.phase ≡ phase.TreeStart) where
  other-low : shows_no_notice (level_shown (hearing y).state y.port) ≡ true
  other-low = let l = r.pair.coupled.no_notice (tree_start-known d x.node start) in heard_low d x y r.pair l.0 l.1

  other-of : (is_before_tree y.node.view.phase ≡ true) ⊎ (is_asking y.node y.port ≡ true)
  other-of = or_cases (is_before_tree y.node.view.phase) (is_asking y.node y.port) (r.pair.coupled.early (tree_start-known d x.node start))

  asks-up : is_asking y.node y.port ≡ true → is_port y.node.view.parent y.port ≡ true
  asks-up a = (and_parts (is_shaking y.node.view.phase) (is_port y.node.view.parent y.port) a).1

  other-undrawn : y.node.view.draws ≡ 0
  other-undrawn = elim other-of [
    | inl e ↦ r.other.fresh e
    | inr a ↦ elim (zero-or y.node.view.draws) [
      | inl z ↦ z
      | inr some ↦ absurd (start-late x.node.view.phase start (r.there.later (asks-up a) (start-calm d x y r start) some))
    ]
  ]

  other-draws-not : NoEntry y.node (hearing y) → Drew (coin_of y.beat) (hearing y).state (ticking y).state → ⊥
  other-draws-not hy w = elim other-of [
    | inl e ↦ early-shake y.node.view.phase e (sym hy.phase ∙ w.before)
    | inr a ↦ low-parent (level_shown (hearing y).state y.port) other-low (drew-sees d y x (swapped d x y r) w (up-mid d y x (swapped d x y r) hy (asks-up a)))
  ]

  pub other-none : NoEntry y.node (hearing y) → (ticking y).state.view.draws ≡ 0
  other-none hy = (draws-not d y x (swapped d x y r) hy (other-draws-not hy)).draws ∙ other-undrawn

  own-none : NoEntry x.node (hearing x) → (ticking x).state.view.draws ≡ 0
  own-none hx = (draws-not d x y r hx (λ w. start-shake x.node.view.phase start (sym hx.phase ∙ w.before))).draws ∙ r.near.fresh (ap is_before_tree start)

  own-shaking :
      is_port (ticking x).state.view.parent x.port ≡ true →
      is_shaking (ticking x).state.view.phase ≡ true
  own-shaking u = elim (late-before d x y r (parent-late (ticking x).state r.pair.near.ticks.valid x.port u)) [
    | inl l ↦ absurd (start-late x.node.view.phase start l)
    | inr s ↦ ap is_shaking s.1
  ]

  other-shaking :
      is_port (ticking y).state.view.parent y.port ≡ true →
      is_shaking (ticking y).state.view.phase ≡ true
  other-shaking u = elim (late-before d y x sw (parent-late (ticking y).state r.pair.other.ticks.valid y.port u)) [
    | inl l ↦ elim other-of [
      | inl e ↦ absurd (not-both (is_before_tree y.node.view.phase) e l)
      | inr a ↦ elim (beat-shaken y.beat (hearing y).state (ap is_shaking hy.phase ∙ (and_parts (is_shaking y.node.view.phase) (is_port y.node.view.parent y.port) a).0)) [
        | inl b ↦ b.phase
        | inr b ↦ elim b [
          | inl w ↦ absurd (other-draws-not hy w)
          | inr c ↦ elim c [
            | inl none ↦ contrary (up-mid d y x sw hy (asks-up a)) (ap (λ o. is_port o y.port) none)
            | inr w ↦ absurd (low-is-child (level_shown (hearing y).state y.port) other-low (accepted-sees d y x sw w (up-mid d y x sw hy (asks-up a))))
          ]
        ]
      ]
    ]
    | inr s ↦ ap is_shaking s.1
  ]
    where
      sw : Rivals d y x
      sw = swapped d x y r

      hy : NoEntry y.node (hearing y)
      hy = up-heard d y x sw u

  pub start-alike :
      is_port (ticking x).state.view.parent x.port ≡ true →
      is_port (ticking y).state.view.parent y.port ≡ true →
      AreAlike (ticking x).state (ticking y).state
  start-alike ux uy =
      let sw : Rivals d y x = swapped d x y r in
      let nx : (ticking x).state.view.draws ≡ 0 = own-none (up-heard d x y r ux) in
      let ny : (ticking y).state.view.draws ≡ 0 = other-none (up-heard d y x sw uy) in
      record {
        here = own-shaking ux;
        there = other-shaking uy;
        drew = record { draws = nx ∙ sym ny; first_draws = (after-knows d x y r).undrawn nx ∙ sym ((after-knows d y x sw).undrawn ny) };
      }

-- ---- both ends

module _ (d : ℕ) (x y : Side) (r : Rivals d x y) where
  sw : Rivals d y x
  sw = swapped d x y r

  pub stand-kept :
      is_port (ticking x).state.view.parent x.port ≡ true →
      is_port (ticking y).state.view.parent y.port ≡ true →
      AreRivals d (ticking x).state (clock_after x.clock) x.port (wire_after x) (ticking y).state (clock_after y.clock) y.port (wire_after y)
  stand-kept vx vy = elim (up-before d x y r vx) [
    | inr s ↦ inl (start-alike d x y r s vx vy)
    | inl ux ↦ elim (up-before d y x sw vy) [
      | inr s ↦ stand-round d (ticking y).state (clock_after y.clock) y.port (wire_after y) (ticking x).state (clock_after x.clock) x.port (wire_after x) (inl (start-alike d y x sw s vy vx))
      | inl uy ↦ stand-after d x y r ux uy (up-heard d x y r vx) (up-heard d y x sw vy) vx vy
    ]
  ]

  -- a child port stays one
  pub down-after :
      NoEntry x.node (hearing x) → is_before_tree x.node.view.phase ≡ false →
      leads_down x.node.view.ports x.port ≡ true →
      leads_down (ticking x).state.view.ports x.port ≡ true
  down-after h l c =
      child-if (ticking x).state.view.parent (ticking x).state.view.ports x.port (late-roles (ticking x).state r.pair.near.ticks.valid (late-after d x y r h l)) (r.pair.near.ticks.cables x.port ∙ heard_connected d x r.pair.near)
      ∙ ap not (go (is_port (ticking x).state.view.parent x.port) refl)
    where
      go : (b : Bool) → is_port (ticking x).state.view.parent x.port ≡ b → b ≡ false
      go false e = refl
      go true e = elim (up-before d x y r e) [
        | inl u ↦ absurd (not-both (leads_down x.node.view.ports x.port) c (not-down d x y r u))
        | inr s ↦ absurd (start-late x.node.view.phase s l)
      ]

  -- what isn't low comes from a node past T0
  pub sees-late :
      has_reset (signals_of y.wire) ≡ false → shows_no_notice (level_shown (hearing x).state x.port)
      ≡ false → is_before_tree y.node.view.phase ≡ false
  sees-late n high = go (is_before_tree y.node.view.phase) refl
    where
      cases :
          (f : Phase) → is_before_tree f ≡ true → (is_after_hold f ≡ true) ⊎ (f ≡ phase.ResetStart)
      cases f e = grind arith

      not-reset : (l : Level) → shows_no_notice l ≡ false → l ≡ level.Reset → ⊥
      not-reset l a b = grind arith

      reset :
          y.node.view.phase ≡ phase.ResetStart → (g : Bool) →
          shows_no_notice (level_after (level_shown x.node x.port) (if g then signals_of y.wire else []))
          ≡ false → ⊥
      reset e true h = not-reset (level_after (level_shown x.node x.port) (signals_of y.wire)) h (r.pair.levels_back ∙ ap (λ f. level_sent f (leads_down y.node.view.ports y.port)) e)
      reset e false h = not-both (has_reset (signals_of y.wire))
          (level_after-reset (level_shown x.node x.port) (signals_of y.wire) (r.pair.levels_back ∙ ap (λ f. level_sent f (leads_down y.node.view.ports y.port)) e) (not-reset (level_shown x.node x.port) h)) n

      go : (b : Bool) → is_before_tree y.node.view.phase ≡ b → b ≡ false
      go false e = refl
      go true e = elim (cases y.node.view.phase e) [
        | inl b ↦
            let l = r.pair.coupled_back.no_notice (between-known d y.node b) in
            absurd (not-both (shows_no_notice (level_shown (hearing x).state x.port)) (heard_low d y x (turned-round d x y r.pair) l.0 l.1) high)
        | inr b ↦ absurd (reset b y.gives (sym (ap shows_no_notice (heard_shown d y x (turned-round d x y r.pair))) ∙ high))
      ]

  -- ---- Child

  told-after :
      is_before_tree (ticking x).state.view.phase ≡ false →
      is_child (level_shown (ticking y).state y.port) ≡ true →
      leads_down (ticking x).state.view.ports x.port ≡ true
  told-after l c = go x.gives (sym (ap is_child (after_shown d x y r.pair)) ∙ c)
    where
      hx : NoEntry x.node (hearing x)
      hx = late-heard d x y r l

      is : (m : Level) → is_child m ≡ true → m ≡ level.Child
      is m h = grind arith

      go :
          (g : Bool) →
          is_child (level_after (level_shown y.node y.port) (if g then signals_of x.wire else []))
          ≡ true → leads_down (ticking x).state.view.ports x.port ≡ true
      go true h =
          let down : leads_down x.node.view.ports x.port ≡ true = child-told x.node.view.phase (leads_down x.node.view.ports x.port) (sym r.pair.levels ∙ is (level_after (level_shown y.node y.port) (signals_of x.wire)) h) in
          down-after hx (child-late x.node r.pair.near.valid x.port down) down
      go false h = elim (late-before d x y r l) [
        | inl b ↦ down-after hx b (r.here.told b h)
        | inr s ↦ absurd (low-child (level_shown y.node y.port) (r.pair.coupled.no_notice (tree_start-known d x.node s.0)).0 h)
      ]

module _ (d : ℕ) (x y : Side) (r : Rivals d x y) where
  sv : Rivals d y x
  sv = swapped d x y r

  -- ---- a parent port

  later-after :
      is_port (ticking x).state.view.parent x.port ≡ true → has_reset (signals_of (wire_after y))
      ≡ false → 1 ≤ (ticking x).state.view.draws →
      is_before_tree (ticking y).state.view.phase ≡ false
  later-after u n some = elim (up-before d x y r u) [
    | inr s ↦ absurd (omega (arith, some, (draws-not d x y r hx (λ w. start-shake x.node.view.phase s (sym hx.phase ∙ w.before))).draws, r.near.fresh (ap is_before_tree s)))
    | inl ux ↦ elim (beat-draws x.beat (hearing x).state) [
      | inl w ↦ late-after d y x sv hy (sees-late d x y r (nr ux) (ap shows_no_notice (drew-sees d x y r w (up-mid d x y r hx ux))))
      | inr w ↦ late-after d y x sv hy (r.here.later ux (nr ux) (omega (arith, some, (still d x y r hx w).draws)))
    ]
  ]
    where
      hx : NoEntry x.node (hearing x)
      hx = up-heard d x y r u

      hy : NoEntry y.node (hearing y)
      hy = other_heard d x y r.pair n

      nr : is_port x.node.view.parent x.port ≡ true → has_reset (signals_of y.wire) ≡ false
      nr ux = no_reset_before d x y r.pair (late-start x.node.view.phase (up-late d x y r ux)) hx n

  -- ---- a child that drew

  -- how a port comes to lead to a child that drew: it did before, or its node was that child's
  -- rival
  pub won-from :
      leads_down (ticking x).state.view.ports x.port ≡ true → 1 ≤ (ticking y).state.view.draws →
      (is_before_tree y.node.view.phase ≡ false) × NoEntry x.node (hearing x)
      × NoEntry y.node (hearing y)
      × (((leads_down x.node.view.ports x.port ≡ true) × DrewNone y.node (ticking y).state)
      ⊎ ((x.node.view.phase ≡ phase.Contend) × (is_port x.node.view.parent x.port ≡ true) × (level_shown (hearing x).state x.port ≡ level.Parent) × ((hearing x).state.view.wait ≤ risen (hearing x).state.view.timer)))
  won-from c some = (was-late, hx, hy, how)
    where
      hx : NoEntry x.node (hearing x)
      hx = near_heard d x y r.pair c

      late : is_before_tree (ticking y).state.view.phase ≡ false
      late = false_from_ne_true _ (λ e. omega (arith, some, (after-knows d y x sv).fresh e))

      hy : NoEntry y.node (hearing y)
      hy = late-heard d y x sv late

      was-late : is_before_tree y.node.view.phase ≡ false
      was-late = elim (late-before d y x sv late) [
        | inr s ↦ absurd (omega (arith, some, (draws-not d y x sv hy (λ w. start-shake y.node.view.phase s.0 (sym hy.phase ∙ w.before))).draws, r.other.fresh (ap is_before_tree s.0)))
        | inl l ↦ l
      ]

      still-undrawn : leads_down x.node.view.ports x.port ≡ true → DrewNone y.node (ticking y).state
      still-undrawn was =
          let k = r.pair.coupled.child was (calm d y x sv was-late) in
          draws-not d y x sv hy (λ w. other-level (level_shown (hearing y).state y.port) (drew-sees d y x sv w (up-mid d y x sv hy k.0)) (heard_no_parent d x y r.pair k.1 k.2))

      how : ((leads_down x.node.view.ports x.port ≡ true) × DrewNone y.node (ticking y).state)
          ⊎ ((x.node.view.phase ≡ phase.Contend) × (is_port x.node.view.parent x.port ≡ true) × (level_shown (hearing x).state x.port ≡ level.Parent) × ((hearing x).state.view.wait ≤ risen (hearing x).state.view.timer))
      how = elim (r.pair.near.ticks.child x.port (heard_connected d x r.pair.near) c) [
        | inl z ↦ let was = sym (hx.child x.port) ∙ z in inl (was, still-undrawn was)
        | inr o ↦ elim o [
          | inl z ↦ absurd (omega (arith, some, other-none d x y r (sym hx.phase ∙ z.0) hy))
          | inr z ↦ inr (sym hx.phase ∙ z.0, ap (λ o. is_port o x.port) (sym hx.parent ∙ z.1) ∙ eq-eqb x.port x.port refl, z.2, z.3)
        ]
      ]

  won-after :
      leads_down (ticking x).state.view.ports x.port ≡ true → 1 ≤ (ticking y).state.view.draws →
      HasWon (ticking x).state (ticking y).state
  won-after c some = elim (won-from c some).3 [ inl z ↦ old z.0 z.1 | inr z ↦ fought-out z.0 z.1 z.2 z.3 ]
    where
      l : is_before_tree y.node.view.phase ≡ false
      l = (won-from c some).0

      hx : NoEntry x.node (hearing x)
      hx = (won-from c some).1

      hy : NoEntry y.node (hearing y)
      hy = (won-from c some).2

      add :
          DrewNone x.node (ticking x).state → DrewNone y.node (ticking y).state →
          AddsDraw y.node.view.draws y.node.view.first_draws x.node →
          AddsDraw (ticking y).state.view.draws (ticking y).state.view.first_draws (ticking x).state
      add nx ny a =
          subst (λ f. AddsDraw (ticking y).state.view.draws f (ticking x).state) (sym ny.first_draws)
          (subst (λ k. AddsDraw k y.node.view.first_draws (ticking x).state) (sym ny.draws) (adds-still d x y r nx y.node.view.draws y.node.view.first_draws a))

      both :
          DrewNone x.node (ticking x).state → DrewNone y.node (ticking y).state →
          DrewTogether x.node y.node → DrewTogether (ticking x).state (ticking y).state
      both nx ny t = record { draws = t.draws; first = t.first; here = adds-still d x y r nx t.draws t.first t.here; there = adds-still d y x sv ny t.draws t.first t.there }

      -- it was a child before
      old :
          leads_down x.node.view.ports x.port ≡ true → DrewNone y.node (ticking y).state →
          HasWon (ticking x).state (ticking y).state
      old was ny =
          let won : HasWon x.node y.node = r.here.won was (omega (arith, some, ny.draws)) in
          let nx : DrewNone x.node (ticking x).state = draws-not d x y r hx (λ w. none-some w.port (sym (hx.parent ∙ won.root) ∙ w.parent)) in
          record {
            root = root-after won.root (ticking x).state.view.parent refl;
            drew = elim won.drew [ inl a ↦ inl (add nx ny a) | inr t ↦ inr (both nx ny t) ];
          }
        where
          none-some : (p : ℕ) → None ≡ Some p → ⊥
          none-some p e = contrary (eq-eqb p p refl) (sym (ap (λ o. is_port o p) e))

          root-after :
              x.node.view.parent ≡ None → (o : Option ℕ) → (ticking x).state.view.parent ≡ o →
              o ≡ None
          root-after e None f = refl
          root-after e (Some p) f = elim (parent-was x.beat (hearing x).state p (ap (λ o. is_port o p) f ∙ eq-eqb p p refl)) [
            | inl u ↦ contrary u (ap (λ o. is_port o p) (hx.parent ∙ e))
            | inr s ↦ absurd (start-late x.node.view.phase (sym hx.phase ∙ s) (child-late x.node r.pair.near.valid x.port was))
          ]

      -- or the rival, until now
      fought-out :
          x.node.view.phase ≡ phase.Contend → is_port x.node.view.parent x.port ≡ true →
          level_shown (hearing x).state x.port ≡ level.Parent →
          (hearing x).state.view.wait ≤ risen (hearing x).state.view.timer →
          HasWon (ticking x).state (ticking y).state
      fought-out t ux shown o =
          let ny : DrewNone y.node (ticking y).state = draws-not d y x sv hy (long-undrawn d x y r ux uy t long hy) in
          let nx : DrewNone x.node (ticking x).state = contend-none d x y r ux uy hx hy t in
          record {
            root = root (beat-fought x.beat (hearing x).state r.pair.near.hears.valid (hx.phase ∙ t) (omega (arith, hx.timer, hx.wait, r.near.waits t)));
            drew = elim how [ inl a ↦ inl (add nx ny a.drew) | inr a ↦ inr (both nx ny a.drew) ];
          }
        where
          up :
              (b : Bool) → leads_down y.node.view.ports y.port ≡ b →
              is_port y.node.view.parent y.port ≡ true
          up true e =
              let k = r.pair.coupled_back.child e (calm d x y r (up-late d x y r ux)) in
              absurd (other-level (level_shown (hearing x).state x.port) shown (heard_no_parent d y x (turned-round d x y r.pair) k.1 k.2))
          up false e = not-false (is_port y.node.view.parent y.port) (sym (child-if y.node.view.parent y.node.view.ports y.port (late-roles y.node r.pair.other.valid l) r.pair.other.connected) ∙ e)

          uy : is_port y.node.view.parent y.port ≡ true
          uy = up (leads_down y.node.view.ports y.port) refl

          over : (x.node.view.wait ≤ x.node.view.timer + 1) × (2 * d ≤ x.node.view.timer)
          over = over-timer d x y r ux uy hx t o

          long : d ≤ x.node.view.timer
          long = omega (arith, over.1, r.pair.some_delay)

          how : IsAhead x.node x.port y.node ⊎ AsksAgain d x.node y.node y.wire
          how = go (r.here.rivals ux uy)
            where
              go :
                  AreRivals d x.node x.clock x.port x.wire y.node y.clock y.port y.wire →
                  IsAhead x.node x.port y.node ⊎ AsksAgain d x.node y.node y.wire
              go (inl a) = absurd (contend-shaking x.node.view.phase t a.here)
              go (inr (inl m)) = absurd (idle-parent (level_shown (hearing x).state x.port) (long-idle d y x sv uy ux m.there (omega (arith, over.1, near-most d x.node y.node y.clock m.near, r.pair.some_delay))) shown)
              go (inr (inr (inl a))) = a.how
              go (inr (inr (inr a))) = absurd (contend-shaking x.node.view.phase t a.there)

          root :
              Fights x.beat (hearing x).state (ticking x).state (ticking x).sends →
              (ticking x).state.view.parent ≡ None
          root (inl w) = elim w.timer [ inl a ↦ absurd (not-missed d x y r hx ux c a.0) | inr t ↦ absurd (omega (arith, w.not_yet, o, t)) ]
          root (inr (inl w)) = w.root
          root (inr (inr w)) = absurd (other-level (level_shown (hearing x).state x.port) shown (again-sees d x y r w (up-mid d x y r hx ux)))

  -- ---- what a child does

  parent-idle : (l : Level) → l ≡ level.Parent → is_idle l ≡ true → ⊥
  parent-idle l a b = grind arith

  low-not-parent : (l : Level) → l ≡ level.Parent → shows_no_notice l ≡ false
  low-not-parent l a = grind arith

  early-contend : (f : Phase) → is_before_tree f ≡ true → f ≡ phase.Contend → ⊥
  early-contend f a b = grind arith

  -- it was a child before
  below-old :
      NoEntry x.node (hearing x) → NoEntry y.node (hearing y) →
      leads_down x.node.view.ports x.port ≡ true → has_reset (signals_of y.wire) ≡ false →
      IsBelow (ticking x).state x.port (ticking y).state
  below-old hx hy was nr = record {
    calm = λ t. elim (beat-contending y.beat (hearing y).state t) [
      | inl o ↦ b.calm (sym hy.phase ∙ o)
      | inr w ↦ other-level (level_shown (hearing y).state y.port) (drew-sees d y x sv w (up-mid d y x sv hy k.0)) (heard_no_parent d x y r.pair k.1 k.2)
    ];
    asks = λ s. elim (beat-shaking-from y.beat (hearing y).state s) [
      | inl o ↦
          let sh : is_shaking y.node.view.phase ≡ true = sym (ap is_shaking hy.phase) ∙ o in
          let m = b.asks sh in
          let shown : level_shown (hearing x).state x.port ≡ level.Parent = asks-on d x y r sh k.0 m.1 in
          (stays (hx.phase ∙ m.0) shown, r.pair.near.ticks.shown x.port ∙ shown)
      | inr o ↦ elim o [
        | inl t ↦ absurd (start-late y.node.view.phase (sym hy.phase ∙ t) (up-late d y x sv k.0))
        | inr t ↦ absurd (b.calm (sym hy.phase ∙ t))
      ]
    ];
  }
    where
      b : IsBelow x.node x.port y.node
      b = r.here.below was nr

      k :
          (is_port y.node.view.parent y.port ≡ true)
          × (is_parent (level_shown y.node y.port) ≡ false)
          × (has_no_parent_signal (signals_of x.wire) ≡ true)
      k = r.pair.coupled.child was nr

      stays :
          (hearing x).state.view.phase ≡ phase.ChildShake →
          level_shown (hearing x).state x.port ≡ level.Parent →
          (ticking x).state.view.phase ≡ phase.ChildShake
      stays c shown = elim (beat-child-shake x.beat (hearing x).state c) [
        | inr a ↦ a
        | inl a ↦ absurd (parent-idle (level_shown (hearing x).state x.port) shown (child-idle (hearing x).state x.port a.0 (hx.child x.port ∙ was) (heard_connected d x r.pair.near)))
      ]

  -- x leaves T0
  below-new :
      NoEntry x.node (hearing x) → NoEntry y.node (hearing y) →
      leads_down (ticking x).state.view.ports x.port ≡ true → x.node.view.phase ≡ phase.TreeStart →
      level_shown (hearing x).state x.port ≡ level.Parent →
      IsBelow (ticking x).state x.port (ticking y).state
  below-new hx hy c start shown = record {
    calm = λ t. elim (beat-contending y.beat (hearing y).state t) [
      | inl o ↦ elim (other-of d x y r start) [
        | inl e ↦ early-contend y.node.view.phase e (sym hy.phase ∙ o)
        | inr a ↦ contend-shaking y.node.view.phase (sym hy.phase ∙ o) (and_parts (is_shaking y.node.view.phase) (is_port y.node.view.parent y.port) a).0
      ]
      | inr w ↦ other-draws-not d x y r start hy w
    ];
    asks = λ s. (
      elim (late-before d x y r (child-late (ticking x).state r.pair.near.ticks.valid x.port c)) [
        | inl l ↦ absurd (start-late x.node.view.phase start l)
        | inr z ↦ z.1
      ],
      r.pair.near.ticks.shown x.port ∙ shown,
    );
  }

  -- x loses a contention
  below-lost :
      NoEntry x.node (hearing x) → NoEntry y.node (hearing y) → has_reset (signals_of y.wire)
      ≡ false → x.node.view.phase ≡ phase.Contend → is_port x.node.view.parent x.port ≡ true →
      level_shown (hearing x).state x.port ≡ level.Parent →
      (hearing x).state.view.wait ≤ risen (hearing x).state.view.timer →
      leads_down (ticking x).state.view.ports x.port ≡ true →
      IsBelow (ticking x).state x.port (ticking y).state
  below-lost hx hy nr t ux shown o c = record {
    calm = λ e. elim (beat-contending y.beat (hearing y).state e) [
      | inl f ↦ contend-shaking y.node.view.phase (sym hy.phase ∙ f) shakes
      | inr w ↦ long-undrawn d x y r ux uy t long hy w
    ];
    asks = λ s. (took (beat-fought x.beat (hearing x).state r.pair.near.hears.valid (hx.phase ∙ t) (omega (arith, hx.timer, hx.wait, r.near.waits t))), r.pair.near.ticks.shown x.port ∙ shown);
  }
    where
      l : is_before_tree y.node.view.phase ≡ false
      l = sees-late d x y r nr (low-not-parent (level_shown (hearing x).state x.port) shown)

      up :
          (b : Bool) → leads_down y.node.view.ports y.port ≡ b →
          is_port y.node.view.parent y.port ≡ true
      up true e =
          let k = r.pair.coupled_back.child e (calm d x y r (up-late d x y r ux)) in
          absurd (other-level (level_shown (hearing x).state x.port) shown (heard_no_parent d y x (turned-round d x y r.pair) k.1 k.2))
      up false e = not-false (is_port y.node.view.parent y.port) (sym (child-if y.node.view.parent y.node.view.ports y.port (late-roles y.node r.pair.other.valid l) r.pair.other.connected) ∙ e)

      uy : is_port y.node.view.parent y.port ≡ true
      uy = up (leads_down y.node.view.ports y.port) refl

      over : (x.node.view.wait ≤ x.node.view.timer + 1) × (2 * d ≤ x.node.view.timer)
      over = over-timer d x y r ux uy hx t o

      long : d ≤ x.node.view.timer
      long = omega (arith, over.1, r.pair.some_delay)

      shakes : is_shaking y.node.view.phase ≡ true
      shakes = go (r.here.rivals ux uy)
        where
          go :
              AreRivals d x.node x.clock x.port x.wire y.node y.clock y.port y.wire →
              is_shaking y.node.view.phase ≡ true
          go (inl a) = a.there
          go (inr (inl m)) = absurd (idle-parent (level_shown (hearing x).state x.port) (long-idle d y x sv uy ux m.there (omega (arith, over.1, near-most d x.node y.node y.clock m.near, r.pair.some_delay))) shown)
          go (inr (inr (inl a))) = a.there
          go (inr (inr (inr a))) = absurd (contend-shaking x.node.view.phase t a.there)

      took :
          Fights x.beat (hearing x).state (ticking x).state (ticking x).sends →
          (ticking x).state.view.phase ≡ phase.ChildShake
      took (inl w) = elim w.timer [ inl a ↦ absurd (not-missed d x y r hx ux c a.0) | inr t ↦ absurd (omega (arith, w.not_yet, o, t)) ]
      took (inr (inl w)) = w.phase
      took (inr (inr w)) = absurd (other-level (level_shown (hearing x).state x.port) shown (again-sees d x y r w (up-mid d x y r hx ux)))

  below-after :
      leads_down (ticking x).state.view.ports x.port ≡ true → has_reset (signals_of (wire_after y))
      ≡ false → IsBelow (ticking x).state x.port (ticking y).state
  below-after c n = elim (r.pair.near.ticks.child x.port (heard_connected d x r.pair.near) c) [
    | inl z ↦
        let was : leads_down x.node.view.ports x.port ≡ true = sym (hx.child x.port) ∙ z in
        below-old hx hy was (before (child-late x.node r.pair.near.valid x.port was))
    | inr o ↦ elim o [
      | inl z ↦ below-new hx hy c (sym hx.phase ∙ z.0) z.1
      | inr z ↦
          let ux : is_port x.node.view.parent x.port ≡ true = ap (λ o. is_port o x.port) (sym hx.parent ∙ z.1) ∙ eq-eqb x.port x.port refl in
          below-lost hx hy (before (up-late d x y r ux)) (sym hx.phase ∙ z.0) ux z.2 z.3 c
    ]
  ]
    where
      hx : NoEntry x.node (hearing x)
      hx = near_heard d x y r.pair c

      hy : NoEntry y.node (hearing y)
      hy = other_heard d x y r.pair n

      before : is_before_tree x.node.view.phase ≡ false → has_reset (signals_of y.wire) ≡ false
      before l = no_reset_before d x y r.pair (late-start x.node.view.phase l) hx n

  pub contests-turn :
      Contests d (ticking x).state (clock_after x.clock) x.port (wire_after x) (ticking y).state (clock_after y.clock) y.port (wire_after y)
  contests-turn = record {
    told = told-after d x y r;
    later = later-after;
    rivals = stand-kept d x y r;
    won = won-after;
    below = below-after;
  }
