-- What a tick does in tree identify, case by case, and what it draws.
use Rattle.std.proofs.Common.{◌≡◌, ◌⊎◌, inl, inr, ℕ, zero, suc, ◌+◌, ◌<◌, ◌≤◌, Bool, true, false, List, [], ◌∷◌, Option, Some, None, slice_get, refl, sym, ap, subst, arith, true≢false, if◌then◌else◌}
use Rattle.std.specs.Prelude.{min, IsSome, nat_le}
use Rattle.std.proofs.lemmas.Bool.{leb-true, and_parts}
use Rattle.convergence.proofs.Common.{Level, Signal, PortView, NodeState, is_idle, is_parent, is_child, every, passes, port_is, is_connected, draws_with, Row, raise_timer, row_of, does, next_row, tick, on_beat, FitsPhase, IsValid, is_before_tree, is_shaking, shown_or_idle, level_shown, Chosen, chosen, contrary}
use Rattle.port_state.specs.declared.signal.Level.TheVariants as level
use Rattle.port_state.specs.declared.signal.Phase.TheVariants as phase
use Rattle.port_state.specs.Contention.{contend_at}
use Rattle.port_state.specs.Row as row
use Rattle.cable_world.specs.Phases.{is_contending}
use Rattle.cable_world.proofs.Lemmas.{is-parent, is-child, elsewhere}

-- ---- what is drawn

-- a contention begins at port k, which shows Parent
pub record Drew (coin : Bool) (x y : NodeState) : Type 0 where
  pub before : x.view.phase ≡ phase.ParentShake
  pub port : ℕ
  pub parent : x.view.parent ≡ Some port
  pub shown : level_shown x port ≡ level.Parent
  pub phase : y.view.phase ≡ phase.Contend
  pub timer : y.view.timer ≡ 0
  pub wait : y.view.wait ≡ (if coin then x.timing.long else x.timing.short)
  pub draws : y.view.draws ≡ min (x.view.draws + 1) 65535
  pub first_draws : y.view.first_draws ≡ draws_with coin x.view.draws x.view.first_draws
  pub stays : y.view.parent ≡ x.view.parent

pub record DrewNone (x y : NodeState) : Type 0 where
  pub draws : y.view.draws ≡ x.view.draws
  pub first_draws : y.view.first_draws ≡ x.view.first_draws
  pub wait : y.view.wait ≡ x.view.wait

level-at :
    (test : Level → Bool) (l : Level) → ((m : Level) → test m ≡ true → m ≡ l) → (x : NodeState)
    (p : ℕ) → port_is (λ q. test q.shown) x.view.ports p ≡ true → level_shown x p ≡ l
level-at test l only-one x p h = go (slice_get x.view.ports p) h
  where
    go : (o : Option PortView) → passes (λ q. test q.shown) o ≡ true → shown_or_idle o ≡ l
    go None e = absurd (true≢false (sym e))
    go (Some q) e = only-one q.shown e

not-at :
    (x : NodeState) (p : ℕ) → port_is (λ q. is_parent q.shown) x.view.ports p ≡ false →
    is_parent (level_shown x p) ≡ false
not-at x p h = go (slice_get x.view.ports p) h
  where
    go :
        (o : Option PortView) → passes (λ q. is_parent q.shown) o ≡ false →
        is_parent (shown_or_idle o) ≡ false
    go None e = refl
    go (Some q) e = e

drew :
    (coin : Bool) (x : NodeState) (p : ℕ) → Chosen (row.begins_contention p) x →
    Drew coin x (does coin (row.begins_contention p) x).state
drew coin x p c = record {
  before = c.0;
  port = p;
  parent = c.1;
  shown = level-at is_parent level.Parent is-parent x p c.2;
  phase = refl;
  timer = refl;
  wait = refl;
  draws = refl;
  first_draws = refl;
  stays = refl;
}

drawing :
    (coin : Bool) (r : Row) (x : NodeState) → Chosen r x →
    Drew coin x (does coin r x).state ⊎ DrewNone x (does coin r x).state
drawing coin (row.begins_contention p) x c = inl (drew coin x p c)
drawing coin r x c = inr (record { draws = refl; first_draws = refl; wait = refl })

-- ---- what comes of T1 and T2

pub record Shook (x y : NodeState) (sends : List (ℕ × Signal)) : Type 0 where
  pub phase : is_shaking y.view.phase ≡ true
  pub parent : y.view.parent ≡ x.view.parent
  pub sends_none : sends ≡ []

pub record Accepted (x y : NodeState) : Type 0 where
  pub port : ℕ
  pub parent : x.view.parent ≡ Some port
  pub shown : level_shown x port ≡ level.Child
  pub stays : y.view.parent ≡ x.view.parent

abbrev pub Shaken : Bool → NodeState → NodeState → List (ℕ × Signal) → Type 0
Shaken coin x y sends = Shook x y sends ⊎ (Drew coin x y ⊎ ((x.view.parent ≡ None) ⊎ Accepted x y))

shaking :
    (coin : Bool) (r : Row) (x : NodeState) → Chosen r x → is_shaking x.view.phase ≡ true →
    Shaken coin x (does coin r x).state (does coin r x).sends
shaking coin row.none x c h = inl (record { phase = h; parent = refl; sends_none = refl })
shaking coin row.ends_reset x c h = absurd (elsewhere is_shaking c.0 refl h)
shaking coin row.begins_tree x c h = absurd (elsewhere is_shaking c.0 refl h)
shaking coin row.takes_roles x c h = absurd (elsewhere is_shaking c.0 refl h)
shaking coin row.times_out x c h = inl (record { phase = h; parent = refl; sends_none = refl })
shaking coin row.awaits_parent x c h = inl (record { phase = refl; parent = refl; sends_none = refl })
shaking coin row.becomes_root x c h = inr (inr (inl c.1))
shaking coin (row.finds_parent p) x c h = inr (inr (inr (record { port = p; parent = c.1; shown = level-at is_child level.Child is-child x p c.2; stays = refl })))
shaking coin (row.begins_contention p) x c h = inr (inl (drew coin x p c))
shaking coin (row.takes_rival p) x c h = absurd (elsewhere is_shaking c.0 refl h)
shaking coin (row.asks_again p) x c h = absurd (elsewhere is_shaking c.0 refl h)
shaking coin (row.asks_child p) x c h = absurd (elsewhere is_shaking c refl h)
shaking coin row.names_itself x c h = absurd (elsewhere is_shaking c refl h)

-- ---- what comes of T3

-- the wait goes on
pub record Waited (x y : NodeState) (sends : List (ℕ × Signal)) : Type 0 where
  pub phase : y.view.phase ≡ phase.Contend
  pub parent : y.view.parent ≡ x.view.parent
  pub timer : y.view.timer ≡ x.view.timer
  pub not_yet : x.view.timer < x.view.wait
  pub sends_none : sends ≡ []

-- it is over, and the rival asks
pub record TookRival (x y : NodeState) : Type 0 where
  pub over : x.view.wait ≤ x.view.timer
  pub port : ℕ
  pub parent : x.view.parent ≡ Some port
  pub shown : level_shown x port ≡ level.Parent
  pub phase : y.view.phase ≡ phase.ChildShake
  pub root : y.view.parent ≡ None

-- or it doesn't
pub record AskedAgain (x y : NodeState) : Type 0 where
  pub over : x.view.wait ≤ x.view.timer
  pub port : ℕ
  pub parent : x.view.parent ≡ Some port
  pub shown : is_parent (level_shown x port) ≡ false
  pub phase : y.view.phase ≡ phase.ParentShake
  pub stays : y.view.parent ≡ x.view.parent

abbrev pub Fought : NodeState → NodeState → List (ℕ × Signal) → Type 0
Fought x y sends = Waited x y sends ⊎ (TookRival x y ⊎ AskedAgain x y)

fighting :
    (coin : Bool) (x : NodeState) → IsSome x.view.parent → x.view.phase ≡ phase.Contend →
    Fought x (does coin (row_of phase.Contend x) x).state (does coin (row_of phase.Contend x) x).sends
fighting coin x some c = over (nat_le x.view.wait x.view.timer) refl
  where
    Goal : Row → Type 0
    Goal r = Fought x (does coin r x).state (does coin r x).sends

    sees :
        (p : ℕ) → x.view.parent ≡ Some p → x.view.wait ≤ x.view.timer → (b : Bool) →
        port_is (λ q. is_parent q.shown) x.view.ports p ≡ b →
        Goal (if b then row.takes_rival p else row.asks_again p)
    sees p e t true s = inr (inl (record { over = t; port = p; parent = e; shown = level-at is_parent level.Parent is-parent x p s; phase = refl; root = refl }))
    sees p e t false s = inr (inr (record { over = t; port = p; parent = e; shown = not-at x p s; phase = refl; stays = refl }))

    parent :
        (o : Option ℕ) → x.view.parent ≡ o → IsSome o → x.view.wait ≤ x.view.timer →
        Goal (contend_at o x)
    parent None e s t = absurd cc
    parent (Some p) e s t = sees p e t (port_is (λ q. is_parent q.shown) x.view.ports p) refl

    over :
        (b : Bool) → nat_le x.view.wait x.view.timer ≡ b →
        Goal (if b then contend_at x.view.parent x else row.none)
    over true t = parent x.view.parent refl some (leb-true _ _ t)
    over false t = inl (record { phase = c; parent = refl; timer = refl; not_yet = grind (arith, t); sends_none = refl })

-- ---- phases

-- past the tree stays past it
late-on :
    (coin : Bool) (r : Row) (x : NodeState) → Chosen r x → is_before_tree x.view.phase ≡ false →
    is_before_tree (does coin r x).state.view.phase ≡ false
late-on coin row.none x c h = h
late-on coin row.ends_reset x c h = contrary (ap is_before_tree c.0) h
late-on coin row.begins_tree x c h = contrary (ap is_before_tree c.0) h
late-on coin row.times_out x c h = h
late-on coin (row.asks_child p) x c h = h
late-on coin r x c h = refl

-- and begins in T0, with T1
late-was :
    (coin : Bool) (r : Row) (x : NodeState) → Chosen r x →
    is_before_tree (does coin r x).state.view.phase ≡ false → (is_before_tree x.view.phase ≡ false)
    ⊎ ((x.view.phase ≡ phase.TreeStart) × ((does coin r x).state.view.phase ≡ phase.ChildShake))
late-was coin row.none x c h = inl h
late-was coin row.takes_roles x c h = inr (c.0, refl)
late-was coin row.times_out x c h = inl h
late-was coin row.awaits_parent x c h = inl (ap is_before_tree c)
late-was coin row.becomes_root x c h = inl (ap is_before_tree c.0)
late-was coin (row.finds_parent p) x c h = inl (ap is_before_tree c.0)
late-was coin (row.begins_contention p) x c h = inl (ap is_before_tree c.0)
late-was coin (row.takes_rival p) x c h = inl (ap is_before_tree c.0)
late-was coin (row.asks_again p) x c h = inl (ap is_before_tree c.0)
late-was coin (row.asks_child p) x c h = inl h
late-was coin row.names_itself x c h = inl (ap is_before_tree c)
late-was coin r x c h = absurd (true≢false h)

-- T3 goes on, or begins with a draw
contending :
    (coin : Bool) (r : Row) (x : NodeState) → Chosen r x →
    (does coin r x).state.view.phase ≡ phase.Contend → (x.view.phase ≡ phase.Contend)
    ⊎ Drew coin x (does coin r x).state
contending coin row.none x c h = inl h
contending coin row.times_out x c h = inl h
contending coin (row.begins_contention p) x c h = inr (drew coin x p c)
contending coin (row.asks_child p) x c h = inl h
contending coin r x c h = absurd (elsewhere is_contending (sym h) refl refl)

-- T1 or T2 afterwards: it was that before, or in T0 or T3
shaking-from :
    (coin : Bool) (r : Row) (x : NodeState) → Chosen r x →
    is_shaking (does coin r x).state.view.phase ≡ true → (is_shaking x.view.phase ≡ true)
    ⊎ ((x.view.phase ≡ phase.TreeStart) ⊎ (x.view.phase ≡ phase.Contend))
shaking-from coin row.none x c h = inl h
shaking-from coin row.takes_roles x c h = inr (inl c.0)
shaking-from coin row.times_out x c h = inl h
shaking-from coin row.awaits_parent x c h = inl (ap is_shaking c)
shaking-from coin (row.takes_rival p) x c h = inr (inr c.0)
shaking-from coin (row.asks_again p) x c h = inr (inr c.0)
shaking-from coin (row.asks_child p) x c h = inl h
shaking-from coin r x c h = absurd (true≢false (sym h))

-- ---- of a tick

pub tick-contending :
    (coin : Bool) (x : NodeState) → (tick coin x).state.view.phase ≡ phase.Contend →
    (x.view.phase ≡ phase.Contend) ⊎ Drew coin x (tick coin x).state
unfolding tick
tick-contending coin x h = elim (contending coin (next_row x) (raise_timer x) (chosen x.view.phase (raise_timer x) refl) h) [
  | inl a ↦ inl a
  | inr d ↦ inr (record { before = d.before; port = d.port; parent = d.parent; shown = d.shown; phase = d.phase; timer = d.timer; wait = d.wait; draws = d.draws; first_draws = d.first_draws; stays = d.stays })
]

pub tick-draws :
    (coin : Bool) (x : NodeState) → Drew coin x (tick coin x).state ⊎ DrewNone x (tick coin x).state
unfolding tick
tick-draws coin x = elim (drawing coin (next_row x) (raise_timer x) (chosen x.view.phase (raise_timer x) refl)) [
  | inl d ↦ inl (record { before = d.before; port = d.port; parent = d.parent; shown = d.shown; phase = d.phase; timer = d.timer; wait = d.wait; draws = d.draws; first_draws = d.first_draws; stays = d.stays })
  | inr d ↦ inr (record { draws = d.draws; first_draws = d.first_draws; wait = d.wait })
]

pub tick-shaken :
    (coin : Bool) (x : NodeState) → is_shaking x.view.phase ≡ true →
    Shaken coin x (tick coin x).state (tick coin x).sends
unfolding tick
tick-shaken coin x h = elim (shaking coin (next_row x) (raise_timer x) (chosen x.view.phase (raise_timer x) refl) h) [
  | inl d ↦ inl (record { phase = d.phase; parent = d.parent; sends_none = d.sends_none })
  | inr e ↦ elim e [
    | inl d ↦ inr (inl (record { before = d.before; port = d.port; parent = d.parent; shown = d.shown; phase = d.phase; timer = d.timer; wait = d.wait; draws = d.draws; first_draws = d.first_draws; stays = d.stays }))
    | inr f ↦ elim f [
      | inl n ↦ inr (inr (inl n))
      | inr a ↦ inr (inr (inr (record { port = a.port; parent = a.parent; shown = a.shown; stays = a.stays })))
    ]
  ]
]

-- the timer rose before
pub tick-fought :
    (coin : Bool) (x : NodeState) → IsValid x → x.view.phase ≡ phase.Contend →
    Fought (raise_timer x) (tick coin x).state (tick coin x).sends
unfolding tick
tick-fought coin x v c =
    let some : IsSome x.view.parent = (subst (λ f. FitsPhase f x.view.parent x.view.ports) c v.fits).1 in
    subst (λ f. Fought (raise_timer x) (does coin (row_of f (raise_timer x)) (raise_timer x)).state (does coin (row_of f (raise_timer x)) (raise_timer x)).sends) (sym c) (fighting coin (raise_timer x) some c)

pub tick-late :
    (coin : Bool) (x : NodeState) → is_before_tree x.view.phase ≡ false →
    is_before_tree (tick coin x).state.view.phase ≡ false
unfolding tick
tick-late coin x h = late-on coin (next_row x) (raise_timer x) (chosen x.view.phase (raise_timer x) refl) h

pub tick-late-was :
    (coin : Bool) (x : NodeState) → is_before_tree (tick coin x).state.view.phase ≡ false →
    (is_before_tree x.view.phase ≡ false)
    ⊎ ((x.view.phase ≡ phase.TreeStart) × ((tick coin x).state.view.phase ≡ phase.ChildShake))
unfolding tick
tick-late-was coin x h = late-was coin (next_row x) (raise_timer x) (chosen x.view.phase (raise_timer x) refl) h

pub tick-shaking-from :
    (coin : Bool) (x : NodeState) → is_shaking (tick coin x).state.view.phase ≡ true →
    (is_shaking x.view.phase ≡ true)
    ⊎ ((x.view.phase ≡ phase.TreeStart) ⊎ (x.view.phase ≡ phase.Contend))
unfolding tick
tick-shaking-from coin x h = shaking-from coin (next_row x) (raise_timer x) (chosen x.view.phase (raise_timer x) refl) h

-- ---- of a turn of the clock, which may be missed

abbrev pub coin_of : Option Bool → Bool
coin_of None = false
coin_of (Some c) = c

pub beat-contending :
    (b : Option Bool) (x : NodeState) → (on_beat b x).state.view.phase ≡ phase.Contend →
    (x.view.phase ≡ phase.Contend) ⊎ Drew (coin_of b) x (on_beat b x).state
beat-contending None x h = inl h
beat-contending (Some c) x h = tick-contending c x h

pub beat-draws :
    (b : Option Bool) (x : NodeState) →
    Drew (coin_of b) x (on_beat b x).state ⊎ DrewNone x (on_beat b x).state
beat-draws None x = inr (record { draws = refl; first_draws = refl; wait = refl })
beat-draws (Some c) x = tick-draws c x

pub beat-shaken :
    (b : Option Bool) (x : NodeState) → is_shaking x.view.phase ≡ true →
    Shaken (coin_of b) x (on_beat b x).state (on_beat b x).sends
beat-shaken None x h = inl (record { phase = h; parent = refl; sends_none = refl })
beat-shaken (Some c) x h = tick-shaken c x h

-- the wait goes on
pub record Waits (b : Option Bool) (x y : NodeState) (sends : List (ℕ × Signal)) : Type 0 where
  pub phase : y.view.phase ≡ phase.Contend
  pub parent : y.view.parent ≡ x.view.parent
  pub timer : ((b ≡ None) × (y.view.timer ≡ x.view.timer)) ⊎ (y.view.timer ≡ min (x.view.timer + 1) 65535)
  pub not_yet : y.view.timer < x.view.wait
  pub sends_none : sends ≡ []

abbrev pub Fights : Option Bool → NodeState → NodeState → List (ℕ × Signal) → Type 0
Fights b x y sends = Waits b x y sends ⊎ (TookRival (raise_timer x) y ⊎ AskedAgain (raise_timer x) y)

pub beat-fought :
    (b : Option Bool) (x : NodeState) → IsValid x → x.view.phase ≡ phase.Contend →
    x.view.timer < x.view.wait → Fights b x (on_beat b x).state (on_beat b x).sends
beat-fought None x v c t = inl (record { phase = c; parent = refl; timer = inl (refl, refl); not_yet = t; sends_none = refl })
beat-fought (Some k) x v c t = elim (tick-fought k x v c) [
  | inl w ↦ inl (record { phase = w.phase; parent = w.parent; timer = inr w.timer; not_yet = omega (arith, w.timer, w.not_yet); sends_none = w.sends_none })
  | inr o ↦ inr o
]

pub beat-late :
    (b : Option Bool) (x : NodeState) → is_before_tree x.view.phase ≡ false →
    is_before_tree (on_beat b x).state.view.phase ≡ false
beat-late None x h = h
beat-late (Some c) x h = tick-late c x h

pub beat-late-was :
    (b : Option Bool) (x : NodeState) → is_before_tree (on_beat b x).state.view.phase ≡ false →
    (is_before_tree x.view.phase ≡ false)
    ⊎ ((x.view.phase ≡ phase.TreeStart) × ((on_beat b x).state.view.phase ≡ phase.ChildShake))
beat-late-was None x h = inl h
beat-late-was (Some c) x h = tick-late-was c x h

pub beat-shaking-from :
    (b : Option Bool) (x : NodeState) → is_shaking (on_beat b x).state.view.phase ≡ true →
    (is_shaking x.view.phase ≡ true)
    ⊎ ((x.view.phase ≡ phase.TreeStart) ⊎ (x.view.phase ≡ phase.Contend))
beat-shaking-from None x h = inl h
beat-shaking-from (Some c) x h = tick-shaking-from c x h

-- ---- T1

-- all child ports show Idle
abbrev pub all_idle : NodeState → Bool
all_idle x = every (λ p. if p.child then is_idle p.shown else true) x.view.ports

shake-by : (coin : Bool) (b : Bool) (x : NodeState) → x.view.phase ≡ phase.ChildShake →
    ((b ≡ true)
    × ((does coin (if b then row.awaits_parent else row.none) x).state.view.phase ≡ phase.ParentShake))
    ⊎ ((b ≡ false) × ((does coin (if b then row.awaits_parent else row.none) x).state.view.phase ≡ phase.ChildShake))
shake-by coin true x c = inl (refl, refl)
shake-by coin false x c = inr (refl, c)

-- it goes on with that alone
pub tick-child-shake :
    (coin : Bool) (x : NodeState) → x.view.phase ≡ phase.ChildShake →
    ((all_idle x ≡ true) × ((tick coin x).state.view.phase ≡ phase.ParentShake))
    ⊎ ((all_idle x ≡ false) × ((tick coin x).state.view.phase ≡ phase.ChildShake))
unfolding tick
tick-child-shake coin x c = subst (λ f. ((all_idle x ≡ true) × ((does coin (row_of f (raise_timer x)) (raise_timer x)).state.view.phase ≡ phase.ParentShake)) ⊎ ((all_idle x ≡ false) × ((does coin (row_of f (raise_timer x)) (raise_timer x)).state.view.phase ≡ phase.ChildShake))) (sym c) (shake-by coin (all_idle (raise_timer x)) (raise_timer x) c)

-- a child port that isn't idle
idle-at :
    (ports : List PortView) (k : ℕ) → every (λ p. if p.child then is_idle p.shown else true)
    ports ≡ true → port_is (λ p. p.child) ports k ≡ true → is_connected ports k ≡ true →
    is_idle (shown_or_idle (slice_get ports k)) ≡ true
idle-at [] k e c on = absurd (true≢false (sym c))
idle-at (p ∷ ps) zero e c on = go p.connected p.child (and_parts _ _ e).0 on c
  where
    go :
        (b g : Bool) → (if b then (if g then is_idle p.shown else true) else true) ≡ true →
        b ≡ true → g ≡ true → is_idle p.shown ≡ true
    go true true h e f = h
    go true false h e f = absurd cc
    go false g h e f = absurd cc
idle-at (p ∷ ps) (suc k) e c on = idle-at ps k (and_parts _ _ e).1 c on

pub child-idle :
    (x : NodeState) (k : ℕ) → all_idle x ≡ true → port_is (λ p. p.child) x.view.ports k ≡ true →
    is_connected x.view.ports k ≡ true → is_idle (level_shown x k) ≡ true
child-idle x k e c on = idle-at x.view.ports k e c on

-- T1 goes on, or ends where all child ports are idle
pub beat-child-shake :
    (b : Option Bool) (x : NodeState) → x.view.phase ≡ phase.ChildShake →
    ((all_idle x ≡ true) × ((on_beat b x).state.view.phase ≡ phase.ParentShake))
    ⊎ ((on_beat b x).state.view.phase ≡ phase.ChildShake)
beat-child-shake None x c = inr c
beat-child-shake (Some k) x c = elim (tick-child-shake k x c) [ inl a ↦ inl a | inr e ↦ inr e.1 ]
