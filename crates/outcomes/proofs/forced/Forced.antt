-- Whether a node waits to become root: what it takes over at its entry to R0 it keeps until the
-- next.
use Rattle.std.proofs.Common.{◌≡◌, ℕ, zero, suc, ◌+◌, ◌<◌, ◌≤◌, Bool, true, false, not, ◌&&◌, ◌||◌, ◌==◌, cond, List, [], ◌∷◌, count_by, nat_le, Some, None, if◌then◌else◌, refl, sym, ◌∙◌, ap, arith, true≢false, Option}
use Rattle.std.specs.List.{position_from}
use Rattle.std.proofs.lemmas.Bool.Decides.{nat_tests}
use Rattle.outcomes.proofs.Common.{contrary, Signal, PortView, NodeState, is_parent, asks, is_remaining, lowest, silent_step, enter, is_resetting, with_level, is_heard, hears, on_signal, is_decided, Row, raise_timer, does, next_row, tick, is_before_tree, hear-stays, Chosen, chosen, hear_all, waits_due, gap_due}
use Rattle.port_state.specs.declared.signal.Level.TheVariants as level
use Rattle.port_state.specs.declared.signal.Phase.TheVariants as phase
use Rattle.port_state.specs.declared.signal.Signal.TheVariants as signal
use Rattle.port_state.specs.Ports.{connected_count}
use Rattle.port_state.specs.Row as row
use Rattle.convergence.proofs.Lemmas.{Left, TwoLeft, one-left, two-left, asks-few, count-cons}
use Rattle.port_state.specs.Machine.{on_beat}

-- ---- hearing

-- two nodes have there, or will have, the same
abbrev pub SameDue : NodeState → NodeState → Type 0
SameDue y x = (waits_due y.view ≡ waits_due x.view) × (gap_due y.view ≡ gap_due x.view)

-- in or out of R0, what a node has there, or will have, stays
due-reset :
    (n : ℕ) (x : NodeState) (b : Bool) → is_resetting x.view.phase ≡ b →
    SameDue (if b then silent_step (with_level n level.Reset x) else enter false (with_level n level.Reset x)).state x
unfolding enter
due-reset n x true e = (refl, refl)
due-reset n x false e = (rw e refl, rw e refl)

due-hears : (n : ℕ) (s : Signal) (x : NodeState) → SameDue (hears n s x).state x
due-hears n signal.Reset x = due-reset n x (is_resetting x.view.phase) refl
due-hears n signal.Idle x = (refl, refl)
due-hears n signal.Parent x = (refl, refl)
due-hears n signal.Child x = (refl, refl)
due-hears n signal.Grant x = (refl, refl)
due-hears n (signal.Packet quad) x = (refl, refl)
due-hears n signal.Done x = (refl, refl)

due-signal : (n : ℕ) (s : Signal) (x : NodeState) → SameDue (on_signal n s x).state x
unfolding on_signal
due-signal n s x = go (is_heard n s x)
  where
    go : (b : Bool) → SameDue (if b then hears n s x else silent_step x).state x
    go true = due-hears n s x
    go false = (refl, refl)

pub due-heard : (signals : List (ℕ × Signal)) (x : NodeState) → SameDue (hear_all signals x).state x
due-heard [] x = (refl, refl)
due-heard (s ∷ rest) x =
    let later = due-heard rest (on_signal s.0 s.1 x).state in
    let first = due-signal s.0 s.1 x in
    (later.0 ∙ first.0, later.1 ∙ first.1)

-- where no reset begins, the node keeps what it has
abbrev Kept : NodeState → NodeState → Type 0
Kept x y = is_resetting y.view.phase ≡ is_resetting x.view.phase → (y.view.force ≡ x.view.force) × (y.view.draws ≡ x.view.draws) × (y.view.gap ≡ x.view.gap)

kept-reset :
    (n : ℕ) (x : NodeState) (b : Bool) → is_resetting x.view.phase ≡ b →
    Kept x (if b then silent_step (with_level n level.Reset x) else enter false (with_level n level.Reset x)).state
unfolding enter
kept-reset n x true e h = (refl, refl, refl)
kept-reset n x false e h = absurd (true≢false (h ∙ e))

kept-hears : (n : ℕ) (s : Signal) (x : NodeState) → Kept x (hears n s x).state
kept-hears n signal.Reset x = kept-reset n x (is_resetting x.view.phase) refl
kept-hears n signal.Idle x = λ h. (refl, refl, refl)
kept-hears n signal.Parent x = λ h. (refl, refl, refl)
kept-hears n signal.Child x = λ h. (refl, refl, refl)
kept-hears n signal.Grant x = λ h. (refl, refl, refl)
kept-hears n (signal.Packet quad) x = λ h. (refl, refl, refl)
kept-hears n signal.Done x = λ h. (refl, refl, refl)

kept-signal : (n : ℕ) (s : Signal) (x : NodeState) → Kept x (on_signal n s x).state
unfolding on_signal
kept-signal n s x = go (is_heard n s x)
  where
    go : (b : Bool) → Kept x (if b then hears n s x else silent_step x).state
    go true = kept-hears n s x
    go false = λ h. (refl, refl, refl)

pub kept-heard :
    (signals : List (ℕ × Signal)) (x : NodeState) →
    is_resetting (hear_all signals x).state.view.phase ≡ is_resetting x.view.phase →
    ((hear_all signals x).state.view.force ≡ x.view.force)
    × ((hear_all signals x).state.view.draws ≡ x.view.draws)
    × ((hear_all signals x).state.view.gap ≡ x.view.gap)
kept-heard [] x h = (refl, refl, refl)
kept-heard (s ∷ rest) x h = go (kept-heard rest (on_signal s.0 s.1 x).state) (is_resetting x.view.phase) refl (is_resetting first.view.phase) refl
  where
    first : NodeState
    first = (on_signal s.0 s.1 x).state

    last : NodeState
    last = (hear_all rest (on_signal s.0 s.1 x).state).state

    both :
        Kept first last → is_resetting last.view.phase ≡ is_resetting first.view.phase →
        is_resetting first.view.phase ≡ is_resetting x.view.phase → (last.view.force ≡ x.view.force)
        × (last.view.draws ≡ x.view.draws) × (last.view.gap ≡ x.view.gap)
    both next e f = let k = kept-signal s.0 s.1 x f in ((next e).0 ∙ k.0, (next e).1 ∙ k.1, (next e).2 ∙ k.2)

    go :
        Kept first last → (b : Bool) → is_resetting x.view.phase ≡ b → (c : Bool) →
        is_resetting first.view.phase ≡ c → (last.view.force ≡ x.view.force)
        × (last.view.draws ≡ x.view.draws) × (last.view.gap ≡ x.view.gap)
    go next true e true f = both next (h ∙ e ∙ sym f) (f ∙ sym e)
    go next false e false f = both next (h ∙ e ∙ sym f) (f ∙ sym e)
    go next true e false f = contrary (hear-stays (s ∷ []) x e) f
    go next false e true f = contrary (hear-stays rest first f) (h ∙ e)

-- ---- ticking

-- a tick changes none of these
abbrev KeepsDue : NodeState → NodeState → Type 0
KeepsDue x y = (y.view.force ≡ x.view.force) × (y.view.next_force ≡ x.view.next_force) × (y.view.gap ≡ x.view.gap) × (y.view.next_gap ≡ x.view.next_gap)

row-holds : (coin : Bool) (r : Row) (x : NodeState) → KeepsDue x (does coin r x).state
row-holds coin row.none x = (refl, refl, refl, refl)
row-holds coin row.ends_reset x = (refl, refl, refl, refl)
row-holds coin row.begins_tree x = (refl, refl, refl, refl)
row-holds coin row.takes_roles x = (refl, refl, refl, refl)
row-holds coin row.times_out x = (refl, refl, refl, refl)
row-holds coin row.awaits_parent x = (refl, refl, refl, refl)
row-holds coin row.becomes_root x = (refl, refl, refl, refl)
row-holds coin (row.finds_parent p) x = (refl, refl, refl, refl)
row-holds coin (row.begins_contention p) x = (refl, refl, refl, refl)
row-holds coin (row.takes_rival p) x = (refl, refl, refl, refl)
row-holds coin (row.asks_again p) x = (refl, refl, refl, refl)
row-holds coin (row.asks_child p) x = (refl, refl, refl, refl)
row-holds coin row.names_itself x = (refl, refl, refl, refl)

pub tick-holds : (coin : Bool) (x : NodeState) → KeepsDue x (tick coin x).state
unfolding tick
tick-holds coin x = row-holds coin (next_row x) (raise_timer x)

pub beat-tick-holds : (b : Option Bool) (x : NodeState) → KeepsDue x (on_beat b x).state
beat-tick-holds None x = (refl, refl, refl, refl)
beat-tick-holds (Some coin) x = tick-holds coin x

-- how a node comes past T0
pub record Takes (x y : NodeState) : Type 0 where
  pub start : x.view.phase ≡ phase.TreeStart
  pub decided : is_decided (raise_timer x) ≡ true
  pub parent : y.view.parent ≡ lowest is_remaining x.view.ports

row-takes :
    (coin : Bool) (r : Row) (x : NodeState) → Chosen r x → is_before_tree x.view.phase ≡ true →
    is_before_tree (does coin r x).state.view.phase ≡ false →
    (x.view.phase ≡ phase.TreeStart) × (is_decided x ≡ true)
    × ((does coin r x).state.view.parent ≡ lowest is_remaining x.view.ports)
row-takes coin row.none x c b h = contrary b h
row-takes coin row.ends_reset x c b h = absurd (true≢false h)
row-takes coin row.begins_tree x c b h = absurd (true≢false h)
row-takes coin row.takes_roles x c b h = (c.0, c.1, refl)
row-takes coin row.times_out x c b h = contrary b h
row-takes coin row.awaits_parent x c b h = contrary b (ap is_before_tree c)
row-takes coin row.becomes_root x c b h = contrary b (ap is_before_tree c.0)
row-takes coin (row.finds_parent p) x c b h = contrary b (ap is_before_tree c.0)
row-takes coin (row.begins_contention p) x c b h = contrary b (ap is_before_tree c.0)
row-takes coin (row.takes_rival p) x c b h = contrary b (ap is_before_tree c.0)
row-takes coin (row.asks_again p) x c b h = contrary b (ap is_before_tree c.0)
row-takes coin (row.asks_child p) x c b h = contrary b h
row-takes coin row.names_itself x c b h = contrary b (ap is_before_tree c)

pub tick-takes :
    (coin : Bool) (x : NodeState) → is_before_tree x.view.phase ≡ true →
    is_before_tree (tick coin x).state.view.phase ≡ false → Takes x (tick coin x).state
unfolding tick
tick-takes coin x b h =
    let t = row-takes coin (next_row x) (raise_timer x) (chosen x.view.phase (raise_timer x) refl) b h in
    record { start = t.0; decided = t.1; parent = t.2 }

pub beat-tick-takes :
    (b : Option Bool) (x : NodeState) → is_before_tree x.view.phase ≡ true →
    is_before_tree (on_beat b x).state.view.phase ≡ false → Takes x (on_beat b x).state
beat-tick-takes None x e h = contrary e h
beat-tick-takes (Some coin) x e h = tick-takes coin x e h

-- ---- ports

no-left :
    (n : ℕ) (ports : List PortView) → ((k : ℕ) → Left ports k → ⊥) →
    position_from is_remaining n ports ≡ None
no-left n [] h = refl
no-left n (p ∷ ps) h = go (no-left (n + 1) ps (λ k l. h (suc k) (record { on = l.on; silent = l.silent }))) p.connected (is_parent p.shown) (λ c s. h 0 (record { on = c; silent = s }))
  where
    go :
        position_from is_remaining (n + 1) ps ≡ None → (c s : Bool) → (c ≡ true → s ≡ false → ⊥) →
        cond (c && not s) (Some n) (position_from is_remaining (n + 1) ps) ≡ None
    go rest true false f = absurd (f refl refl)
    go rest true true f = rest
    go rest false s f = rest

left-counts :
    (ports : List PortView) (k : ℕ) → Left ports k → count_by asks ports + 1 ≤ connected_count ports
left-counts [] k l = absurd (true≢false (sym l.on))
left-counts (p ∷ ps) zero l = omega (arith, first p.connected (is_parent p.shown) l.on l.silent, asks-few ps, count-cons asks p ps, count-cons (λ q. q.connected) p ps)
  where
    first : (c s : Bool) → c ≡ true → s ≡ false → cond (c && s) 1 0 + 1 ≤ cond c 1 0
    first c s h g = grind arith
left-counts (p ∷ ps) (suc k) l = omega (arith, less p.connected (is_parent p.shown), left-counts ps k (record { on = l.on; silent = l.silent }), count-cons asks p ps, count-cons (λ q. q.connected) p ps)
  where
    less : (c s : Bool) → cond (c && s) 1 0 ≤ cond c 1 0
    less c s = grind arith

-- a node that waits and doesn't take over for long knows its tree only where every port asks: it
-- has no parent port
pub waits-parentless :
    (x : NodeState) → is_decided x ≡ true → x.view.force ≡ true → x.view.timer < x.timing.force →
    lowest is_remaining x.view.ports ≡ None
waits-parentless x d f t = no-left 0 x.view.ports (λ k l.
    omega (arith, all (count_by asks x.view.ports) (connected_count x.view.ports) x.view.force x.timing.force x.view.timer d f t, left-counts x.view.ports k l))
  where
    all :
        (a c : ℕ) (b : Bool) (m t : ℕ) → ((a == c) || ((a + 1 == c) && (not b || nat_le m t)))
        ≡ true → b ≡ true → t < m → a ≡ c
    all a c b m t d f l = grind (arith, nat_tests)

-- a node that doesn't wait stays in T0 for two ports at least
pub undecided-free :
    (x : NodeState) → is_decided x ≡ false → x.view.force ≡ false → TwoLeft x.view.ports
undecided-free x d f = two-left x.view.ports (short (count_by asks x.view.ports) (connected_count x.view.ports) x.view.force (nat_le x.timing.force x.view.timer) d f (asks-few x.view.ports))
  where
    short :
        (a c : ℕ) (b e : Bool) → ((a == c) || ((a + 1 == c) && (not b || e))) ≡ false → b ≡ false →
        a ≤ c → a + 2 ≤ c
    short a c b e d l m = grind (arith, nat_tests)

-- any node stays there for one
pub undecided-one : (x : NodeState) → is_decided x ≡ false → (k : ℕ) × Left x.view.ports k
undecided-one x d = one-left x.view.ports (short (count_by asks x.view.ports) (connected_count x.view.ports) _ d (asks-few x.view.ports))
  where
    short : (a c : ℕ) (b : Bool) → ((a == c) || b) ≡ false → a ≤ c → a + 1 ≤ c
    short a c b d m = grind (arith, nat_tests)
