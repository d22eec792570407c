-- Nodes in R1 and T0 in a turn in which no Reset comes: how they come there, and what keeps them
-- there.
use Rattle.std.proofs.Common.{None, Some, Option, ◌≡◌, ◌⊎◌, inl, inr, ℕ, suc, ◌+◌, ◌<◌, ◌≤◌, Bool, true, false, not, ◌&&◌, ◌||◌, ◌==◌, cond, List, [], ◌∷◌, count_by, nat_le, if◌then◌else◌, refl, sym, ap, arith, true≢false}
use Rattle.std.proofs.lemmas.Bool.{leb-false, and_from}
use Rattle.std.proofs.lemmas.Bool.Decides.{nat_tests}
use Rattle.std.proofs.lemmas.List.Sums.{sum_by-cons}
use Rattle.convergence.proofs.Common.{on_beat, Phase, PortView, NodeState, is_parent, every, port_is, is_connected, Row, raise_timer, row_of, does, next_row, tick, is_before_tree, is_in_bus_reset, risen, Chosen, chosen}
use Rattle.port_state.specs.declared.signal.Phase.TheVariants as phase
use Rattle.port_state.specs.Ports.{asks, connected_count}
use Rattle.port_state.specs.Resetting.{is_calm}
use Rattle.port_state.specs.TreeIdentify.{is_decided}
use Rattle.port_state.specs.Row as row

-- ---- how a node comes there

row-waiting :
    (coin : Bool) (r : Row) (x : NodeState) → Chosen r x →
    is_in_bus_reset (does coin r x).state.view.phase ≡ true → is_in_bus_reset x.view.phase ≡ true
row-waiting coin row.none x c h = h
row-waiting coin row.ends_reset x c h = ap is_in_bus_reset c.0
row-waiting coin row.times_out x c h = h
row-waiting coin (row.asks_child p) x c h = h
row-waiting coin r x c h = absurd (true≢false (sym h))

row-early :
    (coin : Bool) (r : Row) (x : NodeState) → Chosen r x →
    is_before_tree (does coin r x).state.view.phase ≡ true → is_before_tree x.view.phase ≡ true
row-early coin row.none x c h = h
row-early coin row.ends_reset x c h = ap is_before_tree c.0
row-early coin row.begins_tree x c h = ap is_before_tree c.0
row-early coin row.times_out x c h = h
row-early coin (row.asks_child p) x c h = h
row-early coin r x c h = absurd (true≢false (sym h))

-- in R0 or R1 after a tick: so before
tick-was-waiting :
    (coin : Bool) (x : NodeState) → is_in_bus_reset (tick coin x).state.view.phase ≡ true →
    is_in_bus_reset x.view.phase ≡ true
unfolding tick
tick-was-waiting coin x h = row-waiting coin (next_row x) (raise_timer x) (chosen x.view.phase (raise_timer x) refl) h

pub was-waiting :
    (b : Option Bool) (x : NodeState) → is_in_bus_reset (on_beat b x).state.view.phase ≡ true →
    is_in_bus_reset x.view.phase ≡ true
was-waiting None x h = h
was-waiting (Some coin) x h = tick-was-waiting coin x h

tick-was-early :
    (coin : Bool) (x : NodeState) → is_before_tree (tick coin x).state.view.phase ≡ true →
    is_before_tree x.view.phase ≡ true
unfolding tick
tick-was-early coin x h = row-early coin (next_row x) (raise_timer x) (chosen x.view.phase (raise_timer x) refl) h

pub was-early :
    (b : Option Bool) (x : NodeState) → is_before_tree (on_beat b x).state.view.phase ≡ true →
    is_before_tree x.view.phase ≡ true
was-early None x h = h
was-early (Some coin) x h = tick-was-early coin x h

-- ---- what keeps it there

-- in R1: some port isn't calm
tick-waits-for :
    (coin : Bool) (x : NodeState) → x.view.phase ≡ phase.ResetWait →
    is_in_bus_reset (tick coin x).state.view.phase ≡ true → every (λ p. is_calm p.shown)
    x.view.ports ≡ false
unfolding tick
tick-waits-for coin x e h = kept x.view.phase (raise_timer x) e h
  where
    kept :
        (p : Phase) (y : NodeState) → p ≡ phase.ResetWait →
        is_in_bus_reset (does coin (row_of p y) y).state.view.phase ≡ true →
        every (λ q. is_calm q.shown) y.view.ports ≡ false
    kept phase.ResetWait y e h = go (every (λ q. is_calm q.shown) y.view.ports) refl h
      where
        go :
            (b : Bool) → every (λ q. is_calm q.shown) y.view.ports ≡ b →
            is_in_bus_reset (does coin (if b then row.begins_tree else row.none) y).state.view.phase
            ≡ true →
            b ≡ false
        go false e h = refl
        go true e h = absurd (true≢false (sym h))
    kept p y e h = absurd cc

-- or the turn is missed
pub waits-for :
    (b : Option Bool) (x : NodeState) → x.view.phase ≡ phase.ResetWait →
    is_in_bus_reset (on_beat b x).state.view.phase ≡ true →
    (b ≡ None) ⊎ (every (λ p. is_calm p.shown) x.view.ports ≡ false)
waits-for None x e h = inl refl
waits-for (Some coin) x e h = inr (tick-waits-for coin x e h)

-- in T0: its roles aren't decided, the timer rose, and after a while the node reports a time out
pub record StaysInStart (x y : NodeState) : Type 0 where
  pub undecided : is_decided (raise_timer x) ≡ false
  pub timer : y.view.timer ≡ risen x.view.timer
  pub reports : x.timing.timeout ≤ y.view.timer → y.view.timed_out ≡ true

pub stays-in-start :
    (coin : Bool) (x : NodeState) → x.view.phase ≡ phase.TreeStart →
    (tick coin x).state.view.phase ≡ phase.TreeStart → StaysInStart x (tick coin x).state
unfolding tick
stays-in-start coin x e h = kept x.view.phase e h
  where
    y : NodeState
    y = raise_timer x

    Result : Row → Type 0
    Result r = StaysInStart x (does coin r (raise_timer x)).state

    late :
        is_decided (raise_timer x) ≡ false → (b : Bool) →
        nat_le x.timing.timeout (raise_timer x).view.timer ≡ b →
        StaysInStart x (does coin (if b then row.times_out else row.none) (raise_timer x)).state
    late d true t = record { undecided = d; timer = refl; reports = λ l. refl }
    late d false t = record { undecided = d; timer = refl; reports = λ l. absurd (omega (arith, l, leb-false x.timing.timeout (raise_timer x).view.timer t)) }

    kept :
        (p : Phase) → p ≡ phase.TreeStart →
        (does coin (row_of p (raise_timer x)) (raise_timer x)).state.view.phase ≡ phase.TreeStart →
        StaysInStart x (does coin (row_of p (raise_timer x)) (raise_timer x)).state
    kept phase.TreeStart e h = go (is_decided (raise_timer x)) refl h
      where
        go : (b : Bool) → is_decided (raise_timer x) ≡ b →
            (does coin (if b then row.takes_roles else (if nat_le x.timing.timeout (raise_timer x).view.timer then row.times_out else row.none)) (raise_timer x)).state.view.phase
            ≡ phase.TreeStart →
            StaysInStart x (does coin (if b then row.takes_roles else (if nat_le x.timing.timeout (raise_timer x).view.timer then row.times_out else row.none)) (raise_timer x)).state
        go true d h = absurd cc
        go false d h = late d (nat_le x.timing.timeout (raise_timer x).view.timer) refl
    kept p e h = absurd cc

-- or the turn is missed
pub start-on :
    (b : Option Bool) (x : NodeState) → x.view.phase ≡ phase.TreeStart →
    (on_beat b x).state.view.phase ≡ phase.TreeStart →
    ((b ≡ None) × ((on_beat b x).state ≡ x)) ⊎ StaysInStart x (on_beat b x).state
start-on None x e h = inl (refl, refl)
start-on (Some coin) x e h = inr (stays-in-start coin x e h)

-- ---- ports

-- a test that each connected port passes
pub every-from :
    (test : PortView → Bool) (ports : List PortView) →
    ((k : ℕ) → is_connected ports k ≡ true → port_is test ports k ≡ true) → every test ports ≡ true
every-from test [] h = refl
every-from test (p ∷ ps) h = and_from _ _ (go p.connected (h 0)) (every-from test ps (λ k. h (suc k)))
  where
    go : (b : Bool) → (b ≡ true → test p ≡ true) → (if b then test p else true) ≡ true
    go true f = f refl
    go false f = refl

pub count-cons :
    (q : PortView → Bool) (p : PortView) (ps : List PortView) → count_by q (p ∷ ps) ≡ cond (q p)
    1 0 + count_by q ps
count-cons q p ps = sum_by-cons (λ x. cond (q x) 1 0) p ps

-- a connected port that shows no Parent
pub record Left (ports : List PortView) (k : ℕ) : Type 0 where
  pub on : is_connected ports k ≡ true
  pub silent : port_is (λ p. is_parent p.shown) ports k ≡ false

left-next : (p : PortView) (ps : List PortView) (k : ℕ) → Left ps k → Left (p ∷ ps) (suc k)
left-next p ps k h = record { on = h.on; silent = h.silent }

-- a first port asks, is left or has no cable
split :
    (p : PortView) → ((p.connected ≡ true) × (is_parent p.shown ≡ false)) ⊎ ◌≡◌ {A = ℕ}
    (cond p.connected 1 0) (cond (asks p) 1 0)
split p = go p.connected (is_parent p.shown)
  where
    go : (c s : Bool) → ((c ≡ true) × (s ≡ false)) ⊎ ◌≡◌ {A = ℕ} (cond c 1 0) (cond (c && s) 1 0)
    go true false = inl (refl, refl)
    go true true = inr refl
    go false s = inr refl

most : (p : PortView) → cond p.connected 1 0 ≤ cond (asks p) 1 0 + 1
most p = go p.connected (is_parent p.shown)
  where
    go : (c s : Bool) → cond c 1 0 ≤ cond (c && s) 1 0 + 1
    go c s = grind arith

pub one-left :
    (ports : List PortView) → count_by asks ports + 1 ≤ connected_count ports → (k : ℕ)
    × Left ports k
one-left [] h = absurd (omega (arith, h))
one-left (p ∷ ps) h = elim (split p) [
  | inl a ↦ (0, record { on = a.0; silent = a.1 })
  | inr same ↦
      let r = one-left ps (omega (arith, h, same, count-cons asks p ps, count-cons (λ q. q.connected) p ps)) in
      (suc r.0, left-next p ps r.0 r.1)
]

-- two ports are left, unless all ask but one
pub record TwoLeft (ports : List PortView) : Type 0 where
  pub low : ℕ
  pub high : ℕ
  pub apart : low < high
  pub low_left : Left ports low
  pub high_left : Left ports high

pub two-left :
    (ports : List PortView) → count_by asks ports + 2 ≤ connected_count ports → TwoLeft ports
two-left [] h = absurd (omega (arith, h))
two-left (p ∷ ps) h = elim (split p) [
  | inl a ↦
      let r = one-left ps (omega (arith, h, most p, count-cons asks p ps, count-cons (λ q. q.connected) p ps)) in
      record { low = 0; high = suc r.0; apart = omega arith; low_left = record { on = a.0; silent = a.1 }; high_left = left-next p ps r.0 r.1 }
  | inr same ↦
      let r = two-left ps (omega (arith, h, same, count-cons asks p ps, count-cons (λ q. q.connected) p ps)) in
      record { low = suc r.low; high = suc r.high; apart = omega (arith, r.apart); low_left = left-next p ps r.low r.low_left; high_left = left-next p ps r.high r.high_left }
]

pub asks-few : (ports : List PortView) → count_by asks ports ≤ connected_count ports
asks-few [] = omega arith
asks-few (p ∷ ps) = omega (arith, less p.connected (is_parent p.shown), asks-few ps, count-cons asks p ps, count-cons (λ q. q.connected) p ps)
  where
    less : (c s : Bool) → cond (c && s) 1 0 ≤ cond c 1 0
    less c s = grind arith

-- once a node needn't wait, two ports keep it undecided
pub undecided-two :
    (x : NodeState) → is_decided x ≡ false → x.timing.force ≤ x.view.timer → TwoLeft x.view.ports
undecided-two x d f = two-left x.view.ports (short (count_by asks x.view.ports) (connected_count x.view.ports) (not x.view.force) x.timing.force x.view.timer d f (asks-few x.view.ports))
  where
    short :
        (a c : ℕ) (b : Bool) (f t : ℕ) → ((a == c) || ((a + 1 == c) && (b || nat_le f t))) ≡ false →
        f ≤ t → a ≤ c → a + 2 ≤ c
    short a c b f t d l m = grind (arith, nat_tests)
