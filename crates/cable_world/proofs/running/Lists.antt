-- A node's list in a turn: it grows at its end, or is emptied and doesn't grow again. So whether it changed is seen
-- from its length.
use Rattle.std.proofs.Common.{◌≡◌, ◌⊎◌, inl, inr, ℕ, Bool, true, false, ◌==◌, List, [], ◌∷◌, ◌++◌, length, length-append, Option, None, Some, refl, sym, ◌∙◌, ap, arith, append_assoc, append-nil, if◌then◌else◌}
use Rattle.std.specs.Prelude.{nat_eq, nat_lt, nat_le}
use Rattle.std.specs.Cmp.Lexicographic.{pointwise, same_text, other_text}
use Rattle.std.proofs.lemmas.Bool.{eqb-true, eq-eqb, and_parts}
use Rattle.std.proofs.lemmas.List.{nil_from_length}
use Rattle.port_state.specs.declared.signal.Level.TheVariants as level
use Rattle.port_state.specs.declared.signal.Phase.{Phase}
use Rattle.port_state.specs.declared.signal.Phase.TheVariants as phase
use Rattle.port_state.specs.declared.signal.Signal.{Signal}
use Rattle.port_state.specs.declared.signal.Signal.TheVariants as signal
use Rattle.port_state.specs.declared.states.NodeState.{NodeState}
use Rattle.port_state.specs.Sends.{PortSignal}
use Rattle.port_state.specs.Step.{silent_step}
use Rattle.port_state.specs.Entry.{enter}
use Rattle.port_state.specs.Group.{own_group}
use Rattle.self_id.specs.Group.{node_count}
use Rattle.port_state.specs.Heard.{is_resetting, hears_packets, with_level, hears, is_heard, on_signal}
use Rattle.port_state.specs.Limits.{list_limit}
use Rattle.port_state.specs.Row as row
use Rattle.port_state.specs.Row.{Row}
use Rattle.port_state.specs.Tick.{raise_timer, row_of, next_row, does, tick}
use Rattle.port_state.specs.Machine.{PortNode, beat, on_beat}
use Rattle.cable_world.specs.Turn.{hear_all, node_turn, same_list}
use Rattle.cable_world.proofs.turns.HearsWell.{hear-stays}
use Rattle.cable_world.proofs.coupling.Streams.{not-both}

-- ---- a list that grew or was emptied

abbrev Grew : List ℕ → List ℕ → Type 0
Grew xs ys = ((more : List ℕ) × (ys ≡ xs ++ more)) ⊎ (ys ≡ [])

same-length : (xs ys : List ℕ) → Grew xs ys → length xs ≡ length ys → xs ≡ ys
same-length xs ys (inl g) e =
    let none : g.0 ≡ [] = nil_from_length g.0 (omega (arith, e, ap length g.1, length-append xs g.0)) in
    sym (g.1 ∙ ap (λ more. xs ++ more) none ∙ append-nil xs)
same-length xs ys (inr g) e = nil_from_length xs (e ∙ ap length g) ∙ sym g

pub seen-by-length : (xs ys : List ℕ) → Grew xs ys →
    pointwise nat_eq xs ys ≡ (length xs == length ys)
seen-by-length xs ys g = go (pointwise nat_eq xs ys) refl (length xs == length ys) refl
  where
    go : (a : Bool) → pointwise nat_eq xs ys ≡ a → (b : Bool) → (length xs == length ys) ≡ b → pointwise nat_eq xs ys ≡ (length xs == length ys)
    go true e true f = e ∙ sym f
    go false e false f = e ∙ sym f
    go true e false f = absurd (not-both (length xs == length ys) (eq-eqb (length xs) (length ys) (ap length (same_text xs ys (sym e)))) f)
    go false e true f = absurd (other_text xs ys (sym e) (same-length xs ys g (eqb-true (length xs) (length ys) f)))

-- ---- hearing

-- in R0 the list stays
reset-list : (b : Bool) (n : ℕ) (x : NodeState) → is_resetting x.view.phase ≡ b → b ≡ true →
    (if b then silent_step (with_level n level.Reset x) else enter false (with_level n level.Reset x)).state.list.items ≡ x.list.items
reset-list true n x e h = refl
reset-list false n x e h = absurd cc

pub no-packets : (h : Phase) → is_resetting h ≡ true → hears_packets h ≡ true → ⊥
no-packets phase.ResetStart r p = absurd cc
no-packets h r p = absurd cc

hears-in_reset : (n : ℕ) (s : Signal) (x : NodeState) → is_heard n s x ≡ true →
    is_resetting x.view.phase ≡ true → (hears n s x).state.list.items ≡ x.list.items
hears-in_reset n signal.Reset x e r = reset-list (is_resetting x.view.phase) n x refl r
hears-in_reset n (signal.Packet quad) x e r = absurd (no-packets x.view.phase r (and_parts _ (hears_packets x.view.phase) e).1)
hears-in_reset n s x e r = refl

signal-in_reset : (n : ℕ) (s : Signal) (x : NodeState) → is_resetting x.view.phase ≡ true →
    (on_signal n s x).state.list.items ≡ x.list.items
unfolding on_signal
signal-in_reset n s x r = go (is_heard n s x) refl
  where
    go : (b : Bool) → is_heard n s x ≡ b → (if b then hears n s x else silent_step x).state.list.items ≡ x.list.items
    go true e = hears-in_reset n s x e r
    go false e = refl

hear-in_reset : (signals : List PortSignal) (x : NodeState) → is_resetting x.view.phase ≡ true →
    (hear_all signals x).state.list.items ≡ x.list.items
hear-in_reset [] x r = refl
hear-in_reset (s ∷ rest) x r =
    hear-in_reset rest (on_signal s.0 s.1 x).state (hear-stays (s ∷ []) x r) ∙ signal-in_reset s.0 s.1 x r

-- else it grows, or the node enters R0 and it is emptied
abbrev Hears : NodeState → NodeState → Type 0
Hears x y = ((more : List ℕ) × (y.list.items ≡ x.list.items ++ more)) ⊎ ((is_resetting y.view.phase ≡ true) × (y.list.items ≡ []))

as-before : (x y : NodeState) → y.list.items ≡ x.list.items → Hears x y
as-before x y e = inl ([], e ∙ sym (append-nil x.list.items))

reset-hears : (b : Bool) (n : ℕ) (x : NodeState) →
    Hears x (if b then silent_step (with_level n level.Reset x) else enter false (with_level n level.Reset x)).state
unfolding enter
reset-hears true n x = inl ([], sym (append-nil x.list.items))
reset-hears false n x = inr (refl, refl)

if-room : (b : Bool) (quad : ℕ) (list : List ℕ) →
    (if b then list ++ quad ∷ [] else list) ≡ list ++ (if b then quad ∷ [] else [])
if-room true quad list = refl
if-room false quad list = sym (append-nil list)

hears-hears : (n : ℕ) (s : Signal) (x : NodeState) → Hears x (hears n s x).state
hears-hears n signal.Reset x = reset-hears (is_resetting x.view.phase) n x
hears-hears n (signal.Packet quad) x =
    let room : Bool = nat_lt (length x.list.items) list_limit in
    inl ((if room then quad ∷ [] else []), if-room room quad x.list.items)
hears-hears n s x = inl ([], sym (append-nil x.list.items))

signal-hears : (n : ℕ) (s : Signal) (x : NodeState) → Hears x (on_signal n s x).state
unfolding on_signal
signal-hears n s x = go (is_heard n s x)
  where
    go : (b : Bool) → Hears x (if b then hears n s x else silent_step x).state
    go true = hears-hears n s x
    go false = as-before x x refl

hear-hears : (signals : List PortSignal) (x : NodeState) → Hears x (hear_all signals x).state
hear-hears [] x = as-before x x refl
hear-hears (s ∷ rest) x = go (signal-hears s.0 s.1 x) (hear-hears rest y)
  where
    y : NodeState
    y = (on_signal s.0 s.1 x).state

    go : Hears x y → Hears y (hear_all rest y).state → Hears x (hear_all rest y).state
    go (inl a) (inl b) = inl (a.0 ++ b.0, b.1 ∙ ap (λ l. l ++ b.0) a.1 ∙ append_assoc x.list.items a.0 b.0)
    go a (inr b) = inr b
    go (inr a) (inl b) = inr (hear-stays rest y a.0, hear-in_reset rest y a.0 ∙ a.1)

-- ---- ticking

row-grows : (coin : Bool) (r : Row) (x : NodeState) →
    (more : List ℕ) × ((does coin r x).state.list.items ≡ x.list.items ++ more)
row-grows coin row.names_itself x = (own_group x (node_count x.list.items), refl)
row-grows coin row.takes_roles x = ([], sym (append-nil x.list.items))
row-grows coin (row.takes_rival n) x = ([], sym (append-nil x.list.items))
row-grows coin (row.asks_child n) x = ([], sym (append-nil x.list.items))
row-grows coin r x = ([], sym (append-nil x.list.items))

start-list : (coin : Bool) (b : Bool) (x : NodeState) →
    (does coin (if b then row.ends_reset else row.none) x).state.list.items ≡ x.list.items
start-list coin true x = refl
start-list coin false x = refl

tick-in_reset : (coin : Bool) (x : NodeState) → is_resetting x.view.phase ≡ true →
    (tick coin x).state.list.items ≡ x.list.items
unfolding tick
tick-in_reset coin x r = go x.view.phase r
  where
    go : (h : Phase) → is_resetting h ≡ true → (does coin (row_of h (raise_timer x)) (raise_timer x)).state.list.items ≡ x.list.items
    go phase.ResetStart e = start-list coin (nat_le x.timing.hold (raise_timer x).view.timer) (raise_timer x)
    go h e = absurd cc

tick-grows : (coin : Bool) (x : NodeState) →
    (more : List ℕ) × ((tick coin x).state.list.items ≡ x.list.items ++ more)
unfolding tick
tick-grows coin x = row-grows coin (next_row x) (raise_timer x)

-- a turn that is missed leaves the list alone
beat-in_reset : (b : Option Bool) (x : NodeState) → is_resetting x.view.phase ≡ true →
    (on_beat b x).state.list.items ≡ x.list.items
beat-in_reset None x r = refl
beat-in_reset (Some coin) x r = tick-in_reset coin x r

beat-grows : (b : Option Bool) (x : NodeState) →
    (more : List ℕ) × ((on_beat b x).state.list.items ≡ x.list.items ++ more)
beat-grows None x = ([], sym (append-nil x.list.items))
beat-grows (Some coin) x = tick-grows coin x

pub turn-grows : (signals : List PortSignal) (n : PortNode) →
    Grew n.state.list.items (node_turn signals n).node.state.list.items
turn-grows signals n = go (hear-hears signals n.state)
  where
    m : NodeState
    m = (hear_all signals n.state).state

    go : Hears n.state m → Grew n.state.list.items (on_beat (beat n) m).state.list.items
    go (inl a) =
        let t = beat-grows (beat n) m in
        inl (a.0 ++ t.0, t.1 ∙ ap (λ l. l ++ t.0) a.1 ∙ append_assoc n.state.list.items a.0 t.0)
    go (inr a) = inr (beat-in_reset (beat n) m a.0 ∙ a.1)

-- whether the list changed in a turn is seen from its length
pub turn-seen :
    (signals : List PortSignal) (n : PortNode) →
    same_list n (node_turn signals n).node
    ≡ (length n.state.list.items == length (node_turn signals n).node.state.list.items)
turn-seen signals n = seen-by-length n.state.list.items (node_turn signals n).node.state.list.items (turn-grows signals n)
