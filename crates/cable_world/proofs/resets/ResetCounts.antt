-- A node that doesn't enter a reset counts none.
use Rattle.std.proofs.Common.{◌≡◌, ◌⊎◌, inl, inr, ℕ, ◌≤◌, Bool, true, false, List, [], ◌∷◌, Option, None, Some, if◌then◌else◌, refl, ◌∙◌, ap, arith}
use Rattle.port_state.specs.declared.signal.Level.TheVariants as level
use Rattle.port_state.specs.declared.signal.Signal.{Signal}
use Rattle.port_state.specs.declared.signal.Signal.TheVariants as signal
use Rattle.port_state.specs.declared.timing.Timing.{Timing}
use Rattle.port_state.specs.declared.states.NodeState.{NodeState}
use Rattle.port_state.specs.Step.{silent_step}
use Rattle.port_state.specs.Entry.{enter}
use Rattle.port_state.specs.Heard.{is_resetting, is_heard, with_level, hears, on_signal}
use Rattle.port_state.specs.Row as row
use Rattle.port_state.specs.Row.{Row}
use Rattle.port_state.specs.Tick.{raise_timer, next_row, does, tick}
use Rattle.port_state.specs.Machine.{on_beat}
use Rattle.cable_world.specs.Turn.{hear_all}
use Rattle.cable_world.proofs.turns.NodeFacts.{NoEntry, EntersReset, HearsWell, TicksWell}
use Rattle.cable_world.proofs.turns.HearsWell.{hear-stays}
use Rattle.cable_world.proofs.coupling.Streams.{not-both}

-- the node is in R0 afterwards only if it was before
abbrev Stays : NodeState → NodeState → Type 0
Stays x y = is_resetting x.view.phase ≡ false → is_resetting y.view.phase ≡ false

reset-counts :
    (b : Bool) (n : ℕ) (x : NodeState) → is_resetting x.view.phase ≡ b →
    (let s = if b then silent_step (with_level n level.Reset x) else enter false (with_level n level.Reset x) in Stays x s.state → s.state.view.resets ≡ x.view.resets)
unfolding enter
reset-counts true n x e h = refl
reset-counts false n x e h = absurd (not-both true refl (h e))

hears-counts :
    (n : ℕ) (s : Signal) (x : NodeState) → Stays x (hears n s x).state →
    (hears n s x).state.view.resets ≡ x.view.resets
hears-counts n signal.Reset x h = reset-counts (is_resetting x.view.phase) n x refl h
hears-counts n signal.Grant x h = refl
hears-counts n (signal.Packet quad) x h = refl
hears-counts n signal.Done x h = refl
hears-counts n s x h = refl

signal-counts :
    (n : ℕ) (s : Signal) (x : NodeState) → Stays x (on_signal n s x).state →
    (on_signal n s x).state.view.resets ≡ x.view.resets
unfolding on_signal
signal-counts n s x h = go (is_heard n s x) h
  where
    go :
        (b : Bool) → Stays x (if b then hears n s x else silent_step x).state →
        (if b then hears n s x else silent_step x).state.view.resets ≡ x.view.resets
    go true h = hears-counts n s x h
    go false h = refl

hear-counts :
    (signals : List (ℕ × Signal)) (x : NodeState) → Stays x (hear_all signals x).state →
    (hear_all signals x).state.view.resets ≡ x.view.resets
hear-counts [] x h = refl
hear-counts (s ∷ rest) x h = go (is_resetting x.view.phase) refl (is_resetting m.view.phase) refl (hear-counts rest m)
  where
    m : NodeState
    m = (on_signal s.0 s.1 x).state

    go :
        (b : Bool) → is_resetting x.view.phase ≡ b → (c : Bool) → is_resetting m.view.phase ≡ c →
        (Stays m (hear_all rest m).state → (hear_all rest m).state.view.resets ≡ m.view.resets) →
        (hear_all rest m).state.view.resets ≡ x.view.resets
    go true e c f later =
        let on : is_resetting m.view.phase ≡ true = hear-stays (s ∷ []) x e in
        later (λ g. absurd (not-both (is_resetting m.view.phase) on g)) ∙ signal-counts s.0 s.1 x (λ g. absurd (not-both (is_resetting x.view.phase) e g))
    go false e true f later = absurd (not-both (is_resetting (hear_all rest m).state.view.phase) (hear-stays rest m f) (h e))
    go false e false f later = later (λ g. h e) ∙ signal-counts s.0 s.1 x (λ g. f)

row-counts :
    (coin : Bool) (r : Row) (x : NodeState) → (does coin r x).state.view.resets ≡ x.view.resets
row-counts coin row.takes_roles x = refl
row-counts coin (row.takes_rival n) x = refl
row-counts coin (row.asks_child n) x = refl
row-counts coin r x = refl

tick-counts : (coin : Bool) (x : NodeState) → (tick coin x).state.view.resets ≡ x.view.resets
unfolding tick
tick-counts coin x = row-counts coin (next_row x) (raise_timer x)

-- the same of a node's whole turn: who enters while hearing is still in R0 after the tick
beat-counts : (b : Option Bool) (x : NodeState) → (on_beat b x).state.view.resets ≡ x.view.resets
beat-counts None x = refl
beat-counts (Some coin) x = tick-counts coin x

pub turn-counts :
    (signals : List (ℕ × Signal)) (b : Option Bool) (x : NodeState) → 2 ≤ x.timing.hold →
    x.timing.hold ≤ 65535 → HearsWell signals x → TicksWell b (hear_all signals x).state →
    (is_resetting x.view.phase ≡ false → is_resetting (on_beat b (hear_all signals x).state).state.view.phase ≡ false) →
    (on_beat b (hear_all signals x).state).state.view.resets ≡ x.view.resets
turn-counts signals b x low high h t stays = beat-counts b m ∙ hear-counts signals x (λ e. heard e h.cases)
  where
    m : NodeState
    m = (hear_all signals x).state

    heard :
        is_resetting x.view.phase ≡ false →
        NoEntry x (hear_all signals x) ⊎ EntersReset x (hear_all signals x) →
        is_resetting m.view.phase ≡ false
    heard e (inl a) = ap is_resetting a.phase ∙ e
    heard e (inr a) = absurd (not-both (is_resetting (on_beat b m).state.view.phase)
        (t.holds (ap is_resetting a.phase) (omega (arith, a.timer, ap (λ (z : Timing). z.hold) h.timing, low)) (omega (arith, ap (λ (z : Timing). z.hold) h.timing, high))).0 (stays e))
