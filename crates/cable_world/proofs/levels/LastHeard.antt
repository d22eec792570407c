-- What a node hears on a port brings the level that the port shows to the last one that it heard.
use Rattle.std.proofs.Common.{◌≡◌, ℕ, Bool, true, false, ◌&&◌, ◌==◌, [], ◌∷◌, Option, Some, None, slice_get, refl, sym, ◌∙◌, ap, subst, if◌then◌else◌}
use Rattle.std.specs.Option.{option_map}
use Rattle.std.proofs.lemmas.Bool.{eqb-true}
use Rattle.port_state.specs.declared.signal.Level.{Level}
use Rattle.port_state.specs.declared.signal.Level.TheVariants as level
use Rattle.port_state.specs.declared.signal.Signal.{Signal}
use Rattle.port_state.specs.declared.signal.Signal.TheVariants as signal
use Rattle.port_state.specs.declared.ports.PortView.{PortView}
use Rattle.port_state.specs.declared.states.NodeState.{NodeState}
use Rattle.port_state.specs.Ports.{asks, is_connected}
use Rattle.port_state.specs.Step.{silent_step}
use Rattle.port_state.specs.Entry.{without_marks, enter, with_port}
use Rattle.port_state.specs.Heard as heard
use Rattle.port_state.specs.TreeIdentify.{adopt}
use Rattle.port_state.specs.Row as row
use Rattle.port_state.specs.Row.{Row}
use Rattle.port_state.specs.Tick.{raise_timer, next_row, does, tick}
use Rattle.port_state.proofs.Lemmas.{map-port, changed-port}
use Rattle.cable_world.specs.Agreement.{level_after_one, shown_or_idle, level_shown, level_after}
use Rattle.cable_world.proofs.levels.LastSent.{only, turned, as_child}

-- what the port of a number shows, if it is there
abbrev pub shown_if_there : NodeState → ℕ → Option Level
shown_if_there x k = option_map (λ (p : PortView). p.shown) (slice_get x.view.ports k)

abbrev or-idle : Option Level → Level
or-idle None = level.Idle
or-idle (Some l) = l

-- the level of a port, there or not
pub shown-same :
    (x y : NodeState) (k : ℕ) → shown_if_there x k ≡ shown_if_there y k →
    level_shown x k ≡ level_shown y k
shown-same x y k e = told (slice_get x.view.ports k) ∙ ap or-idle e ∙ sym (told (slice_get y.view.ports k))
  where
    told :
        (o : Option PortView) → shown_or_idle o ≡ or-idle (option_map (λ (p : PortView). p.shown) o)
    told None = refl
    told (Some p) = refl

same-map : {A : Type 0} → (f : A → A) → ((a : A) → f a ≡ a) → (o : Option A) → o ≡ option_map f o
same-map f h None = refl
same-map f h (Some a) = ap Some (sym (h a))

-- ---- ticks

map-shows :
    (f : PortView → PortView) → ((p : PortView) → (f p).shown ≡ p.shown) → (o : Option PortView) →
    option_map (λ (p : PortView). p.shown) (option_map f o)
    ≡ option_map (λ (p : PortView). p.shown) o
map-shows f h None = refl
map-shows f h (Some p) = ap Some (h p)

same-shows :
    (n : ℕ) (f : PortView → PortView) → ((p : PortView) → (f p).shown ≡ p.shown) →
    (x : NodeState) (k : ℕ) → shown_if_there (with_port n f x) k ≡ shown_if_there x k
same-shows n f h x k = ap (option_map (λ (p : PortView). p.shown)) (changed-port n k f x.view.ports) ∙ go (k == n)
  where
    go :
        (b : Bool) →
        option_map (λ (p : PortView). p.shown) (if b then option_map f (slice_get x.view.ports k) else slice_get x.view.ports k)
        ≡ shown_if_there x k
    go true = map-shows f h (slice_get x.view.ports k)
    go false = refl

adopt-shows : (p : PortView) → (adopt p).shown ≡ p.shown
adopt-shows p = go (asks p)
  where
    go : (b : Bool) → (if b then record p { child = true } else p).shown ≡ p.shown
    go true = refl
    go false = refl

row-shows :
    (coin : Bool) (r : Row) (x : NodeState) (k : ℕ) →
    shown_if_there (does coin r x).state k ≡ shown_if_there x k
row-shows coin row.takes_roles x k = ap (option_map (λ (p : PortView). p.shown)) (map-port k adopt x.view.ports) ∙ map-shows adopt adopt-shows (slice_get x.view.ports k)
row-shows coin (row.takes_rival n) x k = same-shows n as_child (λ p. refl) x k
row-shows coin (row.asks_child n) x k = same-shows n (λ p. record p { asked = true }) (λ p. refl) x k
row-shows coin r x k = refl

pub tick-shows :
    (coin : Bool) (x : NodeState) (k : ℕ) →
    shown_if_there (tick coin x).state k ≡ shown_if_there x k
unfolding tick
tick-shows coin x k = row-shows coin (next_row x) (raise_timer x) k

-- ---- resets and signals

pub enter-shows :
    (caused : Bool) (x : NodeState) (k : ℕ) →
    shown_if_there (enter caused x).state k ≡ shown_if_there x k
unfolding enter
enter-shows caused x k = ap (option_map (λ (p : PortView). p.shown)) (map-port k without_marks x.view.ports) ∙ map-shows without_marks (λ p. refl) (slice_get x.view.ports k)

-- a level that a port shows from now on
level-shows :
    (n : ℕ) (s : Signal) (l : Level) → ((old : Level) → level_after_one s old ≡ l) →
    (x : NodeState) (k : ℕ) →
    shown_if_there (heard.with_level n l x) k
    ≡ option_map (λ m. level_after m (only (n == k) s)) (shown_if_there x k)
level-shows n s l h x k =
    ap (option_map (λ (p : PortView). p.shown)) (changed-port n k (λ p. record p { shown = l }) x.view.ports)
    ∙ (rw (turned n k) (go (n == k) (slice_get x.view.ports k)))
  where
    go :
        (b : Bool) (o : Option PortView) →
        option_map (λ (p : PortView). p.shown) (if b then option_map (λ (p : PortView). record p { shown = l }) o else o)
        ≡ option_map (λ m. level_after m (only b s)) (option_map (λ (p : PortView). p.shown) o)
    go true None = refl
    go true (Some p) = ap Some (sym (h p.shown))
    go false None = refl
    go false (Some p) = refl

-- a signal that is no level
other-shows :
    (b : Bool) (s : Signal) → ((old : Level) → level_after_one s old ≡ old) → (o : Option Level) →
    o ≡ option_map (λ m. level_after m (only b s)) o
other-shows true s h o = same-map (λ m. level_after m (s ∷ [])) h o
other-shows false s h o = same-map (λ m. level_after m []) (λ m. refl) o

reset-shows :
    (b : Bool) (n : ℕ) (x : NodeState) (k : ℕ) →
    shown_if_there (if b then silent_step (heard.with_level n level.Reset x) else enter false (heard.with_level n level.Reset x)).state k
    ≡ option_map (λ m. level_after m (only (n == k) signal.Reset)) (shown_if_there x k)
reset-shows true n x k = level-shows n signal.Reset level.Reset (λ old. refl) x k
reset-shows false n x k = enter-shows false (heard.with_level n level.Reset x) k ∙ level-shows n signal.Reset level.Reset (λ old. refl) x k

hears-shows :
    (n : ℕ) (s : Signal) (x : NodeState) (k : ℕ) →
    shown_if_there (heard.hears n s x).state k
    ≡ option_map (λ m. level_after m (only (n == k) s)) (shown_if_there x k)
hears-shows n signal.Reset x k = reset-shows (heard.is_resetting x.view.phase) n x k
hears-shows n signal.Idle x k = level-shows n signal.Idle level.Idle (λ old. refl) x k
hears-shows n signal.Parent x k = level-shows n signal.Parent level.Parent (λ old. refl) x k
hears-shows n signal.Child x k = level-shows n signal.Child level.Child (λ old. refl) x k
hears-shows n signal.Grant x k = other-shows (n == k) signal.Grant (λ old. refl) (shown_if_there x k)
hears-shows n (signal.Packet quad) x k = other-shows (n == k) (signal.Packet quad) (λ old. refl) (shown_if_there x k)
hears-shows n signal.Done x k = same-shows n (λ p. record p { named = true }) (λ p. refl) x k ∙ other-shows (n == k) signal.Done (λ old. refl) (shown_if_there x k)

-- a signal that isn't heard on this port, which has a cable, is no level
unheard-shows :
    (n : ℕ) (s : Signal) (x : NodeState) (b : Bool) → (b && heard.has_effect n s x) ≡ false →
    (o : Option Level) (at : Bool) → (at ≡ true → b ≡ true) →
    o ≡ option_map (λ m. level_after m (only at s)) o
unheard-shows n s x b h o false c = same-map (λ m. level_after m []) (λ m. refl) o
unheard-shows n s x false h o true c = let no : false ≡ true = c refl in absurd cc
unheard-shows n signal.Grant x true h o true c = other-shows true signal.Grant (λ old. refl) o
unheard-shows n (signal.Packet quad) x true h o true c = other-shows true (signal.Packet quad) (λ old. refl) o
unheard-shows n signal.Done x true h o true c = other-shows true signal.Done (λ old. refl) o
unheard-shows n s x true h o true c = absurd cc

pub signal-shows :
    (n : ℕ) (s : Signal) (x : NodeState) (k : ℕ) → is_connected x.view.ports k ≡ true →
    shown_if_there (heard.on_signal n s x).state k
    ≡ option_map (λ m. level_after m (only (n == k) s)) (shown_if_there x k)
unfolding heard.on_signal
signal-shows n s x k c = go (heard.is_heard n s x) refl
  where
    go :
        (b : Bool) → heard.is_heard n s x ≡ b →
        shown_if_there (if b then heard.hears n s x else silent_step x).state k
        ≡ option_map (λ m. level_after m (only (n == k) s)) (shown_if_there x k)
    go true e = hears-shows n s x k
    go false e = unheard-shows n s x (is_connected x.view.ports n) e (shown_if_there x k) (n == k) (λ at. subst (λ m. is_connected x.view.ports m ≡ true) (sym (eqb-true n k at)) c)
