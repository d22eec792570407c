-- Which ports are connected, after each step.
use Rattle.std.proofs.Common.{◌≡◌, ℕ, zero, suc, ◌<◌, Bool, true, false, ◌==◌, List, [], ◌∷◌, ◌++◌, length, Some, slice_get, refl, sym, ◌∙◌, ap, arith, if◌then◌else◌}
use Rattle.std.specs.List.{list_all}
use Rattle.std.specs.Option.{option_map}
use Rattle.std.proofs.lemmas.Bool.{and_parts, eqb-true}
use Rattle.port_state.specs.declared.signal.Level.TheVariants as level
use Rattle.port_state.specs.declared.signal.Phase.{Phase}
use Rattle.port_state.specs.declared.signal.Signal.{Signal}
use Rattle.port_state.specs.declared.signal.Signal.TheVariants as signal
use Rattle.port_state.specs.declared.ports.PortView.{PortView}
use Rattle.port_state.specs.declared.states.NodeState.{NodeState}
use Rattle.port_state.specs.Ports.{passes, is_connected}
use Rattle.port_state.specs.Entry.{enter, with_port, without_marks}
use Rattle.port_state.specs.Heard.{is_resetting, is_heard, on_signal}
use Rattle.port_state.specs.Row as row
use Rattle.port_state.specs.Row.{Row}
use Rattle.port_state.specs.Tick.{next_row, tick}
use Rattle.port_state.specs.Names as name
use Rattle.port_state.specs.Names.{Part, without_child, without, without_all, KeepsBut, reset_names, heard_names, signal_names, tick_names}
use Rattle.port_state.specs.ByPort.{TickKeepsCables, SignalKeepsCables, EntryKeepsCables, PlugConnects, PullDisconnects}
use Rattle.port_state.proofs.EachPort.{port_is-map, port_is-changed}
use Rattle.port_state.proofs.Pointwise.{changed-port}
use Rattle.port_state.proofs.Stays.{tick-keeps, signal-keeps, enter-keeps}

-- ---- what names no cable leaves the cables

abbrev leaves_cables : Part → Bool
leaves_cables (name.line port) = false
leaves_cables part = true

same-port :
    (n : ℕ) (f : PortView → PortView) → ((p : PortView) → (f p).connected ≡ p.connected) →
    (x : NodeState) (k : ℕ) →
    is_connected (with_port n f x).view.ports k ≡ is_connected x.view.ports k
same-port n f h x k = port_is-changed (λ p. p.connected) n f h x.view.ports k

part-kept :
    (part : Part) → leaves_cables part ≡ true → (x : NodeState) (k : ℕ) →
    is_connected (without part x).view.ports k ≡ is_connected x.view.ports k
part-kept name.children h x k = port_is-map (λ p. p.connected) without_child (λ p. refl) x.view.ports k
part-kept name.marks h x k = port_is-map (λ p. p.connected) without_marks (λ p. refl) x.view.ports k
part-kept (name.line n) h x k = absurd cc
part-kept (name.level n) h x k = same-port n (λ p. record p { shown = level.Idle }) (λ p. refl) x k
part-kept (name.child n) h x k = same-port n without_child (λ p. refl) x k
part-kept (name.asked n) h x k = same-port n (λ p. record p { asked = false }) (λ p. refl) x k
part-kept (name.named n) h x k = same-port n (λ p. record p { named = false }) (λ p. refl) x k
part-kept part h x k = refl

parts-kept :
    (parts : List Part) → list_all leaves_cables parts ≡ true → (x : NodeState) (k : ℕ) →
    is_connected (without_all parts x).view.ports k ≡ is_connected x.view.ports k
parts-kept [] h x k = refl
parts-kept (p ∷ parts) h x k = let both = and_parts _ _ h in parts-kept parts both.1 (without p x) k ∙ part-kept p both.0 x k

cables-kept :
    (parts : List Part) (x y : NodeState) → list_all leaves_cables parts ≡ true →
    KeepsBut parts x y → (k : ℕ) → is_connected y.view.ports k ≡ is_connected x.view.ports k
cables-kept parts x y h keeps k = sym (parts-kept parts h y k) ∙ ap (λ (z : NodeState). is_connected z.view.ports k) keeps ∙ parts-kept parts h x k

-- ---- ticks, signals and resets

row-leaves : (r : Row) → list_all leaves_cables (tick_names r) ≡ true
row-leaves row.none = refl
row-leaves row.takes_roles = refl
row-leaves (row.finds_parent n) = refl
row-leaves (row.begins_contention n) = refl
row-leaves (row.takes_rival n) = refl
row-leaves (row.asks_again n) = refl
row-leaves (row.asks_child n) = refl
row-leaves r = refl

pub tick-cables : TickKeepsCables
tick-cables coin x k = cables-kept (tick_names (next_row x)) x (tick coin x).state (row-leaves (next_row x)) (tick-keeps coin x) k

heard-leaves :
    (g : Bool) (n : ℕ) (s : Signal) (ph : Phase) →
    list_all leaves_cables (heard_names g n s ph) ≡ true
heard-leaves g n signal.Reset ph = go g (is_resetting ph)
  where
    go :
        (g b : Bool) →
        list_all leaves_cables (if b then name.level n ∷ [] else reset_names g ++ name.level n ∷ [])
        ≡ true
    go g true = refl
    go true false = refl
    go false false = refl
heard-leaves g n signal.Grant ph = refl
heard-leaves g n (signal.Packet quad) ph = refl
heard-leaves g n signal.Done ph = refl
heard-leaves g n s ph = refl

signal-leaves :
    (b g : Bool) (n : ℕ) (s : Signal) (ph : Phase) →
    list_all leaves_cables (if b then heard_names g n s ph else []) ≡ true
signal-leaves true g n s ph = heard-leaves g n s ph
signal-leaves false g n s ph = refl

reset-leaves : (g : Bool) → list_all leaves_cables (reset_names g) ≡ true
reset-leaves true = refl
reset-leaves false = refl

pub signal-cables : SignalKeepsCables
signal-cables n s x k = cables-kept (signal_names n s x) x (on_signal n s x).state (signal-leaves (is_heard n s x) x.resets_gap n s x.view.phase) (signal-keeps n s x) k

pub enter-cables : EntryKeepsCables
enter-cables caused x k = cables-kept (reset_names x.resets_gap) x (enter caused x).state (reset-leaves x.resets_gap) (enter-keeps caused x) k

-- ---- plugging and pulling

there :
    (ports : List PortView) (n : ℕ) → n < length ports →
    (p : PortView) × (slice_get ports n ≡ Some p)
there [] n h = absurd (omega (arith, h))
there (p ∷ ps) zero h = (p, refl)
there (p ∷ ps) (suc n) h = there ps n (omega (arith, h))

-- the port of one number has a cable, or none, and the others are as before
one-cable :
    (n k : ℕ) (f : PortView → PortView) (c : Bool) → ((p : PortView) → (f p).connected ≡ c) →
    (x : NodeState) → n < length x.view.ports →
    is_connected (with_port n f x).view.ports k
    ≡ (if k == n then c else is_connected x.view.ports k)
one-cable n k f c h x less = ap (passes (λ p. p.connected)) (changed-port n k f x.view.ports) ∙ go (k == n) refl
  where
    go :
        (b : Bool) → (k == n) ≡ b →
        passes (λ p. p.connected) (if b then option_map f (slice_get x.view.ports k) else slice_get x.view.ports k)
        ≡ (if b then c else is_connected x.view.ports k)
    go true e =
        let i : k ≡ n = eqb-true k n e in
        let t = there x.view.ports n less in
        let is : slice_get x.view.ports k ≡ Some t.0 = ap (slice_get x.view.ports) i ∙ t.1 in
        rw is (h t.0)
    go false e = refl

pub plugged-cables : PlugConnects
plugged-cables n k x less =
    let f : PortView → PortView = λ p. record p { connected = true; shown = level.Reset } in
    enter-cables true (with_port n f x) k ∙ one-cable n k f true (λ p. refl) x less

pub pulled-cables : PullDisconnects
pulled-cables n k x less =
    let f : PortView → PortView = λ p. record p { connected = false; shown = level.Idle } in
    enter-cables true (with_port n f x) k ∙ one-cable n k f false (λ p. refl) x less
