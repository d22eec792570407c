-- What each call leaves as it was: all but what it names.
use Rattle.std.proofs.Common.{◌≡◌, ℕ, zero, suc, Bool, true, false, List, [], ◌∷◌, ◌++◌, map, Option, Some, None, slice_get, slice_set, refl, sym, ◌∙◌, ap, if◌then◌else◌}
use Rattle.std.proofs.lemmas.Option.{slice_get-map}
use Rattle.port_state.specs.declared.signal.Level.{Level}
use Rattle.port_state.specs.declared.signal.Level.TheVariants as level
use Rattle.port_state.specs.declared.signal.Signal.{Signal}
use Rattle.port_state.specs.declared.signal.Signal.TheVariants as signal
use Rattle.port_state.specs.declared.ports.PortView.{PortView}
use Rattle.port_state.specs.declared.states.NodeState.{NodeState}
use Rattle.port_state.specs.Ports.{asks, change_port, change_port_at}
use Rattle.port_state.specs.Step.{silent_step}
use Rattle.port_state.specs.Entry.{without_marks, view_at_entry, enter, with_port}
use Rattle.port_state.specs.Config.{config_packet, set_config}
use Rattle.port_state.specs.Heard.{is_resetting, is_heard, with_level, hears, on_signal}
use Rattle.port_state.specs.Row as row
use Rattle.port_state.specs.Row.{Row}
use Rattle.port_state.specs.TreeIdentify.{adopt}
use Rattle.port_state.specs.Tick.{raise_timer, does, next_row, tick}
use Rattle.port_state.specs.Names as name
use Rattle.port_state.specs.Names.{Part, without, without_child, KeepsBut, reset_names, plug_names, heard_names, signal_names, tick_names, config_names}
use Rattle.port_state.specs.Stays.{TickLeavesTheRest, SignalLeavesTheRest, EntryLeavesTheRest, PlugLeavesTheRest, PullLeavesTheRest, ConfigLeavesTheRest}

-- ---- ports

-- a change that another one covers
map-over :
    (f g : PortView → PortView) → ((p : PortView) → g (f p) ≡ g p) → (ports : List PortView) →
    map g (map f ports) ≡ map g ports
map-over f g h [] = refl
map-over f g h (p ∷ ps) = rw (h p, map-over f g h ps) refl

set-over :
    (n : ℕ) (q r s : PortView) → (ports : List PortView) → slice_get ports n ≡ Some q →
    slice_set (slice_set ports n r) n s ≡ slice_set ports n s
set-over n q r s [] e = refl
set-over zero q r s (p ∷ ps) e = refl
set-over (suc n) q r s (p ∷ ps) e = rw (set-over n q r s ps e) refl

get-set :
    (n : ℕ) (q r : PortView) (ports : List PortView) → slice_get ports n ≡ Some q →
    slice_get (slice_set ports n r) n ≡ Some r
get-set n q r [] e = absurd cc
get-set zero q r (p ∷ ps) e = refl
get-set (suc n) q r (p ∷ ps) e = get-set n q r ps e

changed-over :
    (n : ℕ) (f g : PortView → PortView) → ((p : PortView) → g (f p) ≡ g p) →
    (ports : List PortView) → change_port n g (change_port n f ports) ≡ change_port n g ports
changed-over n f g h ports = go (slice_get ports n) refl
  where
    go :
        (o : Option PortView) → slice_get ports n ≡ o →
        change_port n g (change_port_at o n f ports) ≡ change_port_at o n g ports
    go None e = rw e refl
    go (Some q) e = rw (get-set n q (f q) ports e) (rw (set-over n q (f q) (g (f q)) ports e, h q) refl)

-- a change of all ports and one of a port, in either order
set-map :
    (n : ℕ) (r : PortView) (f : PortView → PortView) (ports : List PortView) →
    map f (slice_set ports n r) ≡ slice_set (map f ports) n (f r)
set-map n r f [] = refl
set-map zero r f (p ∷ ps) = refl
set-map (suc n) r f (p ∷ ps) = rw (set-map n r f ps) refl

map-changed :
    (n : ℕ) (f g : PortView → PortView) → ((p : PortView) → f (g p) ≡ g (f p)) →
    (ports : List PortView) → map f (change_port n g ports) ≡ change_port n g (map f ports)
map-changed n f g h ports = go (slice_get ports n) refl
  where
    go :
        (o : Option PortView) → slice_get ports n ≡ o →
        map f (change_port_at o n g ports) ≡ change_port n g (map f ports)
    go None e = rw (slice_get-map f ports n, e) refl
    go (Some q) e = rw (slice_get-map f ports n, e) (rw (set-map n (g q) f ports, h q) refl)

-- ---- ticks

adopt-child : (p : PortView) → without_child (adopt p) ≡ without_child p
adopt-child p = go (asks p)
  where
    go : (b : Bool) → without_child (if b then record p { child = true } else p) ≡ without_child p
    go true = refl
    go false = refl

row-keeps :
    (coin : Bool) (r : Row) (x : NodeState) →
    KeepsBut (tick_names r) x (does coin r (raise_timer x)).state
row-keeps coin row.none x = refl
row-keeps coin row.ends_reset x = refl
row-keeps coin row.begins_tree x = refl
row-keeps coin row.takes_roles x = rw (map-over adopt without_child adopt-child x.view.ports) refl
row-keeps coin row.times_out x = refl
row-keeps coin row.awaits_parent x = refl
row-keeps coin row.becomes_root x = refl
row-keeps coin (row.finds_parent port) x = refl
row-keeps coin (row.begins_contention port) x = refl
row-keeps coin (row.takes_rival port) x = rw (changed-over port (λ p. record p { child = true }) without_child (λ p. refl) x.view.ports) refl
row-keeps coin (row.asks_again port) x = refl
row-keeps coin (row.asks_child port) x = rw (changed-over port (λ p. record p { asked = true }) (λ p. record p { asked = false }) (λ p. refl) x.view.ports) refl
row-keeps coin row.names_itself x = refl

pub tick-keeps : TickLeavesTheRest
unfolding tick
tick-keeps coin x = row-keeps coin (next_row x) x

-- ---- resets

-- the marks that a reset takes away, and what else is changed of one port
reset-marks :
    (n : ℕ) (f g : PortView → PortView) →
    ((p : PortView) → without_marks (f p) ≡ f (without_marks p)) →
    ((p : PortView) → g (f p) ≡ g p) → (ports : List PortView) →
    change_port n g (map without_marks (map without_marks (change_port n f ports)))
    ≡ change_port n g (map without_marks ports)
reset-marks n f g h k ports =
    ap (change_port n g) (map-over without_marks without_marks (λ p. refl) (change_port n f ports) ∙ map-changed n without_marks f h ports)
    ∙ changed-over n f g k (map without_marks ports)

-- the node behind an entry, whether it resets its gap count or not
abbrev entered : Bool → Bool → NodeState → NodeState
entered caused b x =
    record x { view = view_at_entry caused b x.view; list = record { items = [] } }

pub enter-keeps : EntryLeavesTheRest
unfolding enter
enter-keeps caused x = go x.resets_gap
  where
    go : (b : Bool) → KeepsBut (reset_names b) x (entered caused b x)
    go true = rw (map-over without_marks without_marks (λ p. refl) x.view.ports) refl
    go false = rw (map-over without_marks without_marks (λ p. refl) x.view.ports) refl

-- an entry behind a change of one port, where another change covers it
entered-keeps :
    (caused b : Bool) (n : ℕ) (f g : PortView → PortView) (part : Part) →
    ((x : NodeState) → without part x ≡ with_port n g x) →
    ((p : PortView) → without_marks (f p) ≡ f (without_marks p)) →
    ((p : PortView) → g (f p) ≡ g p) → (x : NodeState) →
    KeepsBut (reset_names b ++ part ∷ []) x (entered caused b (with_port n f x))
entered-keeps caused true n f g part is h k x = is _ ∙ rw (reset-marks n f g h k x.view.ports) refl ∙ sym (is _)
entered-keeps caused false n f g part is h k x = is _ ∙ rw (reset-marks n f g h k x.view.ports) refl ∙ sym (is _)

pub plugged-keeps : PlugLeavesTheRest
unfolding enter
plugged-keeps n x =
    entered-keeps true x.resets_gap n (λ p. record p { connected = true; shown = level.Reset })
    (λ p. record p { connected = false; shown = level.Idle }) (name.line n) (λ y. refl) (λ p. refl) (λ p. refl) x

pub pulled-keeps : PullLeavesTheRest
unfolding enter
pulled-keeps n x =
    entered-keeps true x.resets_gap n (λ p. record p { connected = false; shown = level.Idle })
    (λ p. record p { connected = false; shown = level.Idle }) (name.line n) (λ y. refl) (λ p. refl) (λ p. refl) x

-- ---- signals

level-keeps :
    (n : ℕ) (l : Level) (x : NodeState) → KeepsBut (name.level n ∷ []) x (with_level n l x)
level-keeps n l x = rw (changed-over n (λ p. record p { shown = l }) (λ p. record p { shown = level.Idle }) (λ p. refl) x.view.ports) refl

reset-keeps :
    (b : Bool) (n : ℕ) (x : NodeState) →
    KeepsBut (if b then name.level n ∷ [] else reset_names x.resets_gap ++ name.level n ∷ []) x (if b then silent_step (with_level n level.Reset x) else enter false (with_level n level.Reset x)).state
unfolding enter
reset-keeps true n x = level-keeps n level.Reset x
reset-keeps false n x =
    entered-keeps false x.resets_gap n (λ p. record p { shown = level.Reset })
    (λ p. record p { shown = level.Idle }) (name.level n) (λ y. refl) (λ p. refl) (λ p. refl) x

hears-keeps :
    (n : ℕ) (s : Signal) (x : NodeState) →
    KeepsBut (heard_names x.resets_gap n s x.view.phase) x (hears n s x).state
hears-keeps n signal.Reset x = reset-keeps (is_resetting x.view.phase) n x
hears-keeps n signal.Idle x = level-keeps n level.Idle x
hears-keeps n signal.Parent x = level-keeps n level.Parent x
hears-keeps n signal.Child x = level-keeps n level.Child x
hears-keeps n signal.Grant x = refl
hears-keeps n (signal.Packet quad) x = refl
hears-keeps n signal.Done x = rw (changed-over n (λ p. record p { named = true }) (λ p. record p { named = false }) (λ p. refl) x.view.ports) refl

heard-keeps :
    (b : Bool) (n : ℕ) (s : Signal) (x : NodeState) →
    KeepsBut (if b then heard_names x.resets_gap n s x.view.phase else []) x (if b then hears n s x else silent_step x).state
heard-keeps true n s x = hears-keeps n s x
heard-keeps false n s x = refl

pub signal-keeps : SignalLeavesTheRest
unfolding on_signal
signal-keeps n s x = heard-keeps (is_heard n s x) n s x

-- ---- configuration packets

pub config-keeps : ConfigLeavesTheRest
config-keeps packet x = go packet.root_id packet.force packet.gap
  where
    go :
        (root_id : ℕ) (force : Bool) (gap : Option ℕ) →
        KeepsBut (config_names (config_packet root_id force gap)) x (set_config (config_packet root_id force gap) x)
    go root_id true None = refl
    go root_id true (Some g) = refl
    go root_id false None = refl
    go root_id false (Some g) = refl
