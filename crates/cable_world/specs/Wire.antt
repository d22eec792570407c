-- A wire: one direction of a cable, with the signals that are under way on it.
use Rattle.std.specs.Prelude.{ℕ, ◌+◌, ◌-◌, Bool, false, ◌||◌, ◌==◌, List, [], ◌∷◌, ◌++◌, map, nat_le, if◌then◌else◌}
use Rattle.port_state.specs.declared.signal.Signal.{Signal}
-- a signal under way, and for how many turns it has been
pub use Rattle.cable_world.specs.declared.wire.Travelling.{Travelling}

-- the signals under way, the oldest first, and for how many turns to come the wire is held
pub record Wire : Type 0 where
  pub signals : List Travelling
  pub held : ℕ

-- nothing is under way, and the wire isn't held
abbrev pub empty_wire : Wire
empty_wire = record { signals = []; held = 0 }

abbrev pub new_signal : Signal → Travelling
new_signal s = record { signal = s; age = 0 }

-- the wire after these signals were sent on it, the first first
abbrev pub add_signals : List Signal → Wire → Wire
add_signals sent w = record w { signals = w.signals ++ map new_signal sent }

abbrev pub age_signal : Travelling → Travelling
age_signal t = record t { age = t.age + 1 }

-- every signal is one turn older
abbrev pub age_wire : Wire → Wire
age_wire w = record w { signals = map age_signal w.signals }

-- the oldest signal has been under way for d turns
abbrev pub front_is_due : ℕ → List Travelling → Bool
front_is_due d [] = false
front_is_due d (t ∷ ts) = nat_le d t.age

-- a wire gives all its signals, unless it is held; when the oldest is due it gives them all the
-- same
abbrev pub gives : ℕ → Wire → Bool
gives d w = (w.held == 0) || front_is_due d w.signals

-- What a wire does in a turn: which signals arrive at its far end, and the wire that stays.
pub record WireTurn : Type 0 where
  pub arrives : List Signal
  pub stays : Wire

-- The signals age first, and then the wire may give them. A hold has one turn less to go.
abbrev pub wire_turn : ℕ → Wire → WireTurn
wire_turn d wire =
    let w = age_wire wire in
    record {
      arrives = if gives d w then map (λ t. t.signal) w.signals else [];
      stays = record { signals = if gives d w then [] else w.signals; held = w.held - 1 };
    }

-- its two parts
abbrev pub arrives : ℕ → Wire → List Signal
arrives d w = (wire_turn d w).arrives

abbrev pub stays : ℕ → Wire → Wire
stays d w = (wire_turn d w).stays
