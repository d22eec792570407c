-- Tests on signals and levels, and on the signals under way on a wire.
use Rattle.std.specs.Prelude.{ℕ, ◌≤◌, Bool, true, false, not, ◌&&◌, ◌||◌, List, [], ◌∷◌, map}
use Rattle.port_state.specs.declared.signal.Level.{Level}
use Rattle.port_state.specs.declared.signal.Level.TheVariants as level
use Rattle.port_state.specs.declared.signal.Signal.{Signal}
use Rattle.port_state.specs.declared.signal.Signal.TheVariants as signal
use Rattle.cable_world.specs.Wire.{Travelling}

-- the signals under way, without their ages
abbrev pub signals_of : List Travelling → List Signal
signals_of ts = map (λ (t : Travelling). t.signal) ts

-- each is at least so old
abbrev pub AllAsOldAs : ℕ → List Travelling → Type 0
AllAsOldAs least [] = Unit {0}
AllAsOldAs least (t ∷ ts) = (least ≤ t.age) × AllAsOldAs least ts

-- ---- Reset

abbrev pub is_reset : Signal → Bool
is_reset signal.Reset = true
is_reset s = false

abbrev pub has_reset : List Signal → Bool
has_reset [] = false
has_reset (s ∷ ss) = is_reset s || has_reset ss

-- ---- Parent and Child, the two notices

abbrev pub shows_no_notice : Level → Bool
shows_no_notice level.Reset = true
shows_no_notice level.Idle = true
shows_no_notice l = false

abbrev pub is_no_notice : Signal → Bool
is_no_notice signal.Parent = false
is_no_notice signal.Child = false
is_no_notice s = true

abbrev pub has_no_notice : List Signal → Bool
has_no_notice [] = true
has_no_notice (s ∷ ss) = is_no_notice s && has_no_notice ss

abbrev pub is_parent_signal : Signal → Bool
is_parent_signal signal.Parent = true
is_parent_signal s = false

abbrev pub has_no_parent_signal : List Signal → Bool
has_no_parent_signal [] = true
has_no_parent_signal (s ∷ ss) = not (is_parent_signal s) && has_no_parent_signal ss

-- Idle and Child take a Parent back
abbrev pub takes_back : Signal → Bool
takes_back signal.Idle = true
takes_back signal.Child = true
takes_back s = false

abbrev pub has_no_takeback : List Signal → Bool
has_no_takeback [] = true
has_no_takeback (s ∷ ss) = not (takes_back s) && has_no_takeback ss
