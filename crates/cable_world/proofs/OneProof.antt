-- That a world is lawful has one proof at most.
use Rattle.std.proofs.Common.{◌≡◌, ℕ, zero, suc, Bool, List, [], ◌∷◌, Option, refl}
use Rattle.std.specs.Coded.{Coded, Coded-set, coded_ℕ, coded_bool, coded_option, coded_list, coded×, code_by, le_prop, ×_prop, Unit-prop}
use Rattle.cabling.specs.declared.cable.End.{End}
use Rattle.cabling.specs.Wiring.{IsCabling}
use Rattle.port_state.specs.declared.signal.Level.{Level}
use Rattle.port_state.specs.declared.signal.Level.TheVariants as level
use Rattle.port_state.specs.declared.signal.Signal.{Signal}
use Rattle.port_state.specs.declared.signal.Signal.TheVariants as signal
use Rattle.port_state.proofs.Lemmas.{valid_prop}
use Rattle.port_state.specs.Clock.{Clock, even, slow, every, TicksFor, KeepsPace}
use Rattle.port_state.specs.declared.timing.Timing.{Timing}
use Rattle.cable_world.specs.Times.{SuitsSlowly, KeepsTime}
use Rattle.cable_world.specs.Wire.{Travelling, Wire}
use Rattle.cable_world.specs.World.{CableWorld}
use Rattle.cable_world.specs.Signals.{AllAsOldAs}
use Rattle.cable_world.specs.Agreement.{Agrees}
use Rattle.cable_world.specs.Coupling.{NoneTakesBack, IsCoupled}
use Rattle.cable_world.specs.Lawful.{AgesFall, IsWellFormed, IsLawful}

same_numbers : (a b : ℕ) → IsProp (a ≡ b)
same_numbers = Coded-set coded_ℕ

same_flags : (a b : Bool) → IsProp (a ≡ b)
same_flags = Coded-set coded_bool

same_ports : (a b : Option ℕ) → IsProp (a ≡ b)
same_ports = Coded-set (coded_option coded_ℕ)

-- ---- values that are coded

level_number : Level → ℕ
level_number level.Reset = 0
level_number level.Idle = 1
level_number level.Parent = 2
level_number level.Child = 3

level_of : ℕ → Level
level_of zero = level.Reset
level_of (suc zero) = level.Idle
level_of (suc (suc zero)) = level.Parent
level_of n = level.Child

level_of-number : (l : Level) → level_of (level_number l) ≡ l
unfolding level_number level_of
level_of-number level.Reset = refl
level_of-number level.Idle = refl
level_of-number level.Parent = refl
level_of-number level.Child = refl

same_levels : (a b : Level) → IsProp (a ≡ b)
same_levels = Coded-set (code_by ℕ coded_ℕ level_number level_of level_of-number)

signal_parts : Signal → ℕ × ℕ
signal_parts signal.Reset = (0, 0)
signal_parts signal.Idle = (1, 0)
signal_parts signal.Parent = (2, 0)
signal_parts signal.Child = (3, 0)
signal_parts signal.Grant = (4, 0)
signal_parts signal.Done = (5, 0)
signal_parts (signal.Packet quad) = (6, quad)

signal_from : ℕ → ℕ → Signal
signal_from zero quad = signal.Reset
signal_from (suc zero) quad = signal.Idle
signal_from (suc (suc zero)) quad = signal.Parent
signal_from (suc (suc (suc zero))) quad = signal.Child
signal_from (suc (suc (suc (suc zero)))) quad = signal.Grant
signal_from (suc (suc (suc (suc (suc zero))))) quad = signal.Done
signal_from n quad = signal.Packet quad

signal_of : ℕ × ℕ → Signal
signal_of p = signal_from p.0 p.1

signal_of-parts : (s : Signal) → signal_of (signal_parts s) ≡ s
unfolding signal_parts signal_from signal_of
signal_of-parts signal.Reset = refl
signal_of-parts signal.Idle = refl
signal_of-parts signal.Parent = refl
signal_of-parts signal.Child = refl
signal_of-parts signal.Grant = refl
signal_of-parts signal.Done = refl
signal_of-parts (signal.Packet quad) = refl

signal_code : Coded Signal
signal_code = code_by (ℕ × ℕ) (coded× coded_ℕ coded_ℕ) signal_parts signal_of signal_of-parts

travelling_code : Coded Travelling
travelling_code =
    code_by (Signal × ℕ) (coded× signal_code coded_ℕ) (λ t. (t.signal, t.age)) (λ p. record { signal = p.0; age = p.1 }) (λ t. refl)

wire_code : Coded Wire
wire_code =
    code_by (List Travelling × ℕ) (coded× (coded_list travelling_code) coded_ℕ) (λ w. (w.signals, w.held))
    (λ p. record { signals = p.0; held = p.1 }) (λ w. refl)

same_wires : (a b : Wire) → IsProp (a ≡ b)
same_wires = Coded-set wire_code

end_code : Coded End
end_code = code_by (ℕ × ℕ) (coded× coded_ℕ coded_ℕ) (λ e. (e.node, e.port)) (λ p. record { node = p.0; port = p.1 }) (λ e. refl)

same_fars : (a b : Option End) → IsProp (a ≡ b)
same_fars = Coded-set (coded_option end_code)

-- ---- facts by recursion

ages_prop : (most : ℕ) (ts : List Travelling) → IsProp (AgesFall most ts)
ages_prop most [] = Unit-prop
ages_prop most (t ∷ ts) = ×_prop le_prop (ages_prop t.age ts)

old_prop : (least : ℕ) (ts : List Travelling) → IsProp (AllAsOldAs least ts)
old_prop least [] = Unit-prop
old_prop least (t ∷ ts) = ×_prop le_prop (old_prop least ts)

back_prop : (young : ℕ) (l : Level) (ts : List Travelling) → IsProp (NoneTakesBack young l ts)
back_prop young l [] = Unit-prop
back_prop young l (t ∷ ts) = ×_prop (hlevel same_flags) (back_prop young _ ts)

ticks_prop : (count : ℕ) (c : Clock) → IsProp (TicksFor count c)
ticks_prop count even = Unit-prop
ticks_prop count (slow k next) = le_prop
ticks_prop count (every gap k) = le_prop

pace_prop : (pace : ℕ) (c : Clock) → IsProp (KeepsPace pace c)
pace_prop pace even = Unit-prop
pace_prop pace (slow k next) = ×_prop (ticks_prop pace next) (pace_prop pace next)
pace_prop pace (every gap k) = le_prop

slowly_prop : (longest t : Timing) → IsProp (SuitsSlowly longest t)
slowly_prop longest t = hlevel le_prop

time_prop : (longest t : Timing) (c : Clock) → IsProp (KeepsTime longest t c)
time_prop longest t even = Unit-prop
time_prop longest t (slow k next) = ×_prop (pace_prop t.long (slow k next)) (slowly_prop longest t)
time_prop longest t (every gap k) = ×_prop (pace_prop t.long (every gap k)) (slowly_prop longest t)

cabling_prop : (w : CableWorld) → IsProp (IsCabling w.cabling)
cabling_prop w = hlevel (same_fars, le_prop)

formed_prop : (w : CableWorld) → IsProp (IsWellFormed w)
formed_prop w = hlevel (cabling_prop, valid_prop, same_numbers, same_flags, same_wires, ages_prop, le_prop)

agrees_prop : (w : CableWorld) → IsProp (Agrees w)
agrees_prop w = hlevel (same_levels, same_ports)

coupled_prop : (w : CableWorld) → IsProp (IsCoupled w)
coupled_prop w = hlevel (same_flags, le_prop, old_prop, back_prop)

pub lawful_prop : (w : CableWorld) → IsProp (IsLawful w)
lawful_prop w = hlevel (formed_prop, time_prop, agrees_prop, coupled_prop)
