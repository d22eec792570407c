-- What is under way on the wires of a node, kept as entries: a signal that was sent on some ports at once is one entry.
use Rattle.std.specs.Prelude.{ℕ, zero, suc, ◌+◌, Bool, not, min, List, [], ◌∷◌, map, if◌then◌else◌}
use Rattle.port_state.specs.declared.signal.Signal.{Signal}
use Rattle.port_state.specs.Ports.{PortNumber}
use Rattle.port_state.specs.PortSet.{has_port}
use Rattle.cable_world.specs.declared.wire.UnderWay.{UnderWay}
use Rattle.cable_world.specs.Wire.{Travelling, Wire, age_wire, gives}

-- ---- what is under way on the wire of one port

-- the oldest first
abbrev pub on_port : PortNumber → List UnderWay → List Travelling
on_port p [] = []
on_port p (e ∷ sent) =
    if has_port e.ports p then record { signal = e.signal; age = e.age } ∷ on_port p sent else on_port p sent

abbrev pub signals_on : PortNumber → List UnderWay → List Signal
signals_on p sent = map (λ (t : Travelling). t.signal) (on_port p sent)

-- a turn older, as far as ages are kept
abbrev pub older : Travelling → Travelling
older t = record t { age = min (t.age + 1) 255 }

-- the wire of a port that is held for so many turns
abbrev pub wire_at : PortNumber → List UnderWay → ℕ → Wire
wire_at p sent held = record { signals = on_port p sent; held = held }

-- it keeps what is under way in this turn
abbrev pub keeps : ℕ → PortNumber → List UnderWay → ℕ → Bool
keeps d p sent held = not (gives d (age_wire (wire_at p sent held)))

-- ---- rows

-- the wires of the ports from number p on, where each is held for so many turns
abbrev pub wires_from : PortNumber → List UnderWay → List ℕ → List Wire
wires_from p sent [] = []
wires_from p sent (h ∷ held) = wire_at p sent h ∷ wires_from (p + 1) sent held

-- what arrives from the wires of so many ports from number p on
abbrev pub arrivals_from : ℕ → PortNumber → List UnderWay → List (List Signal)
arrivals_from zero p sent = []
arrivals_from (suc n) p sent = signals_on p sent ∷ arrivals_from n (p + 1) sent
