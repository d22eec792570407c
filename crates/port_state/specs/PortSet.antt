-- Sets of ports, and what goes out on the ports of a set.
use Rattle.std.specs.Prelude.{ℕ, zero, suc, ◌+◌, Bool, ◌&&◌, ◌==◌, nat_lt, List, [], ◌∷◌, ◌++◌, if◌then◌else◌}
use Rattle.std.specs.Int.{bit_at}
use Rattle.port_state.specs.declared.outbox.Sent.{Sent}
use Rattle.port_state.specs.declared.signal.Signal.{Signal}
use Rattle.port_state.specs.Ports.{PortNumber}
use Rattle.port_state.specs.Sends.{PortSignal}

-- A set of ports is kept as a number: port k is in it where k is below 16 and bit k is 1.
abbrev pub PortSet : Type 0
PortSet = ℕ

abbrev pub has_port : PortSet → PortNumber → Bool
has_port set k = nat_lt k 16 && bit_at set k == 1

-- one signal on those of n ports, the first of which has number k, that are in the set
unfoldable pub on_ports_from : ℕ → PortNumber → PortSet → Signal → List PortSignal
on_ports_from zero k set s = []
on_ports_from (suc n) k set s =
    let more = on_ports_from n (k + 1) set s in if has_port set k then (k, s) ∷ more else more

-- one signal on each port of the set, in rising order
unfoldable pub on_ports : PortSet → Signal → List PortSignal
on_ports set s = on_ports_from 16 0 set s

-- what these entries send, the first first
abbrev pub all_sent : List Sent → List PortSignal
all_sent [] = []
all_sent (e ∷ sent) = on_ports e.ports e.signal ++ all_sent sent
