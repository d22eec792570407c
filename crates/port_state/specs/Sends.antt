-- What goes out on a node's connected ports, in rising port order.
use Rattle.std.specs.Prelude.{ℕ, ◌+◌, Bool, true, not, ◌&&◌, ◌==◌, List, [], ◌∷◌, ◌++◌, Option, None, Some, if◌then◌else◌}
use Rattle.port_state.specs.declared.signal.Signal.{Signal}
use Rattle.port_state.specs.declared.signal.Signal.TheVariants as signal
use Rattle.port_state.specs.declared.ports.PortView.{PortView}
use Rattle.port_state.specs.Ports.{PortNumber, is_parent}

-- the number of a port, and a signal that is sent on it or heard there
abbrev pub PortSignal : Type 0
PortSignal = PortNumber × Signal

-- each connected port whose number passes the test sends its signal; the first of these ports has
-- number k
abbrev pub sends_from :
    PortNumber → (PortNumber → Bool) → (PortView → Signal) → List PortView → List PortSignal
sends_from k test sent [] = []
sends_from k test sent (p ∷ ps) =
    let more = sends_from (k + 1) test sent ps in
    if test k && p.connected then (k, sent p) ∷ more else more

-- one signal on every port
abbrev pub on_every : Signal → List PortView → List PortSignal
on_every s ports = sends_from 0 (λ k. true) (λ p. s) ports

-- one signal on every port but one
abbrev pub on_others : PortNumber → Signal → List PortView → List PortSignal
on_others port s ports = sends_from 0 (λ k. not (k == port)) (λ p. s) ports

-- Child on every port that shows Parent, and Parent on every port that doesn't
abbrev pub notices : List PortView → List PortSignal
notices ports =
    sends_from 0 (λ k. true) (λ p. if is_parent p.shown then signal.Child else signal.Parent) ports

abbrev pub packet : ℕ → Signal
packet quad = signal.Packet quad

-- each packet in turn on every port
abbrev pub packets_on_every : List ℕ → List PortView → List PortSignal
packets_on_every [] ports = []
packets_on_every (q ∷ qs) ports = on_every (signal.Packet q) ports ++ packets_on_every qs ports

-- one signal on this port, if any
abbrev pub on_port : Option PortNumber → Signal → List PortSignal
on_port None s = []
on_port (Some p) s = (p, s) ∷ []

-- what of it goes out on one port, in order
abbrev pub sent_on : PortNumber → List PortSignal → List Signal
sent_on port [] = []
sent_on port (s ∷ sends) = if s.0 == port then s.1 ∷ sent_on port sends else sent_on port sends
