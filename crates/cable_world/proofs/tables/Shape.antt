-- What is sent onto wires: it is new, and goes out on connected ports alone.
use Rattle.std.proofs.Common.{◌≡◌, ℕ, Bool, true, false, List, [], ◌∷◌, ◌++◌, map, refl, subst, arith, append-nil, ◌==◌, if◌then◌else◌}
use Rattle.std.proofs.lemmas.Bool.{eqb-true}
use Rattle.port_state.specs.declared.signal.Signal.{Signal}
use Rattle.port_state.specs.declared.ports.PortView.{PortView}
use Rattle.port_state.specs.Ports.{is_connected}
use Rattle.port_state.specs.Sends.{sent_on}
use Rattle.port_state.specs.Sound.{OnConnected}
use Rattle.cable_world.specs.Wire.{Travelling, Wire, new_signal, add_signals}
use Rattle.cable_world.specs.Lawful.{AgesFall}

-- signals of age 0 come last
pub ages-sent :
    (most : ℕ) (signals : List Travelling) (sent : List Signal) → AgesFall most signals →
    AgesFall most (signals ++ map new_signal sent)
ages-sent most [] [] h = tt
ages-sent most [] (s ∷ sent) h = (omega arith, ages-sent 0 [] sent tt)
ages-sent most (t ∷ signals) sent h = (h.0, ages-sent t.age signals sent h.1)

-- nothing sent leaves a wire as it is
pub none-sent : (w : Wire) → add_signals [] w ≡ w
none-sent w = rw (append-nil w.signals) refl

-- nothing goes out on a port without cable
pub silent :
    (ports : List PortView) (sends : List (ℕ × Signal)) (port : ℕ) → OnConnected ports sends →
    is_connected ports port ≡ false → sent_on port sends ≡ []
silent ports [] port h free = refl
silent ports (s ∷ sends) port h free = go (silent ports sends port h.1 free) (s.0 == port) refl
  where
    go :
        sent_on port sends ≡ [] → (b : Bool) → (s.0 == port) ≡ b →
        (if b then s.1 ∷ sent_on port sends else sent_on port sends) ≡ []
    go rest true e =
        let same : s.0 ≡ port = eqb-true s.0 port e in
        let on : is_connected ports port ≡ true = subst (λ (n : ℕ). is_connected ports n ≡ true) same h.0 in
        absurd cc
    go rest false e = rest
