-- What is sent goes onto a node's wires.
use Rattle.std.proofs.Common.{◌≡◌, ℕ, ◌+◌, List, [], ◌∷◌, ◌++◌, map, refl, sym, ◌∙◌, ap, append_assoc}
use Rattle.std.proofs.lemmas.List.{map-append}
use Rattle.port_state.specs.declared.signal.Signal.{Signal}
use Rattle.port_state.specs.Sends.{PortSignal, sent_on}
use Rattle.port_state.proofs.Lemmas.{sent_on-append}
use Rattle.cable_world.specs.Wire.{Wire, new_signal, add_signals}
use Rattle.cable_world.specs.Turn.{wires_after_sends}
use Rattle.cable_world.proofs.tables.Shape.{none-sent}

pub no-sends : (p : ℕ) (wires : List Wire) → wires_after_sends p [] wires ≡ wires
no-sends p [] = refl
no-sends p (w ∷ wires) = ap (λ v. v ∷ wires_after_sends (p + 1) [] wires) (none-sent w) ∙ ap (λ vs. w ∷ vs) (no-sends (p + 1) wires)

signals-then : (first second : List Signal) (w : Wire) →
    add_signals (first ++ second) w ≡ add_signals second (add_signals first w)
signals-then first second w =
    ap (λ ts. record w { signals = ts })
    (ap (λ ts. w.signals ++ ts) (map-append new_signal first second) ∙ sym (append_assoc w.signals (map new_signal first) (map new_signal second)))

-- sends, and then others
pub sends-then :
    (p : ℕ) (first second : List PortSignal) (wires : List Wire) →
    wires_after_sends p (first ++ second) wires ≡ wires_after_sends p second (wires_after_sends p first wires)
sends-then p first second [] = refl
sends-then p first second (w ∷ wires) =
    ap (λ v. v ∷ wires_after_sends (p + 1) (first ++ second) wires)
    (ap (λ ss. add_signals ss w) (sent_on-append p first second) ∙ signals-then (sent_on p first) (sent_on p second) w)
    ∙ ap (λ vs. add_signals (sent_on p second) (add_signals (sent_on p first) w) ∷ vs) (sends-then (p + 1) first second wires)
