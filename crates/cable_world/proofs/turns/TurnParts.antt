-- A turn of a node as hearing and ticking, and a turn of a cable as signals that arrive, stay and
-- are sent.
use Rattle.std.proofs.Common.{zero, suc, ◌<◌, ◌==◌, Option, None, slice_index_or, ◌≡◌, ℕ, ◌+◌, Bool, true, false, List, [], ◌∷◌, ◌++◌, map, Some, if◌then◌else◌, refl, ◌∙◌, ap, subst, arith}
use Rattle.std.proofs.lemmas.Bool.{ne_eqb, eq-eqb}
use Rattle.std.proofs.lemmas.List.{append-nil}
use Rattle.port_state.specs.declared.signal.Signal.{Signal}
use Rattle.port_state.specs.Sends.{sent_on}
use Rattle.port_state.specs.Machine.{PortNode, beat, on_beat}
use Rattle.port_state.proofs.Lemmas.{sent_on-append}
use Rattle.cabling.specs.declared.cable.End.{End}
use Rattle.cabling.specs.Wiring.{far, ports_of}
use Rattle.cable_world.specs.Wire.{Travelling, Wire, age_signal, age_wire, gives, arrives}
use Rattle.cable_world.specs.World.{CableWorld, wire_of}
use Rattle.cable_world.specs.Turn.{hear_all, node_turn, inbox, signals_from}
use Rattle.cable_world.specs.Signals.{signals_of}
use Rattle.cable_world.specs.Signals.{signals_of}
use Rattle.cable_world.proofs.coupling.Streams.{signals-older}

-- ---- a node

pub turn-state :
    (signals : List (ℕ × Signal)) (x : PortNode) →
    (node_turn signals x).node.state
    ≡ (on_beat (beat x) (hear_all signals x.state).state).state
turn-state signals x = refl

-- what it sends on one port, while hearing and at the tick
pub turn-sent :
    (signals : List (ℕ × Signal)) (x : PortNode) (k : ℕ) →
    sent_on k (node_turn signals x).sends
    ≡ sent_on k (hear_all signals x.state).sends ++ sent_on k (on_beat (beat x) (hear_all signals x.state).state).sends
turn-sent signals x k = sent_on-append k (hear_all signals x.state).sends (on_beat (beat x) (hear_all signals x.state).state).sends

-- ---- what a node hears in a turn

from-port :
    (k p : ℕ) (ss : List Signal) → sent_on k (map (λ s. (p, s)) ss) ≡ (if p == k then ss else [])
from-port k p [] = go (p == k)
  where
    go : (b : Bool) → ◌≡◌ {A = List Signal} [] (if b then [] else [])
    go true = refl
    go false = refl
from-port k p (s ∷ ss) = ap (λ l. if p == k then s ∷ l else l) (from-port k p ss) ∙ go (p == k)
  where
    go :
        (b : Bool) →
        (if b then s ∷ (if b then ss else []) else (if b then ss else []))
        ≡ (if b then s ∷ ss else [])
    go true = refl
    go false = refl

inbox-parts :
    (w : CableWorld) (k p : ℕ) (end : Option End) (ports : List (Option End)) →
    sent_on k (inbox w p (end ∷ ports))
    ≡ (if p == k then signals_from w end else []) ++ sent_on k (inbox w (p + 1) ports)
inbox-parts w k p end ports =
    sent_on-append k (map (λ s. (p, s)) (signals_from w end)) (inbox w (p + 1) ports)
    ∙ ap (λ l. l ++ sent_on k (inbox w (p + 1) ports)) (from-port k p (signals_from w end))

-- nothing comes to a port before the first
inbox-before :
    (w : CableWorld) (k p : ℕ) (ports : List (Option End)) → k < p →
    sent_on k (inbox w p ports) ≡ []
inbox-before w k p [] h = refl
inbox-before w k p (end ∷ ports) h =
    inbox-parts w k p end ports ∙ (rw (ne_eqb p k (λ e. omega (arith, e, h)), inbox-before w k (p + 1) ports (omega (arith, h))) refl)

-- to each port comes what its far end's wire gives
pub inbox-at :
    (w : CableWorld) (p j : ℕ) (ports : List (Option End)) →
    sent_on (p + j) (inbox w p ports) ≡ signals_from w (slice_index_or ports j None)
inbox-at w p j [] = refl
inbox-at w p zero (end ∷ ports) =
    let z : p + 0 ≡ p = omega arith in
    rw z (inbox-parts w p p end ports ∙ (rw (eq-eqb p p refl, inbox-before w p (p + 1) ports (omega arith)) (append-nil (signals_from w end))))
inbox-at w p (suc j) (end ∷ ports) =
    let z : p + 1 + j ≡ p + suc j = omega arith in
    inbox-parts w (p + suc j) p end ports
    ∙ (rw (ne_eqb p (p + suc j) (λ e. omega (arith, e))) (subst (λ n. sent_on n (inbox w (p + 1) ports) ≡ signals_from w (slice_index_or ports j None)) z (inbox-at w (p + 1) j ports)))

-- ---- a cable

arrive :
    (d : ℕ) (w : Wire) → arrives d w ≡ (if gives d (age_wire w) then signals_of w.signals else [])
arrive d w = go (gives d (age_wire w))
  where
    go :
        (b : Bool) →
        (if b then map (λ (t : Travelling). t.signal) (map age_signal w.signals) else [])
        ≡ (if b then signals_of w.signals else [])
    go true = signals-older w.signals
    go false = refl

-- what comes to an end in a turn is what the wire from the other end gives
pub comes :
    (w : CableWorld) (a b : End) → far w.cabling b ≡ Some a →
    sent_on b.port (inbox w 0 (ports_of w.cabling b.node))
    ≡ (if gives w.delay (age_wire (wire_of w a)) then signals_of (wire_of w a).signals else [])
comes w a b back =
    let z : 0 + b.port ≡ b.port = omega arith in
    subst (λ n. sent_on n (inbox w 0 (ports_of w.cabling b.node)) ≡ signals_from w (far w.cabling b)) z (inbox-at w 0 b.port (ports_of w.cabling b.node))
    ∙ ap (signals_from w) back ∙ arrive w.delay (wire_of w a)
