-- A turn keeps a world well formed.
use Rattle.std.proofs.Common.{◌≡◌, ◌⊎◌, inl, inr, ℕ, suc, ◌+◌, ◌-◌, ◌≤◌, ◌<◌, Bool, true, false, ◌||◌, ◌==◌, List, [], ◌∷◌, map, length, nat_le, Option, Some, None, is_some, slice_get, slice_index_or, refl, sym, ◌∙◌, ap, subst, arith, if◌then◌else◌}
use Rattle.std.proofs.lemmas.Bool.{leb-false, cases_lt}
use Rattle.std.proofs.lemmas.List.{length-map, get_or_past}
use Rattle.std.proofs.lemmas.Option.{slice_get_within, slice_get_cases}
use Rattle.port_state.specs.declared.signal.Signal.{Signal}
use Rattle.port_state.specs.declared.ports.PortView.{PortView}
use Rattle.port_state.specs.Ports.{is_connected}
use Rattle.port_state.specs.Sends.{sent_on}
use Rattle.port_state.specs.Valid.{IsValid}
use Rattle.port_state.specs.Sound.{OnConnected, IsSound}
use Rattle.port_state.specs.declared.states.NodeState.{NodeState}
use Rattle.port_state.specs.Step.{Step}
use Rattle.port_state.specs.Heard.{on_signal}
use Rattle.port_state.specs.Machine.{PortNode, NodeStep, beat, on_beat}
use Rattle.port_state.proofs.Lemmas.{sound-tick, sound-on_signal, tick-cables, signal-cables, on-append}
use Rattle.cabling.specs.declared.cable.End.{End}
use Rattle.cabling.specs.Wiring.{Wiring, far, ports_of}
use Rattle.cable_world.specs.Wire.{Travelling, Wire, empty_wire, age_signal, front_is_due, stays, add_signals}
use Rattle.cable_world.specs.World.{CableWorld, wire_of}
use Rattle.cable_world.specs.Turn.{step_then, hear_all, node_turn, node_turns, turn_at, inbox, all_wires_after_sends, last_changes, turn}
use Rattle.cable_world.specs.Lawful.{AgesFall, FitsCables, IsWellFormed}
use Rattle.cable_world.proofs.Options.{some-same}
use Rattle.cable_world.proofs.turns.ByNumber.{node-after, wire-after, row-after, nodes-after, cabling-after, delay-after, longest-after}
use Rattle.cable_world.proofs.tables.TablesInSteps.{sent-length}
use Rattle.cable_world.proofs.tables.Shape.{ages-sent, none-sent, silent}

-- ---- one node

-- a step of a valid node to a valid one, with times, ports and cables as before, that sends on
-- ports with a cable alone
pub record Steady (x : NodeState) (s : Step) : Type 0 where
  pub valid : IsValid s.state
  pub timing : s.state.timing ≡ x.timing
  pub ports : s.state.ports ≡ x.ports
  pub cables : (k : ℕ) → is_connected s.state.view.ports k ≡ is_connected x.view.ports k
  pub on : OnConnected x.view.ports s.sends

on-same :
    (ps qs : List PortView) (sends : List (ℕ × Signal)) →
    ((k : ℕ) → is_connected ps k ≡ is_connected qs k) → OnConnected ps sends → OnConnected qs sends
on-same ps qs [] h on = tt
on-same ps qs (s ∷ sends) h on = (sym (h s.0) ∙ on.0, on-same ps qs sends h on.1)

sound-steady :
    (x : NodeState) (s : Step) → IsSound x s →
    ((k : ℕ) → is_connected s.state.view.ports k ≡ is_connected x.view.ports k) → Steady x s
sound-steady x s sound same = record {
  valid = sound.valid;
  timing = sound.timing;
  ports = sound.ports;
  cables = same;
  on = on-same s.state.view.ports x.view.ports s.sends same sound.connected;
}

then-steady :
    (x : NodeState) (s : Step) (next : NodeState → Step) → Steady x s →
    Steady s.state (next s.state) → Steady x (step_then s next)
then-steady x s next a b = record {
  valid = b.valid;
  timing = b.timing ∙ a.timing;
  ports = b.ports ∙ a.ports;
  cables = λ k. b.cables k ∙ a.cables k;
  on = on-append x.view.ports s.sends (next s.state).sends a.on (on-same s.state.view.ports x.view.ports (next s.state).sends a.cables b.on);
}

hear-steady :
    (signals : List (ℕ × Signal)) (x : NodeState) → IsValid x → Steady x (hear_all signals x)
hear-steady [] x v = record { valid = v; timing = refl; ports = refl; cables = λ k. refl; on = tt }
hear-steady (s ∷ rest) x v =
    let a : Steady x (on_signal s.0 s.1 x) = sound-steady x (on_signal s.0 s.1 x) (sound-on_signal s.0 s.1 x v) (signal-cables s.0 s.1 x) in
    then-steady x (on_signal s.0 s.1 x) (hear_all rest) a (hear-steady rest (on_signal s.0 s.1 x).state a.valid)

abbrev pub step_of : NodeStep → Step
step_of s = record { state = s.node.state; sends = s.sends }

beat-steady : (b : Option Bool) (x : NodeState) → IsValid x → Steady x (on_beat b x)
beat-steady None x v = record { valid = v; timing = refl; ports = refl; cables = λ k. refl; on = tt }
beat-steady (Some coin) x v = sound-steady x (on_beat (Some coin) x) (sound-tick coin x v) (tick-cables coin x)

node-steady :
    (signals : List (ℕ × Signal)) (x : PortNode) → IsValid x.state →
    Steady x.state (step_of (node_turn signals x))
node-steady signals x v =
    let heard : Step = hear_all signals x.state in
    let a : Steady x.state heard = hear-steady signals x.state v in
    then-steady x.state heard (on_beat (beat x)) a (beat-steady (beat x) heard.state a.valid)

-- ---- one wire

ages-older :
    (most : ℕ) (signals : List Travelling) → AgesFall most signals →
    AgesFall (most + 1) (map age_signal signals)
ages-older most [] h = tt
ages-older most (t ∷ ts) h = (omega (arith, h.0), ages-older t.age ts h.1)

-- what isn't due is younger than d
ages-kept :
    (d : ℕ) (b : Bool) (signals : List Travelling) → 1 ≤ d → AgesFall (d - 1) signals →
    AgesFall (d - 1) (if (b || front_is_due d (map age_signal signals)) then [] else map age_signal signals)
ages-kept d true signals some h = tt
ages-kept d false [] some h = tt
ages-kept d false (t ∷ ts) some h = go (nat_le d (t.age + 1)) refl
  where
    go :
        (b : Bool) → nat_le d (t.age + 1) ≡ b →
        AgesFall (d - 1) (if b then [] else map age_signal (t ∷ ts))
    go true e = tt
    go false e = let young : t.age + 1 < d = leb-false d (t.age + 1) e in (omega (arith, young), ages-older t.age ts h.1)

wire-stays :
    (d : ℕ) (w : Wire) → 1 ≤ d → AgesFall (d - 1) w.signals → AgesFall (d - 1) (stays d w).signals
wire-stays d w some h = ages-kept d (w.held == 0) w.signals some h

-- ---- the tables

length-all :
    (steps : List NodeStep) (rows : List (List Wire)) →
    length (all_wires_after_sends steps rows) ≡ length rows
length-all (s ∷ steps) (r ∷ rows) = ap suc (length-all steps rows)
length-all steps rows = refl

pub length-changes :
    (turns : ℕ) (before after : List PortNode) (changed : List ℕ) →
    length (last_changes turns before after changed) ≡ length changed
length-changes turns (x ∷ before) (y ∷ after) (c ∷ changed) = ap suc (length-changes turns before after changed)
length-changes turns before after changed = refl

rows-after : (w : CableWorld) → length (turn w).wires ≡ length w.wires
unfolding turn
rows-after w = length-all (node_turns w w.cabling w.nodes) (map (map (stays w.delay)) w.wires) ∙ length-map w.wires (map (stays w.delay))

changes-after : (w : CableWorld) → length (turn w).changed ≡ length w.changed
unfolding turn
changes-after w = length-changes (w.turns + 1) w.nodes (map (λ (s : NodeStep). s.node) (node_turns w w.cabling w.nodes)) w.changed

row-length :
    (w : CableWorld) (k : ℕ) (x : PortNode) → length w.nodes ≡ length w.cabling →
    slice_get w.nodes k ≡ Some x →
    length (slice_index_or (turn w).wires k []) ≡ length (slice_index_or w.wires k [])
row-length w k x e h =
    ap length (row-after w k x e h)
    ∙ sent-length 0 (turn_at w k x).sends (map (stays w.delay) (slice_index_or w.wires k []))
    ∙ length-map (slice_index_or w.wires k []) (stays w.delay)

-- where no wire is in the table, none is there
pub outside :
    (w : CableWorld) (a : End) → length (slice_index_or w.wires a.node []) ≤ a.port →
    wire_of w a ≡ empty_wire
outside w a h = get_or_past (slice_index_or w.wires a.node []) a.port empty_wire h

-- ---- what is at an end after a turn

-- the node and its port are there, with what the node sends, or no wire is
record Turned (w : CableWorld) (a : End) : Type 0 where
  node : PortNode
  at : slice_get w.nodes a.node ≡ Some node
  inside : a.port < length (slice_index_or w.wires a.node [])

turned-or-none :
    (w : CableWorld) (a : End) → IsWellFormed w → Turned w a ⊎ (wire_of (turn w) a ≡ empty_wire)
turned-or-none w a f = elim (slice_get_cases w.nodes a.node).1 [
  | inl found ↦ elim (cases_lt a.port (length (slice_index_or w.wires a.node []))) [
    | inl inside ↦ inl (record { node = found.0; at = found.2; inside = inside })
    | inr past ↦ inr (outside (turn w) a (omega (arith, row-length w a.node found.0 f.count found.2, past)))
  ]
  | inr lacks ↦
      let none : slice_index_or (turn w).wires a.node [] ≡ [] = get_or_past (turn w).wires a.node [] (omega (arith, rows-after w, f.wire_rows, f.count, lacks.0)) in
      inr (outside (turn w) a (omega (arith, ap length none)))
]

pub steady-at :
    (w : CableWorld) (k : ℕ) (x : PortNode) → IsWellFormed w → slice_get w.nodes k ≡ Some x →
    Steady x.state (step_of (turn_at w k x))
steady-at w k x f e = node-steady (inbox w 0 (ports_of w.cabling k)) x (f.nodes k x e).valid

ages-after :
    (w : CableWorld) (a : End) → IsWellFormed w →
    AgesFall (w.delay - 1) (wire_of (turn w) a).signals
ages-after w a f = elim (turned-or-none w a f) [
  | inl t ↦ subst (λ (v : Wire). AgesFall (w.delay - 1) v.signals) (sym (wire-after w a t.node f.count t.at t.inside))
      (ages-sent (w.delay - 1) (stays w.delay (wire_of w a)).signals (sent_on a.port (turn_at w a.node t.node).sends) (wire-stays w.delay (wire_of w a) f.some_delay (f.ages a)))
  | inr none ↦ subst (λ (v : Wire). AgesFall (w.delay - 1) v.signals) (sym none) tt
]

free-after :
    (w : CableWorld) (a : End) → IsWellFormed w → far w.cabling a ≡ None →
    wire_of (turn w) a ≡ empty_wire
free-after w a f free = elim (turned-or-none w a f) [
  | inl t ↦
      let fits : FitsCables w a.node t.node.state = f.nodes a.node t.node t.at in
      let no_cable : is_connected t.node.state.view.ports a.port ≡ false = fits.connected a.port ∙ ap is_some free in
      let quiet : sent_on a.port (turn_at w a.node t.node).sends ≡ [] = silent t.node.state.view.ports _ a.port (steady-at w a.node t.node f t.at).on no_cable in
      wire-after w a t.node f.count t.at t.inside
      ∙ ap (λ s. add_signals s (stays w.delay (wire_of w a))) quiet
      ∙ ap (λ v. add_signals [] (stays w.delay v)) (f.unplugged a free)
      ∙ none-sent (stays w.delay empty_wire)
  | inr none ↦ none
]

node-fits :
    (w : CableWorld) (k : ℕ) (x : PortNode) → IsWellFormed w → slice_get w.nodes k ≡ Some x →
    FitsCables (turn w) k (turn_at w k x).node.state
node-fits w k x f e =
    let fits : FitsCables w k x.state = f.nodes k x e in
    let s : Steady x.state (step_of (turn_at w k x)) = steady-at w k x f e in
    record {
      valid = s.valid;
      timing = rw (delay-after w, longest-after w, s.timing) fits.timing;
      ports = rw (cabling-after w) (fits.ports ∙ sym s.ports);
      wires = row-length w k x f.count e ∙ fits.wires ∙ sym s.ports;
      connected = λ p. rw (cabling-after w) (s.cables p ∙ fits.connected p);
    }

nodes-fit :
    (w : CableWorld) (k : ℕ) (y : PortNode) → IsWellFormed w → slice_get (turn w).nodes k ≡ Some y →
    FitsCables (turn w) k y.state
nodes-fit w k y f e = elim (slice_get_cases w.nodes k).1 [
  | inl found ↦
      let same : (turn_at w k found.0).node ≡ y = some-same (turn_at w k found.0).node y (sym (node-after w k found.0 f.count found.2) ∙ e) in
      subst (λ (z : PortNode). FitsCables (turn w) k z.state) same (node-fits w k found.0 f found.2)
  | inr lacks ↦ absurd (omega (arith, lacks.0, slice_get_within (turn w).nodes k y e, nodes-after w f.count))
]

pub turn-formed : (w : CableWorld) → IsWellFormed w → IsWellFormed (turn w)
turn-formed w f = record {
  some_delay = rw (delay-after w) f.some_delay;
  cabling = rw (cabling-after w) f.cabling;
  count = nodes-after w f.count ∙ rw (cabling-after w) f.count;
  wire_rows = rows-after w ∙ rw (cabling-after w) f.wire_rows;
  changes = changes-after w ∙ rw (cabling-after w) f.changes;
  nodes = λ k y e. nodes-fit w k y f e;
  ages = λ a. rw (delay-after w) (ages-after w a f);
  unplugged = λ a free. free-after w a f (let back : far (turn w).cabling a ≡ far w.cabling a = ap (λ (c : Wiring). far c a) (cabling-after w) in sym back ∙ free);
}
