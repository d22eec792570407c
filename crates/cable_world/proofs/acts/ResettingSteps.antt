-- A step of a node that resets the bus: what it does at its node, and what it leaves alone.
use Rattle.std.proofs.Common.{◌≡◌, ◌≢◌, ℕ, ◌+◌, ◌<◌, inl, inr, true, false, List, [], ◌∷◌, ◌++◌, Option, Some, None, length, length-set, slice_get, slice_index_or, refl, subst, sym, ◌∙◌, ap, arith}
use Rattle.std.specs.Option.{option_map}
use Rattle.std.proofs.lemmas.Bool.{cases_eq, ne_eqb}
use Rattle.std.proofs.lemmas.List.{get_or-set_same, get_or-set_other}
use Rattle.std.proofs.lemmas.Option.{slice_get_within}
use Rattle.cabling.specs.declared.cable.End.{End}
use Rattle.port_state.specs.declared.signal.Level.{Level}
use Rattle.port_state.specs.declared.signal.Level.TheVariants as level
use Rattle.port_state.specs.declared.signal.Phase.TheVariants.{ResetStart}
use Rattle.port_state.specs.declared.signal.Signal.TheVariants as signal
use Rattle.port_state.specs.declared.ports.PortView.{PortView}
use Rattle.port_state.specs.declared.states.NodeState.{NodeState}
use Rattle.port_state.specs.Ports.{is_connected}
use Rattle.port_state.specs.Sends.{sent_on}
use Rattle.port_state.specs.Entry.{enter, with_port}
use Rattle.port_state.specs.Machine.{PortNode, NodeStep, after_step, node_disturb, node_plugged, node_pulled}
use Rattle.port_state.proofs.Lemmas.{on_every-port, changed-port, enter-cables}
use Rattle.cable_world.specs.Wire.{Wire, empty_wire, new_signal, add_signals}
use Rattle.cable_world.specs.World.{CableWorld, wire_of}
use Rattle.cable_world.specs.Turn.{wires_after_sends}
use Rattle.cable_world.specs.Act.{put_step, step_at, with_step}
use Rattle.cable_world.proofs.turns.ByNumber.{sent-at}
use Rattle.cable_world.proofs.levels.LastHeard.{shown_if_there, enter-shows}
use Rattle.cable_world.proofs.Options.{some-same, none-some}
use Rattle.cable_world.proofs.tables.TablesInSteps.{replaced, not-replaced, sent-length}
use Rattle.cable_world.proofs.tables.CableEnds.{CableEnd}

-- what a port shows, if its node and the port are there
abbrev pub shown_of_node : Option PortNode → ℕ → Option Level
shown_of_node None k = None
shown_of_node (Some x) k = shown_if_there x.state k

abbrev pub shown_at_end : CableWorld → End → Option Level
shown_at_end w e = shown_of_node (slice_get w.nodes e.node) e.port

-- ---- a step that resets the bus

-- a node that has just entered R0
pub record HasBegun (x : NodeState) : Type 0 where
  pub phase : x.view.phase ≡ ResetStart
  pub timer : x.view.timer ≡ 0
  pub draws : x.view.draws ≡ 0
  pub first_draws : x.view.first_draws ≡ 0

-- its node enters R0, and sends Reset on each port with a cable; what these ports show it leaves
-- alone
pub record Resets (P : ℕ → Type 0) (f : PortNode → NodeStep) : Type 0 where
  pub begins : (x : PortNode) → HasBegun (f x).node.state
  pub sent :
      (x : PortNode) (k : ℕ) → is_connected (f x).node.state.view.ports k ≡ true →
      sent_on k (f x).sends ≡ signal.Reset ∷ []
  pub shows :
      (x : PortNode) (k : ℕ) → P k → shown_if_there (f x).node.state k ≡ shown_if_there x.state k

enter-sends :
    (x : NodeState) (k : ℕ) → is_connected x.view.ports k ≡ true →
    sent_on k (enter true x).sends ≡ signal.Reset ∷ []
unfolding enter
enter-sends x k c = on_every-port k signal.Reset x.view.ports ∙ (rw c refl)

enter-begins : (x : NodeState) → HasBegun (enter true x).state
unfolding enter
enter-begins x = record { phase = refl; timer = refl; draws = refl; first_draws = refl }

entering :
    (P : ℕ → Type 0) (change : NodeState → NodeState) →
    ((x : NodeState) (k : ℕ) → P k → shown_if_there (change x) k ≡ shown_if_there x k) →
    Resets P (λ x. after_step x (enter true (change x.state)))
entering P change h = record {
  begins = λ x. enter-begins (change x.state);
  sent = λ x k c. enter-sends (change x.state) k (sym (enter-cables true (change x.state) k) ∙ c);
  shows = λ x k p. enter-shows true (change x.state) k ∙ h x.state k p;
}

abbrev pub other_than : ℕ → ℕ → Type 0
other_than port k = k ≢ port

-- where one port is changed, the others show what they did
others-show :
    (port : ℕ) (f : PortView → PortView) (x : NodeState) (k : ℕ) → k ≢ port →
    shown_if_there (with_port port f x) k ≡ shown_if_there x k
others-show port f x k ne =
    ap (option_map (λ (p : PortView). p.shown)) (changed-port port k f x.view.ports)
    ∙ (rw (ne_eqb k port ne) refl)

pub resets-disturb : Resets (λ k. Unit {0}) node_disturb
resets-disturb = entering (λ k. Unit {0}) (λ x. x) (λ x k p. refl)

pub resets-plugged : (port : ℕ) → Resets (other_than port) (node_plugged port)
resets-plugged port =
    let f : PortView → PortView = λ p. record p { connected = true; shown = level.Reset } in
    entering (other_than port) (with_port port f) (others-show port f)

pub resets-pulled : (port : ℕ) → Resets (other_than port) (node_pulled port)
resets-pulled port =
    let f : PortView → PortView = λ p. record p { connected = false; shown = level.Idle } in
    entering (other_than port) (with_port port f) (others-show port f)

-- ---- what a step leaves alone

pub record Untouched (w v : CableWorld) (j : ℕ) : Type 0 where
  pub node : slice_get v.nodes j ≡ slice_get w.nodes j
  pub row : slice_index_or v.wires j [] ≡ slice_index_or w.wires j []
  pub rows : length v.wires ≡ length w.wires

pub untouched :
    (k : ℕ) (step : PortNode → NodeStep) (w : CableWorld) (j : ℕ) → j ≢ k →
    Untouched w (with_step k step w) j
untouched k step w j ne = go (slice_get w.nodes k)
  where
    go : (o : Option PortNode) → Untouched w (step_at o k step w) j
    go None = record { node = refl; row = refl; rows = refl }
    go (Some x) =
        let sent = wires_after_sends 0 (step x).sends (slice_index_or w.wires k []) in
        record {
          node = not-replaced w.nodes k j (step x).node ne;
          row = get_or-set_other w.wires k j sent [] ne;
          rows = length-set w.wires k sent;
        }

same-shown :
    (w v : CableWorld) (e : End) → Untouched w v e.node → shown_at_end v e ≡ shown_at_end w e
same-shown w v e u = ap (λ o. shown_of_node o e.port) u.node

pub same-wire : (w v : CableWorld) (e : End) → Untouched w v e.node → wire_of v e ≡ wire_of w e
same-wire w v e u = ap (λ row. slice_index_or row e.port empty_wire) u.row

pub still-there : (w v : CableWorld) (e : End) → Untouched w v e.node → CableEnd v e → CableEnd w e
still-there w v e u r = record {
  node = r.node;
  node_at = sym u.node ∙ r.node_at;
  port = r.port;
  port_at = r.port_at;
  connected = r.connected;
  wire = record { node = omega (arith, u.rows, r.wire.node); port = subst (λ (row : List Wire). e.port < length row) u.row r.wire.port };
}

-- ---- what a step that resets the bus does at its node

-- a Reset is sent over the wire of this end, behind what was under way in the first world
abbrev SaysReset : CableWorld → CableWorld → End → Type 0
SaysReset w v e = (wire_of v e).signals ≡ (wire_of w e).signals ++ new_signal signal.Reset ∷ []

own-reset :
    (P : ℕ → Type 0) (step : PortNode → NodeStep) (w : CableWorld) (e : End) → Resets P step →
    CableEnd (with_step e.node step w) e → SaysReset w (with_step e.node step w) e
own-reset P step w e s = go (slice_get w.nodes e.node) refl
  where
    go :
        (o : Option PortNode) → slice_get w.nodes e.node ≡ o →
        CableEnd (step_at o e.node step w) e → SaysReset w (step_at o e.node step w) e
    go None at r = absurd (none-some (slice_get w.nodes e.node) r.node at r.node_at)
    go (Some x) at r =
        let y : NodeStep = step x in
        let v : CableWorld = put_step e.node y w in
        let row : List Wire = slice_index_or w.wires e.node [] in
        let sent : List Wire = wires_after_sends 0 y.sends row in
        let now : slice_get v.nodes e.node ≡ Some y.node = replaced w.nodes e.node y.node (slice_get_within w.nodes e.node x at) in
        let same : r.node ≡ y.node = some-same r.node y.node (sym r.node_at ∙ now) in
        let on : is_connected y.node.state.view.ports e.port ≡ true = subst (λ (z : PortNode). is_connected z.state.view.ports e.port ≡ true) same r.connected in
        let rows : length v.wires ≡ length w.wires = length-set w.wires e.node sent in
        let inside : e.node < length w.wires = omega (arith, rows, r.wire.node) in
        let here : slice_index_or v.wires e.node [] ≡ sent = get_or-set_same w.wires e.node sent [] inside in
        let long : length sent ≡ length row = sent-length 0 y.sends row in
        let within : e.port < length sent = subst (λ (l : List Wire). e.port < length l) here r.wire.port in
        let port : e.port < length row = omega (arith, long, within) in
        let z : 0 + e.port ≡ e.port = omega arith in
        let old : Wire = slice_index_or row e.port empty_wire in
        ap (λ (u : Wire). u.signals) (
        ap (λ l. slice_index_or l e.port empty_wire) here
        ∙ sent-at 0 e.port y.sends row port
        ∙ ap (λ n. add_signals (sent_on n y.sends) old) z
        ∙ ap (λ l. add_signals l old) (s.sent x e.port on))

pub step-reset :
    (P : ℕ → Type 0) (k : ℕ) (step : PortNode → NodeStep) (w : CableWorld) (e : End) →
    Resets P step → e.node ≡ k → CableEnd (with_step k step w) e →
    SaysReset w (with_step k step w) e
step-reset P k step w e s n =
    subst (λ (j : ℕ). CableEnd (with_step j step w) e → SaysReset w (with_step j step w) e) n (own-reset P step w e s)

own-shown :
    (P : ℕ → Type 0) (step : PortNode → NodeStep) (w : CableWorld) (e : End) → Resets P step →
    P e.port → shown_at_end (with_step e.node step w) e ≡ shown_at_end w e
own-shown P step w e s p = go (slice_get w.nodes e.node) refl
  where
    go :
        (o : Option PortNode) → slice_get w.nodes e.node ≡ o →
        shown_at_end (step_at o e.node step w) e ≡ shown_at_end w e
    go None at = refl
    go (Some x) at =
        ap (λ o. shown_of_node o e.port) (replaced w.nodes e.node (step x).node (slice_get_within w.nodes e.node x at))
        ∙ s.shows x e.port p
        ∙ sym (ap (λ o. shown_of_node o e.port) at)

pub step-shown :
    (P : ℕ → Type 0) (k : ℕ) (step : PortNode → NodeStep) (w : CableWorld) (e : End) →
    Resets P step → (e.node ≡ k → P e.port) → shown_at_end (with_step k step w) e ≡ shown_at_end w e
step-shown P k step w e s p = elim (cases_eq e.node k) [
  | inl n ↦ subst (λ (j : ℕ). shown_at_end (with_step j step w) e ≡ shown_at_end w e) n (own-shown P step w e s (p n))
  | inr ne ↦ same-shown w (with_step k step w) e (untouched k step w e.node ne)
]
