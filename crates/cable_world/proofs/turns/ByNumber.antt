-- A turn, node by node and wire by wire.
use Rattle.std.proofs.Common.{◌≡◌, ℕ, zero, suc, ◌+◌, ◌<◌, List, [], ◌∷◌, map, Some, length, slice_get, slice_index_or, refl, ◌∙◌, ap, arith, add-one}
use Rattle.std.specs.Option.{option_map}
use Rattle.std.proofs.lemmas.Option.{slice_get-map}
use Rattle.std.proofs.lemmas.List.{length-map}
use Rattle.cabling.specs.declared.cable.End.{End}
use Rattle.cabling.specs.Wiring.{Wiring}
use Rattle.port_state.specs.declared.signal.Signal.{Signal}
use Rattle.port_state.specs.Sends.{sent_on}
use Rattle.port_state.specs.Machine.{PortNode, NodeStep}
use Rattle.cable_world.proofs.Options.{some-same}
use Rattle.cable_world.specs.Wire.{Wire, empty_wire, add_signals, stays}
use Rattle.cable_world.specs.World.{CableWorld, wire_of}
use Rattle.cable_world.specs.Turn.{inbox, node_turn, node_turns, turn_at, wires_after_sends, all_wires_after_sends, turn, turns_after}

node-turn-at :
    (w : CableWorld) (rows : Wiring) (nodes : List PortNode) (k : ℕ) (x : PortNode) →
    length nodes ≡ length rows → slice_get nodes k ≡ Some x →
    slice_get (node_turns w rows nodes) k
    ≡ Some (node_turn (inbox w 0 (slice_index_or rows k [])) x)
node-turn-at w [] [] k x e h = absurd (cc)
node-turn-at w [] (y ∷ nodes) k x e h = absurd (omega (arith, e))
node-turn-at w (r ∷ rows) [] k x e h = absurd (omega (arith, e))
node-turn-at w (r ∷ rows) (y ∷ nodes) zero x e h = ap (λ (v : PortNode). Some (node_turn (inbox w 0 r) v)) (some-same y x h)
node-turn-at w (r ∷ rows) (y ∷ nodes) (suc k) x e h = node-turn-at w rows nodes k x (omega arith) h

node-turns-length :
    (w : CableWorld) (rows : Wiring) (nodes : List PortNode) → length nodes ≡ length rows →
    length (node_turns w rows nodes) ≡ length nodes
node-turns-length w [] [] e = refl
node-turns-length w [] (y ∷ nodes) e = absurd (omega (arith, e))
node-turns-length w (r ∷ rows) [] e = absurd (omega (arith, e))
node-turns-length w (r ∷ rows) (y ∷ nodes) e = ap suc (node-turns-length w rows nodes (omega arith))

-- one port's wire of a node
pub sent-at :
    (p j : ℕ) (sends : List (ℕ × Signal)) (wires : List Wire) → j < length wires →
    slice_index_or (wires_after_sends p sends wires) j empty_wire
    ≡ add_signals (sent_on (p + j) sends) (slice_index_or wires j empty_wire)
sent-at p j sends [] h = absurd (omega arith)
sent-at p zero sends (w ∷ wires) h =
    let z : p ≡ p + 0 = omega arith in
    ap (λ n. add_signals (sent_on n sends) w) z
sent-at p (suc j) sends (w ∷ wires) h =
    let z : p + 1 + j ≡ p + suc j = omega arith in
    sent-at (p + 1) j sends wires (omega arith) ∙ ap (λ n. add_signals (sent_on n sends) (slice_index_or wires j empty_wire)) z

-- a row of wires
row-at :
    (steps : List NodeStep) (rows : List (List Wire)) (k : ℕ) (s : NodeStep) →
    slice_get steps k ≡ Some s →
    slice_index_or (all_wires_after_sends steps rows) k []
    ≡ wires_after_sends 0 s.sends (slice_index_or rows k [])
row-at [] rows k s h = absurd (cc)
row-at (t ∷ steps) [] k s h = refl
row-at (t ∷ steps) (r ∷ rows) zero s h = ap (λ (u : NodeStep). wires_after_sends 0 u.sends r) (some-same t s h)
row-at (t ∷ steps) (r ∷ rows) (suc k) s h = row-at steps rows k s h

stays-row :
    (d : ℕ) (rows : List (List Wire)) (k : ℕ) →
    slice_index_or (map (map (stays d)) rows) k [] ≡ map (stays d) (slice_index_or rows k [])
stays-row d [] k = refl
stays-row d (r ∷ rows) zero = refl
stays-row d (r ∷ rows) (suc k) = stays-row d rows k

stays-at :
    (d : ℕ) (wires : List Wire) (p : ℕ) →
    slice_index_or (map (stays d) wires) p empty_wire ≡ stays d (slice_index_or wires p empty_wire)
stays-at d [] p = refl
stays-at d (w ∷ wires) zero = refl
stays-at d (w ∷ wires) (suc p) = stays-at d wires p

pub node-after :
    (w : CableWorld) (k : ℕ) (x : PortNode) → length w.nodes ≡ length w.cabling →
    slice_get w.nodes k ≡ Some x → slice_get (turn w).nodes k ≡ Some (turn_at w k x).node
unfolding turn
node-after w k x e h =
    slice_get-map (λ (s : NodeStep). s.node) (node_turns w w.cabling w.nodes) k
    ∙ ap (option_map (λ (s : NodeStep). s.node)) (node-turn-at w w.cabling w.nodes k x e h)

pub row-after :
    (w : CableWorld) (k : ℕ) (x : PortNode) → length w.nodes ≡ length w.cabling →
    slice_get w.nodes k ≡ Some x →
    slice_index_or (turn w).wires k []
    ≡ wires_after_sends 0 (turn_at w k x).sends (map (stays w.delay) (slice_index_or w.wires k []))
unfolding turn
row-after w k x e h =
    row-at (node_turns w w.cabling w.nodes) (map (map (stays w.delay)) w.wires) k (turn_at w k x) (node-turn-at w w.cabling w.nodes k x e h)
    ∙ ap (λ r. wires_after_sends 0 (turn_at w k x).sends r) (stays-row w.delay w.wires k)

pub wire-after :
    (w : CableWorld) (end : End) (x : PortNode) → length w.nodes ≡ length w.cabling →
    slice_get w.nodes end.node ≡ Some x → end.port < length (slice_index_or w.wires end.node []) →
    wire_of (turn w) end
    ≡ add_signals (sent_on end.port (turn_at w end.node x).sends) (stays w.delay (wire_of w end))
wire-after w end x e h inside =
    let s = turn_at w end.node x in
    let row = map (stays w.delay) (slice_index_or w.wires end.node []) in
    let same : length row ≡ length (slice_index_or w.wires end.node []) = length-map (slice_index_or w.wires end.node []) (stays w.delay) in
    let fits : end.port < length row = omega (arith, same, inside) in
    let z : 0 + end.port ≡ end.port = omega arith in
    ap (λ r. slice_index_or r end.port empty_wire) (row-after w end.node x e h)
    ∙ sent-at 0 end.port s.sends row fits
    ∙ ap (λ n. add_signals (sent_on n s.sends) (slice_index_or row end.port empty_wire)) z
    ∙ ap (λ v. add_signals (sent_on end.port s.sends) v) (stays-at w.delay (slice_index_or w.wires end.node []) end.port)

pub nodes-after :
    (w : CableWorld) → length w.nodes ≡ length w.cabling → length (turn w).nodes ≡ length w.nodes
unfolding turn
nodes-after w e = length-map (node_turns w w.cabling w.nodes) (λ (s : NodeStep). s.node) ∙ node-turns-length w w.cabling w.nodes e

pub cabling-after : (w : CableWorld) → (turn w).cabling ≡ w.cabling
unfolding turn
cabling-after w = refl

pub delay-after : (w : CableWorld) → (turn w).delay ≡ w.delay
unfolding turn
delay-after w = refl

pub longest-after : (w : CableWorld) → (turn w).longest ≡ w.longest
unfolding turn
longest-after w = refl

pub turns-counted : (w : CableWorld) → (turn w).turns ≡ w.turns + 1
unfolding turn
turns-counted w = refl

pub no-turns : (w : CableWorld) → turns_after 0 w ≡ w
unfolding turns_after
no-turns w = refl

turn-last : (k : ℕ) (w : CableWorld) → turns_after (suc k) w ≡ turn (turns_after k w)
unfolding turns_after
turn-last zero w = refl
turn-last (suc k) w = turn-last k (turn w)

pub one-more : (k : ℕ) (w : CableWorld) → turns_after (k + 1) w ≡ turn (turns_after k w)
one-more k w = rw add-one (turn-last k w)

pub turns-then : (j k : ℕ) (w : CableWorld) →
    turns_after (j + k) w ≡ turns_after k (turns_after j w)
unfolding turns_after
turns-then zero k w = let z : 0 + k ≡ k = omega arith in ap (λ n. turns_after n w) z
turns-then (suc j) k w = let z : suc j + k ≡ suc (j + k) = omega arith in ap (λ n. turns_after n w) z ∙ turns-then j k (turn w)
