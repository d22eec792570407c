-- What a step of one node makes of each node and of each wire, by number.
use Rattle.std.proofs.Common.{◌≡◌, ℕ, zero, suc, ◌+◌, ◌<◌, ◌==◌, Bool, true, false, List, [], ◌∷◌, Option, Some, None, length, length-set, slice_get, slice_index_or, if◌then◌else◌, refl, sym, ◌∙◌, ap, subst, arith}
use Rattle.std.specs.Int.{bit_at}
use Rattle.std.specs.Option.{option_map}
use Rattle.std.proofs.lemmas.Bool.{eq-eqb, ne_eqb}
use Rattle.std.proofs.lemmas.List.{get_or-set_same}
use Rattle.std.proofs.lemmas.Option.{slice_get_within}
use Rattle.cabling.specs.declared.cable.End.{End}
use Rattle.cabling.specs.NodeSet.{Holds}
use Rattle.port_state.specs.declared.signal.Signal.TheVariants as signal
use Rattle.port_state.specs.Ports.{is_connected}
use Rattle.port_state.specs.Sends.{sent_on}
use Rattle.port_state.specs.Machine.{PortNode, NodeStep}
use Rattle.cable_world.specs.Wire.{Wire, empty_wire, add_signals}
use Rattle.cable_world.specs.World.{CableWorld, wire_of}
use Rattle.cable_world.specs.Turn.{wires_after_sends, same_list, last_changes}
use Rattle.cable_world.specs.Act.{put_step, step_at, with_step, change_in_set}
use Rattle.cable_world.proofs.Lemmas.{some-same, none-some, Resets as Resetting, same-itself, CableEnd, replaced, sent-length, sent-at}

-- ---- the node that steps

pub stepped-node :
    (k : ℕ) (step : PortNode → NodeStep) (w : CableWorld) (x : PortNode) →
    slice_get w.nodes k ≡ Some x → slice_get (with_step k step w).nodes k ≡ Some (step x).node
stepped-node k step w x at =
    ap (λ (o : Option PortNode). slice_get (step_at o k step w).nodes k) at
    ∙ replaced w.nodes k (step x).node (slice_get_within w.nodes k x at)

-- a Reset is sent over the wire of this end
abbrev SendsReset : CableWorld → CableWorld → End → Type 0
SendsReset w v e = wire_of v e ≡ add_signals (signal.Reset ∷ []) (wire_of w e)

own-wire :
    (P : ℕ → Type 0) (step : PortNode → NodeStep) (w : CableWorld) (e : End) → Resetting P step →
    CableEnd (with_step e.node step w) e → SendsReset w (with_step e.node step w) e
own-wire P step w e s = go (slice_get w.nodes e.node) refl
  where
    go :
        (o : Option PortNode) → slice_get w.nodes e.node ≡ o →
        CableEnd (step_at o e.node step w) e → SendsReset w (step_at o e.node step w) e
    go None at r = absurd (none-some (slice_get w.nodes e.node) r.node at r.node_at)
    go (Some x) at r =
        let y : NodeStep = step x in
        let v : CableWorld = put_step e.node y w in
        let row : List Wire = slice_index_or w.wires e.node [] in
        let sent : List Wire = wires_after_sends 0 y.sends row in
        let now : slice_get v.nodes e.node ≡ Some y.node = replaced w.nodes e.node y.node (slice_get_within w.nodes e.node x at) in
        let same : r.node ≡ y.node = some-same r.node y.node (sym r.node_at ∙ now) in
        let on : is_connected y.node.state.view.ports e.port ≡ true = subst (λ (z : PortNode). is_connected z.state.view.ports e.port ≡ true) same r.connected in
        let rows : length v.wires ≡ length w.wires = length-set w.wires e.node sent in
        let inside : e.node < length w.wires = omega (arith, rows, r.wire.node) in
        let here : slice_index_or v.wires e.node [] ≡ sent = get_or-set_same w.wires e.node sent [] inside in
        let long : length sent ≡ length row = sent-length 0 y.sends row in
        let within : e.port < length sent = subst (λ (l : List Wire). e.port < length l) here r.wire.port in
        let port : e.port < length row = omega (arith, long, within) in
        let z : 0 + e.port ≡ e.port = omega arith in
        let old : Wire = slice_index_or row e.port empty_wire in
        ap (λ l. slice_index_or l e.port empty_wire) here
        ∙ sent-at 0 e.port y.sends row port
        ∙ ap (λ n. add_signals (sent_on n y.sends) old) z
        ∙ ap (λ l. add_signals l old) (s.sent x e.port on)

pub stepped-wire :
    (P : ℕ → Type 0) (k : ℕ) (step : PortNode → NodeStep) (w : CableWorld) (e : End) →
    Resetting P step → e.node ≡ k → CableEnd (with_step k step w) e →
    wire_of (with_step k step w) e ≡ add_signals (signal.Reset ∷ []) (wire_of w e)
stepped-wire P k step w e s n =
    subst (λ (j : ℕ). CableEnd (with_step j step w) e → SendsReset w (with_step j step w) e) n (own-wire P step w e s)

-- ---- the nodes of a set

set-get :
    (set : ℕ) (change : PortNode → PortNode) (k : ℕ) (nodes : List PortNode) (j : ℕ) →
    slice_get (change_in_set set change k nodes) j
    ≡ option_map (λ x. if bit_at set (k + j) == 1 then change x else x) (slice_get nodes j)
set-get set change k [] j = refl
set-get set change k (x ∷ nodes) zero =
    let z : k ≡ k + 0 = omega arith in
    ap (λ (n : ℕ). Some (if bit_at set n == 1 then change x else x)) z
set-get set change k (x ∷ nodes) (suc j) =
    let z : k + 1 + j ≡ k + suc j = omega arith in
    set-get set change (k + 1) nodes j
    ∙ ap (λ (n : ℕ). option_map (λ y. if bit_at set n == 1 then change y else y) (slice_get nodes j)) z

in-first :
    (set : ℕ) (change : PortNode → PortNode) (nodes : List PortNode) (j : ℕ) →
    slice_get (change_in_set set change 0 nodes) j
    ≡ option_map (λ x. if bit_at set j == 1 then change x else x) (slice_get nodes j)
in-first set change nodes j =
    let z : 0 + j ≡ j = omega arith in
    set-get set change 0 nodes j
    ∙ ap (λ (n : ℕ). option_map (λ y. if bit_at set n == 1 then change y else y) (slice_get nodes j)) z

pub changed-member :
    (set : ℕ) (change : PortNode → PortNode) (nodes : List PortNode) (j : ℕ) (x : PortNode) →
    Holds set j → slice_get nodes j ≡ Some x →
    slice_get (change_in_set set change 0 nodes) j ≡ Some (change x)
changed-member set change nodes j x inside at =
    in-first set change nodes j
    ∙ ap (option_map (λ y. if bit_at set j == 1 then change y else y)) at
    ∙ ap (λ (b : Bool). Some (if b then change x else x)) (eq-eqb (bit_at set j) 1 inside)

pub unchanged-other :
    (set : ℕ) (change : PortNode → PortNode) (nodes : List PortNode) (j : ℕ) →
    (Holds set j → ⊥) → slice_get (change_in_set set change 0 nodes) j ≡ slice_get nodes j
unchanged-other set change nodes j out =
    in-first set change nodes j ∙ go (bit_at set j == 1) (ne_eqb (bit_at set j) 1 out) (slice_get nodes j)
  where
    go :
        (b : Bool) → b ≡ false → (o : Option PortNode) →
        option_map (λ y. if b then change y else y) o ≡ o
    go true e o = absurd cc
    go false e None = refl
    go false e (Some y) = refl

-- ---- when its list last changed

pub same-change :
    (turns : ℕ) (before after : List PortNode) (changed : List ℕ) (k : ℕ) →
    slice_get after k ≡ slice_get before k →
    slice_get (last_changes turns before after changed) k ≡ slice_get changed k
same-change turns [] after changed k e = refl
same-change turns (x ∷ before) [] changed k e = refl
same-change turns (x ∷ before) (y ∷ after) [] k e = refl
same-change turns (x ∷ before) (y ∷ after) (c ∷ changed) zero e =
    ap (λ (z : PortNode). Some (if same_list x z then c else turns)) (some-same y x e)
    ∙ ap (λ (b : Bool). Some (if b then c else turns)) (same-itself x)
same-change turns (x ∷ before) (y ∷ after) (c ∷ changed) (suc k) e = same-change turns before after changed k e
