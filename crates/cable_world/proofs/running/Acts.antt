-- An act over the parts of a world: what the nodes and cables of a lawful one give to the code, and what comes of it.
use Rattle.std.proofs.Common.{◌≡◌, inl, inr, ℕ, suc, ◌<◌, List, [], ◌∷◌, map, length, Option, Some, None, is_some, slice_get, slice_index_or, get_or, refl, sym, subst, ◌∙◌, ap, arith}
use Rattle.std.specs.Option.{IsSomeAnd}
use Rattle.std.specs.Prelude.{Result, Ok, Err, OnOk}
use Rattle.std.proofs.lemmas.Bool.{lt-ltb}
use Rattle.std.proofs.lemmas.Option.{slice_get_cases}
use Rattle.std.proofs.Math.Seq.{map-set_same}
use Rattle.cabling.specs.declared.cable.End.{End}
use Rattle.cabling.specs.Wiring.{Wiring, HasEnd, IsCabling, far, ports_of}
use Rattle.cabling.specs.Change.{SameBut, Added, TakenOut}
use Rattle.cabling.proofs.Lemmas.{cases_end, with_far, far-same, far-other, still_end, same_but, same_length, same_ports, plugged}
use Rattle.port_state.specs.declared.timing.Timing.{Timing}
use Rattle.port_state.specs.Timing.{usual_timing}
use Rattle.port_state.specs.Ports.{is_connected}
use Rattle.port_state.specs.Config.{ConfigPacket}
use Rattle.port_state.specs.Machine.{PortNode, NodeStep, node_disturb, node_plugged, node_pulled, node_set_config}
use Rattle.cable_world.specs.Wire.{Wire, empty_wire}
use Rattle.cable_world.specs.World.{CableWorld, NodeSet, put}
use Rattle.cable_world.specs.Turn.{wires_after_sends}
use Rattle.cable_world.specs.declared.act.Act.{Act}
use Rattle.cable_world.specs.declared.act.ActStop.{ActStop}
use Rattle.cable_world.specs.declared.act.ActStop.TheVariants.{Fault, Memory}
use Rattle.cable_world.specs.Answer.{IfFault, IsMemory}
use Rattle.cable_world.specs.Act.{ActLeads, act_fault, node_fault, step_at, with_step, plug, pull_from, pull, change_in_set, configure, note_changes}
use Rattle.cable_world.specs.running.ActEnds.{ActEnds}
use Rattle.cable_world.specs.Lawful.{IsWellFormed}
use Rattle.cable_world.specs.running.NodeActs.{note_both, note_step}
use Rattle.cable_world.proofs.Options.{some-at}
use Rattle.cable_world.proofs.tables.TablesInSteps.{sent-length}
use Rattle.cable_world.proofs.running.Acting.{told-lists}
use Rattle.cable_world.proofs.running.Whole.{put-long}

-- ---- a cabling after two writes

same-items : {X : Type 0} → (d : X) (xs ys : List X) → length xs ≡ length ys →
    ((i : ℕ) → get_or xs i d ≡ get_or ys i d) → xs ≡ ys
same-items d [] [] n e = refl
same-items d [] (y ∷ ys) n e = absurd (omega (arith, n))
same-items d (x ∷ xs) [] n e = absurd (omega (arith, n))
same-items d (x ∷ xs) (y ∷ ys) n e = ap (λ z. z ∷ xs) (e 0) ∙ ap (λ zs. y ∷ zs) (same-items d xs ys (omega (arith, n)) (λ i. e (suc i)))

same-wiring : (c d : Wiring) → map length d ≡ map length c → ((e : End) → far c e ≡ far d e) → c ≡ d
same-wiring c d ports h =
    same-items [] c d (sym (same_length c d ports)) (λ k.
    same-items None (ports_of c k) (ports_of d k) (sym (same_ports c d k ports)) (λ p. h (record { node = k; port = p })))

pub written :
    (c d : Wiring) (a b : End) (v u : Option End) → HasEnd c a → HasEnd c b → SameBut c d a b → far d a ≡ v → far d b ≡ u →
    d ≡ put b u (put a v c)
written c d a b v u ha hb same at_a at_b =
    let made : SameBut c (with_far (with_far c a v) b u) a b = same_but c a b v u ha hb in
    let hb_then : HasEnd (with_far c a v) b = still_end c a b v hb in
    same-wiring d (put b u (put a v c)) (made.ports ∙ sym same.ports) (λ e. elim (cases_end e b) [
      | inl is ↦ ap (far d) is ∙ at_b ∙ sym (ap (far (put b u (put a v c))) is ∙ far-same (with_far c a v) b u hb_then)
      | inr nb ↦ elim (cases_end e a) [
        | inl is ↦
            ap (far d) is ∙ at_a
            ∙ sym (far-other (with_far c a v) b e u hb_then.node nb ∙ ap (far (with_far c a v)) is ∙ far-same c a v ha)
        | inr na ↦ same.others e na nb ∙ sym (made.others e na nb)
      ]
    ])

-- an end that is there in the new cabling was there
pub was-there : (c d : Wiring) (a b e : End) → SameBut c d a b → HasEnd d e → HasEnd c e
was-there c d a b e same h = record {
  node = omega (arith, h.node, same_length c d same.ports);
  port = omega (arith, h.port, same_ports c d e.node same.ports);
}

pub added-is : (c d : Wiring) (a b : End) → Added c d a b → d ≡ put b (Some a) (put a (Some b) c)
added-is c d a b h =
    written c d a b (Some b) (Some a) (was-there c d a b a h.others (plugged d a b h.joined)) (was-there c d a b b h.others (plugged d b a h.back))
    h.others h.joined h.back

pub taken-is : (c d : Wiring) (a b : End) → IsCabling c → TakenOut c d a b →
    d ≡ put b None (put a None c)
taken-is c d a b is h =
    written c d a b None None (plugged c a b h.joined) (plugged c b a (is.both_ways a b h.joined)) h.others h.free_a h.free_b

-- ---- a node at an end

pub node-ready :
    (w : CableWorld) (end : End) (far_is : Option End) → IsWellFormed w → HasEnd w.cabling end → far w.cabling end ≡ far_is →
    (x : PortNode) × (slice_get w.nodes end.node ≡ Some x) × (end.port < x.state.ports)
    × (is_connected x.state.view.ports end.port ≡ is_some far_is)
node-ready w end far_is f has there = elim (slice_get_cases w.nodes end.node).1 [
  | inl at ↦
      let fits = f.nodes end.node at.0 at.2 in
      (at.0, at.2, omega (arith, has.port, fits.ports), fits.connected end.port ∙ ap is_some there)
  | inr past ↦ absurd (omega (arith, past.0, has.node, f.count))
]

pub is-there : (nodes : List PortNode) (k : ℕ) → k < length nodes → IsSomeAnd (slice_get nodes k) (λ x. Unit {0})
is-there nodes k inside = elim (slice_get_cases nodes k).1 [
  | inl at ↦ some-at _ at.0 _ at.2 tt
  | inr past ↦ absurd (omega (arith, past.0, inside))
]

-- ---- rows stay as long

step-long : (k : ℕ) (step : PortNode → NodeStep) (w : CableWorld) →
    map length (with_step k step w).wires ≡ map length w.wires
step-long k step w = go (slice_get w.nodes k)
  where
    go : (o : Option PortNode) → map length (step_at o k step w).wires ≡ map length w.wires
    go None = refl
    go (Some x) =
        let row = slice_index_or w.wires k [] in
        map-set_same length w.wires k (wires_after_sends 0 (step x).sends row) [] (sent-length 0 (step x).sends row)

pub note-long : (k : ℕ) (step : PortNode → NodeStep) (w : CableWorld) →
    map length (note_step k step w).wires ≡ map length w.wires
note-long k step w = step-long k step w

pub both-long :
    (j k : ℕ) (r s : PortNode → NodeStep) (w : CableWorld) → map length (note_both j r k s w).wires ≡ map length w.wires
both-long j k r s w = step-long k s (with_step j r w) ∙ step-long j r w

pub cleared-long : (rows : List (List Wire)) (a b : End) →
    map length (put b empty_wire (put a empty_wire rows)) ≡ map length rows
cleared-long rows a b = put-long (put a empty_wire rows) b empty_wire ∙ put-long rows a empty_wire

-- ---- what comes of an act

pub plug-done :
    (w v : CableWorld) (a b : End) (c : Wiring) (cleared : List (List Wire)) → c ≡ put b (Some a) (put a (Some b) w.cabling) →
    cleared ≡ put b empty_wire (put a empty_wire w.wires) →
    v ≡ note_both a.node (node_plugged a.port) b.node (node_plugged b.port) (record w { cabling = c; wires = cleared }) →
    v ≡ note_changes w (plug a b w)
plug-done w v a b c cleared cables rows e =
    e
    ∙ ap (λ k. note_both a.node (node_plugged a.port) b.node (node_plugged b.port) (record w { cabling = k; wires = cleared })) cables
    ∙ ap (λ r. note_both a.node (node_plugged a.port) b.node (node_plugged b.port)
    (record w { cabling = put b (Some a) (put a (Some b) w.cabling); wires = r })) rows

pub pull-done :
    (w v : CableWorld) (a b : End) (c : Wiring) (cleared : List (List Wire)) → far w.cabling a ≡ Some b → c ≡ put b None (put a None w.cabling) →
    cleared ≡ put b empty_wire (put a empty_wire w.wires) →
    v ≡ note_both a.node (node_pulled a.port) b.node (node_pulled b.port) (record w { cabling = c; wires = cleared }) →
    v ≡ note_changes w (pull a w)
pull-done w v a b c cleared joined cables rows e =
    e
    ∙ ap (λ k. note_both a.node (node_pulled a.port) b.node (node_pulled b.port) (record w { cabling = k; wires = cleared })) cables
    ∙ ap (λ r. note_both a.node (node_pulled a.port) b.node (node_pulled b.port)
    (record w { cabling = put b None (put a None w.cabling); wires = r })) rows
    ∙ sym (ap (λ o. note_changes w (pull_from a o w)) joined)

pub config-done :
    (w v : CableWorld) (set : NodeSet) (from : ℕ) (p : ConfigPacket) (told : List PortNode) →
    told ≡ change_in_set set (node_set_config p) 0 w.nodes → v ≡ note_step from node_disturb (record w { nodes = told }) →
    v ≡ note_changes w (configure set from p w)
config-done w v set from p told is e =
    let u : CableWorld = configure set from p w in
    e ∙ ap (λ nodes. note_step from node_disturb (record w { nodes = nodes })) is
    ∙ ap (λ q. record u { changed = q }) (told-lists set p w.turns 0 w.nodes u.nodes w.changed)

-- ---- how an act ends

pub is-inside : (k : ℕ) (w : CableWorld) → k < length w.nodes → node_fault k w ≡ None
is-inside k w inside = rw (lt-ltb k (length w.nodes) inside) refl

pub ends-of :
    {A : Type 0} → (act is : Act) (w v : ℕ → Timing → CableWorld) (same kept : Type 0) (r : Result A ActStop) → act ≡ is → (same → kept) → ActEnds is w v same r →
    ActEnds act w v kept r
ends-of {A = A} act is w v same kept r e f h = subst (λ (a : Act). ActEnds a w v kept r) (sym e) (go r h)
  where
    go : (o : Result A ActStop) → ActEnds is w v same o → ActEnds is w v kept o
    go (Ok x) h = h
    go (Err (Fault fault)) h = (f h.0, h.1)
    go (Err (Memory none)) h = h

module _ {A : Type 0} (act : Act) (w v : ℕ → Timing → CableWorld) (same : Type 0) where
  pub ends-done : (r : Result A ActStop) → ActEnds act w v same r → OnOk r ((d : ℕ) (t : Timing) → ActLeads act (w d t) (v d t))
  ends-done (Ok x) h = λ d t. (h d t).leads
  ends-done (Err stop) h = tt

  pub ends-accepted : (r : Result A ActStop) → ActEnds act w v same r → OnOk r ((d : ℕ) (t : Timing) → act_fault act (w d t) ≡ None)
  ends-accepted (Ok x) h = λ d t. (h d t).accepted
  ends-accepted (Err stop) h = tt

  pub ends-rows : (r : Result A ActStop) → ActEnds act w v same r → OnOk r (map length (v 0 (usual_timing 0)).wires ≡ map length (w 0 (usual_timing 0)).wires)
  ends-rows (Ok x) h = (h 0 (usual_timing 0)).rows
  ends-rows (Err stop) h = tt

  pub ends-refused : (r : Result A ActStop) → ActEnds act w v same r → IfFault r (λ f. (d : ℕ) (t : Timing) → act_fault act (w d t) ≡ Some f)
  ends-refused (Ok x) h = tt
  ends-refused (Err (Fault fault)) h = h.1
  ends-refused (Err (Memory none)) h = tt

  pub ends-same : (r : Result A ActStop) → ActEnds act w v same r → IfFault r (λ f. same)
  ends-same (Ok x) h = tt
  ends-same (Err (Fault fault)) h = h.0
  ends-same (Err (Memory none)) h = tt

  pub ends-memory : (r : Result A ActStop) → ActEnds act w v same r → IsMemory r → (d : ℕ) (t : Timing) → act_fault act (w d t) ≡ None
  ends-memory (Ok x) h is = absurd is
  ends-memory (Err (Fault fault)) h is = absurd is
  ends-memory (Err (Memory none)) h is = h
