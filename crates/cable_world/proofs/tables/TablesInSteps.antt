-- What one step of a node keeps of a well-formed world, also while a cable is being plugged or
-- pulled.
use Rattle.std.proofs.Common.{◌≡◌, ◌≢◌, ℕ, zero, suc, ◌+◌, ◌-◌, ◌<◌, ◌≤◌, ◌==◌, ◌⊎◌, inl, inr, Bool, true, false, List, [], ◌∷◌, Option, Some, None, length, length-set, is_some, slice_get, slice_set, slice_index_or, if◌then◌else◌, refl, subst, sym, ◌∙◌, ap, arith}
use Rattle.std.proofs.lemmas.Bool.{cases_eq, cases_lt, eqb-true, eqb-false}
use Rattle.std.proofs.lemmas.List.{get_or-set_same, get_or-set_other}
use Rattle.std.proofs.lemmas.Option.{slice_get_within}
use Rattle.std.proofs.Math.Seq.{map-set_same}
use Rattle.std.proofs.Math.ListN.{get_or-map, get_or-eq_default}
use Rattle.cabling.specs.declared.cable.End.{End}
use Rattle.cabling.specs.Wiring.{Wiring, IsCabling, HasEnd, far, ports_of}
use Rattle.cabling.proofs.Lemmas.{same_end, far-same, far-other}
use Rattle.port_state.specs.declared.signal.Signal.{Signal}
use Rattle.port_state.specs.declared.states.NodeState.{NodeState}
use Rattle.port_state.specs.Sound.{IsSound}
use Rattle.port_state.specs.Ports.{is_connected}
use Rattle.port_state.specs.Sends.{sent_on}
use Rattle.port_state.specs.Valid.{IsBounded}
use Rattle.port_state.specs.Machine.{PortNode, NodeStep}
use Rattle.cable_world.proofs.turns.ByNumber.{sent-at}
use Rattle.cable_world.proofs.Options.{none-some, some-same}
use Rattle.cable_world.proofs.tables.Shape.{ages-sent, none-sent, silent}
use Rattle.cable_world.specs.Wire.{Wire, empty_wire, add_signals}
use Rattle.cable_world.specs.Times.{Suits}
use Rattle.cable_world.specs.World.{CableWorld, wire_of, put}
use Rattle.cable_world.specs.Turn.{wires_after_sends}
use Rattle.cable_world.specs.Act.{put_step, step_at, with_step}
use Rattle.cable_world.specs.Lawful.{AgesFall, FitsCables, IsWellFormed}

-- ---- a list with one element replaced

pub replaced :
    {A : Type 0} → (xs : List A) (k : ℕ) (a : A) → k < length xs →
    slice_get (slice_set xs k a) k ≡ Some a
replaced [] k a h = absurd (omega arith)
replaced (x ∷ xs) zero a h = refl
replaced (x ∷ xs) (suc k) a h = replaced xs k a (omega arith)

pub not-replaced :
    {A : Type 0} → (xs : List A) (k j : ℕ) (a : A) → j ≢ k →
    slice_get (slice_set xs k a) j ≡ slice_get xs j
not-replaced [] k j a ne = refl
not-replaced (x ∷ xs) zero zero a ne = absurd (ne refl)
not-replaced (x ∷ xs) zero (suc j) a ne = refl
not-replaced (x ∷ xs) (suc k) zero a ne = refl
not-replaced (x ∷ xs) (suc k) (suc j) a ne = not-replaced xs k j a (λ e. ne (ap suc e))

-- ---- a table with one row or one entry replaced

-- no row gets longer or shorter
pub row-lengths :
    {A : Type 0} → (rows : List (List A)) (k : ℕ) (row : List A) →
    length row ≡ length (slice_index_or rows k []) → (j : ℕ) →
    length (slice_index_or (slice_set rows k row) j []) ≡ length (slice_index_or rows j [])
row-lengths rows k row same j =
    sym (get_or-map length (slice_set rows k row) j [])
    ∙ ap (λ (l : List ℕ). slice_index_or l j 0) (map-set_same length rows k row [] same)
    ∙ get_or-map length rows j []

pub put-lengths :
    {A : Type 0} → (rows : List (List A)) (end : End) (a : A) (j : ℕ) →
    length (slice_index_or (put end a rows) j []) ≡ length (slice_index_or rows j [])
put-lengths rows end a j =
    row-lengths rows end.node (slice_set (slice_index_or rows end.node []) end.port a) (length-set (slice_index_or rows end.node []) end.port a) j

abbrev pub entry : {A : Type 0} → A → List (List A) → End → A
entry default rows end = slice_index_or (slice_index_or rows end.node []) end.port default

-- there is this entry
pub record HasEntry {A : Type 0} (rows : List (List A)) (end : End) : Type 0 where
  pub node : end.node < length rows
  pub port : end.port < length (slice_index_or rows end.node [])

pub put-same :
    {A : Type 0} → (default : A) (rows : List (List A)) (end : End) (a : A) → HasEntry rows end →
    entry default (put end a rows) end ≡ a
put-same default rows end a h =
    let row = slice_index_or rows end.node [] in
    ap (λ r. slice_index_or r end.port default) (get_or-set_same rows end.node (slice_set row end.port a) [] h.node)
    ∙ get_or-set_same row end.port a default h.port

pub put-other :
    {A : Type 0} → (default : A) (rows : List (List A)) (end other : End) (a : A) →
    end.node < length rows → other ≢ end →
    entry default (put end a rows) other ≡ entry default rows other
put-other default rows end other a h ne =
    let row = slice_index_or rows end.node [] in
    let new = slice_set row end.port a in
    elim (cases_eq other.node end.node) [
      | inr n ↦ ap (λ r. slice_index_or r other.port default) (get_or-set_other rows end.node other.node new [] n)
      | inl n ↦ rw n (
          ap (λ r. slice_index_or r other.port default) (get_or-set_same rows end.node new [] h)
          ∙ get_or-set_other row end.port other.port a default (λ p. ne (same_end other end n p)))
    ]

-- ---- what is sent onto the wires of one node

pub sent-length :
    (q : ℕ) (sends : List (ℕ × Signal)) (wires : List Wire) →
    length (wires_after_sends q sends wires) ≡ length wires
sent-length q sends [] = refl
sent-length q sends (w ∷ wires) = ap suc (sent-length (q + 1) sends wires)

abbrev wire_at : List Wire → ℕ → Wire
wire_at wires p = slice_index_or wires p empty_wire

-- a wire takes what was sent on its port, or isn't there
sent-or-none :
    (sends : List (ℕ × Signal)) (wires : List Wire) (p : ℕ) →
    (wire_at (wires_after_sends 0 sends wires) p ≡ add_signals (sent_on p sends) (wire_at wires p))
    ⊎ (wire_at (wires_after_sends 0 sends wires) p ≡ wire_at wires p)
sent-or-none sends wires p = elim (cases_lt p (length wires)) [
  | inl less ↦
      let z : 0 + p ≡ p = omega arith in
      inl (sent-at 0 p sends wires less ∙ ap (λ n. add_signals (sent_on n sends) (wire_at wires p)) z)
  | inr more ↦
      let same : length (wires_after_sends 0 sends wires) ≡ length wires = sent-length 0 sends wires in
      let past : length (wires_after_sends 0 sends wires) ≤ p = omega (arith, same, more) in
      inr (get_or-eq_default (wires_after_sends 0 sends wires) empty_wire {n = p} past ∙ sym (get_or-eq_default wires empty_wire {n = p} more))
]

pub sent-ages :
    (most : ℕ) (sends : List (ℕ × Signal)) (wires : List Wire) (p : ℕ) →
    AgesFall most (wire_at wires p).signals →
    AgesFall most (wire_at (wires_after_sends 0 sends wires) p).signals
sent-ages most sends wires p h =
    let Fall : Wire → Type 0 = λ v. AgesFall most v.signals in
    elim (sent-or-none sends wires p) [
      | inl e ↦ subst Fall (sym e) (ages-sent most (wire_at wires p).signals (sent_on p sends) h)
      | inr e ↦ subst Fall (sym e) h
    ]

pub sent-nothing :
    (sends : List (ℕ × Signal)) (wires : List Wire) (p : ℕ) → sent_on p sends ≡ [] →
    wire_at (wires_after_sends 0 sends wires) p ≡ wire_at wires p
sent-nothing sends wires p none = elim (sent-or-none sends wires p) [
  | inl e ↦ e ∙ ap (λ l. add_signals l (wire_at wires p)) none ∙ none-sent (wire_at wires p)
  | inr e ↦ e
]

-- ---- well formed, but that the nodes' ports fit other cables

-- a node fits another world with the same d, as many wires, and cables at the same ports
pub fits-alike :
    (w v : CableWorld) (k : ℕ) (x : NodeState) → v.delay ≡ w.delay → v.longest ≡ w.longest →
    length (ports_of v.cabling k) ≡ length (ports_of w.cabling k) →
    length (slice_index_or v.wires k []) ≡ length (slice_index_or w.wires k []) →
    ((p : ℕ) → far v.cabling (record { node = k; port = p }) ≡ far w.cabling (record { node = k; port = p })) →
    FitsCables w k x → FitsCables v k x
fits-alike w v k x delay longest ports wires cables h = record {
  valid = h.valid;
  timing = subst (λ t. Suits v.delay t x.timing) (sym longest) (subst (λ d. Suits d w.longest x.timing) (sym delay) h.timing);
  ports = ports ∙ h.ports;
  wires = wires ∙ h.wires;
  connected = λ p. h.connected p ∙ sym (ap is_some (cables p));
}

abbrev pub cabled : Wiring → CableWorld → CableWorld
cabled c w = record w { cabling = c }

-- the world is well formed, but its nodes fit these cables, where a cable is being plugged or
-- pulled
pub record FormedFor (c : Wiring) (w : CableWorld) : Type 0 where
  pub some_delay : 1 ≤ w.delay
  pub cabling : IsCabling w.cabling
  pub count : length w.nodes ≡ length w.cabling
  pub wire_rows : length w.wires ≡ length w.cabling
  pub changes : length w.changed ≡ length w.cabling
  pub nodes :
      (k : ℕ) (x : PortNode) → slice_get w.nodes k ≡ Some x → FitsCables (cabled c w) k x.state
  pub ages : (a : End) → AgesFall (w.delay - 1) (wire_of w a).signals
  pub unplugged : (a : End) → far w.cabling a ≡ None → wire_of w a ≡ empty_wire

pub formed-for : (w : CableWorld) → IsWellFormed w → FormedFor w.cabling w
formed-for w h = record {
  some_delay = h.some_delay;
  cabling = h.cabling;
  count = h.count;
  wire_rows = h.wire_rows;
  changes = h.changes;
  nodes = h.nodes;
  ages = h.ages;
  unplugged = h.unplugged;
}

pub well-formed : (c : Wiring) (w : CableWorld) → w.cabling ≡ c → FormedFor c w → IsWellFormed w
well-formed c w is h = record {
  some_delay = h.some_delay;
  cabling = h.cabling;
  count = h.count;
  wire_rows = h.wire_rows;
  changes = h.changes;
  nodes = λ k x e. subst (λ (b : Wiring). FitsCables (cabled b w) k x.state) (sym is) (h.nodes k x e);
  ages = h.ages;
  unplugged = h.unplugged;
}

-- ---- a step

pub step-cables :
    (k : ℕ) (step : PortNode → NodeStep) (w : CableWorld) → (with_step k step w).cabling ≡ w.cabling
step-cables k step w = go (slice_get w.nodes k)
  where
    go : (o : Option PortNode) → (step_at o k step w).cabling ≡ w.cabling
    go None = refl
    go (Some x) = refl

-- what a step of node number k, which is x, has to do, so that the node then fits these cables
pub record StepFits (c : Wiring) (w : CableWorld) (k : ℕ) (x : PortNode) (s : NodeStep) : Type 0 where
  pub sound : IsSound x.state (record { state = s.node.state; sends = s.sends })
  pub connected :
      (p : ℕ) →
      is_connected s.node.state.view.ports p ≡ is_some (far c (record { node = k; port = p }))
  -- what the node takes for a cable is one of the world's
  pub within :
      (p : ℕ) → far w.cabling (record { node = k; port = p }) ≡ None →
      far c (record { node = k; port = p }) ≡ None

stepped-formed :
    (c d : Wiring) (k : ℕ) (x : PortNode) (s : NodeStep) (w : CableWorld) → FormedFor c w →
    ((j : ℕ) → length (ports_of d j) ≡ length (ports_of c j)) →
    ((e : End) → e.node ≢ k → far d e ≡ far c e) → slice_get w.nodes k ≡ Some x →
    StepFits d w k x s → FormedFor d (put_step k s w)
stepped-formed c d k x s w h lengths others at f =
    let v = put_step k s w in
    let wires = slice_index_or w.wires k [] in
    let sent = wires_after_sends 0 s.sends wires in
    let inside : k < length w.nodes = slice_get_within w.nodes k x at in
    let has-row : k < length w.wires = omega (arith, inside, h.count, h.wire_rows) in
    let row-same : (j : ℕ) → length (slice_index_or v.wires j []) ≡ length (slice_index_or w.wires j []) = row-lengths w.wires k sent (sent-length 0 s.sends wires) in
    let here : slice_index_or v.wires k [] ≡ sent = get_or-set_same w.wires k sent [] has-row in
    let elsewhere : (j : ℕ) → j ≢ k → slice_index_or v.wires j [] ≡ slice_index_or w.wires j [] = λ j ne. get_or-set_other w.wires k j sent [] ne in
    let own : FitsCables (cabled c w) k x.state = h.nodes k x at in
    let new : FitsCables (cabled d v) k s.node.state = record {
      valid = f.sound.valid;
      timing = subst (Suits w.delay w.longest) (sym f.sound.timing) own.timing;
      ports = lengths k ∙ own.ports ∙ sym f.sound.ports;
      wires = row-same k ∙ own.wires ∙ sym f.sound.ports;
      connected = f.connected;
    } in
    let end-at : ℕ → End = λ p. record { node = k; port = p } in
    let is-at : (a : End) → a.node ≡ k → a ≡ end-at a.port = λ a n. same_end a (end-at a.port) n refl in
    record {
      some_delay = h.some_delay;
      cabling = h.cabling;
      count = length-set w.nodes k s.node ∙ h.count;
      wire_rows = length-set w.wires k sent ∙ h.wire_rows;
      changes = h.changes;
      nodes = λ j y e. elim (cases_eq j k) [
        | inl same ↦
            let e-here : slice_get v.nodes k ≡ Some y = subst (λ i. slice_get v.nodes i ≡ Some y) same e in
            let is : s.node ≡ y = some-same s.node y (sym (replaced w.nodes k s.node inside) ∙ e-here) in
            subst (λ i. FitsCables (cabled d v) i y.state) (sym same) (subst (λ (z : PortNode). FitsCables (cabled d v) k z.state) is new)
        | inr ne ↦
            fits-alike (cabled c w) (cabled d v) j y.state refl refl (lengths j) (row-same j) (λ p. others (record { node = j; port = p }) ne) (h.nodes j y (sym (not-replaced w.nodes k j s.node ne) ∙ e))
      ];
      ages = λ a. elim (cases_eq a.node k) [
        | inl n ↦
            subst (λ (e : End). AgesFall (w.delay - 1) (wire_of v e).signals) (sym (is-at a n))
            (subst (λ (row : List Wire). AgesFall (w.delay - 1) (wire_at row a.port).signals) (sym here)
            (sent-ages (w.delay - 1) s.sends wires a.port (h.ages (end-at a.port))))
        | inr ne ↦ subst (λ (row : List Wire). AgesFall (w.delay - 1) (wire_at row a.port).signals) (sym (elsewhere a.node ne)) (h.ages a)
      ];
      unplugged = λ a none. elim (cases_eq a.node k) [
        | inl n ↦
            let none-at : far w.cabling (end-at a.port) ≡ None = sym (ap (far w.cabling) (is-at a n)) ∙ none in
            let free : is_connected s.node.state.view.ports a.port ≡ false = f.connected a.port ∙ ap is_some (f.within a.port none-at) in
            ap (wire_of v) (is-at a n)
            ∙ ap (λ row. wire_at row a.port) here
            ∙ sent-nothing s.sends wires a.port (silent s.node.state.view.ports s.sends a.port f.sound.connected free)
            ∙ h.unplugged (end-at a.port) none-at
        | inr ne ↦ ap (λ row. wire_at row a.port) (elsewhere a.node ne) ∙ h.unplugged a none
      ];
    }

-- the node of this number does a step, after which its ports fit these cables
pub step-formed :
    (c d : Wiring) (k : ℕ) (step : PortNode → NodeStep) (w : CableWorld) → FormedFor c w →
    ((j : ℕ) → length (ports_of d j) ≡ length (ports_of c j)) →
    ((e : End) → e.node ≢ k → far d e ≡ far c e) →
    ((x : PortNode) → slice_get w.nodes k ≡ Some x → StepFits d w k x (step x)) →
    FormedFor d (with_step k step w)
step-formed c d k step w h lengths others f = go (slice_get w.nodes k) refl
  where
    go : (o : Option PortNode) → slice_get w.nodes k ≡ o → FormedFor d (step_at o k step w)
    go (Some x) at = stepped-formed c d k x (step x) w h lengths others at (f x at)
    go None at = record {
      some_delay = h.some_delay;
      cabling = h.cabling;
      count = h.count;
      wire_rows = h.wire_rows;
      changes = h.changes;
      nodes = λ j x e.
          let ne : j ≢ k = λ same. none-some (slice_get w.nodes k) x at (subst (λ i. slice_get w.nodes i ≡ Some x) same e) in
          fits-alike (cabled c w) (cabled d w) j x.state refl refl (lengths j) refl (λ p. others (record { node = j; port = p }) ne) (h.nodes j x e);
      ages = h.ages;
      unplugged = h.unplugged;
    }

-- a step that says of one port whether it has a cable
pub record Sets (port : ℕ) (on : Bool) (step : PortNode → NodeStep) : Type 0 where
  pub sound :
      (x : PortNode) → IsBounded x.state →
      IsSound x.state (record { state = (step x).node.state; sends = (step x).sends })
  pub connected :
      (x : PortNode) (p : ℕ) → port < length x.state.view.ports →
      is_connected (step x).node.state.view.ports p
      ≡ (if p == port then on else is_connected x.state.view.ports p)

-- the port then tells of the cable that was put at its end
set-there :
    (c : Wiring) (a : End) (v : Option End) (p : ℕ) (old : Bool) → HasEnd c a →
    old ≡ is_some (far c (record { node = a.node; port = p })) → (b : Bool) → (p == a.port) ≡ b →
    (if b then is_some v else old) ≡ is_some (far (put a v c) (record { node = a.node; port = p }))
set-there c a v p old has was true e =
    sym (ap (λ n. is_some (far (put a v c) (record { node = a.node; port = n }))) (eqb-true p a.port e) ∙ ap is_some (far-same c a v has))
set-there c a v p old has was false e =
    was ∙ sym (ap is_some (far-other c a (record { node = a.node; port = p }) v has.node (λ same. eqb-false p a.port e (ap (λ (z : End). z.port) same))))

-- the node at an end does such a step
pub setting-formed :
    (c : Wiring) (a : End) (v : Option End) (step : PortNode → NodeStep) (w : CableWorld) →
    FormedFor c w → HasEnd c a → Sets a.port (is_some v) step →
    ((p : ℕ) → far w.cabling (record { node = a.node; port = p }) ≡ None → far (put a v c) (record { node = a.node; port = p }) ≡ None) →
    FormedFor (put a v c) (with_step a.node step w)
setting-formed c a v step w h has sets within =
    step-formed c (put a v c) a.node step w h (put-lengths c a v) (λ e ne. far-other c a e v has.node (λ same. ne (ap (λ (z : End). z.node) same))) (λ x at.
    let own : FitsCables (cabled c w) a.node x.state = h.nodes a.node x at in
    let inside : a.port < length x.state.view.ports = omega (arith, has.port, own.ports, own.valid.bounded.views) in
    record {
      sound = sets.sound x own.valid.bounded;
      connected = λ p. sets.connected x p inside ∙ set-there c a v p (is_connected x.state.view.ports p) has (own.connected p) (p == a.port) refl;
      within = within;
    })
