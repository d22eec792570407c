-- What happens between two turns: to each node, and to each end of a cable.
use Rattle.std.proofs.Common.{◌≡◌, ◌≢◌, ℕ, ◌⊎◌, inl, inr, List, [], ◌∷◌, ◌++◌, Option, Some, None, slice_get, slice_set, refl, subst, sym, ◌∙◌, ap}
use Rattle.std.proofs.lemmas.Bool.{cases_eq}
use Rattle.std.proofs.lemmas.Option.{slice_get_within}
use Rattle.cabling.specs.declared.cable.End.{End}
use Rattle.cabling.specs.Wiring.{Wiring, far}
use Rattle.cabling.specs.Change.{plug_fault}
use Rattle.cabling.proofs.Lemmas.{same_end, cases_end, plugged as has-end}
use Rattle.port_state.specs.declared.signal.Signal.TheVariants as signal
use Rattle.port_state.specs.Config.{ConfigPacket, config_packet}
use Rattle.port_state.specs.Machine.{PortNode, NodeStep, node_disturb, node_plugged, node_pulled, node_set_config}
use Rattle.cable_world.specs.declared.act.Act.{Act}
use Rattle.cable_world.specs.declared.act.Act.TheVariants.{Plug, Pull, Reset, Config}
use Rattle.cable_world.specs.Wire.{Travelling, Wire, new_signal}
use Rattle.cable_world.specs.World.{CableWorld, wire_of}
use Rattle.cable_world.specs.Act.{step_at, with_step, plug, pull_from, reset, change_in_set, note_changes, Acted, hold, hold_fault}
use Rattle.cable_world.specs.Lawful.{IsWellFormed}
use Rattle.cable_world.proofs.levels.LastHeard.{shown_if_there}
use Rattle.cable_world.proofs.Options.{some-same, none-some}
use Rattle.cable_world.proofs.tables.TablesInSteps.{replaced, step-cables}
use Rattle.cable_world.proofs.tables.TablesInActs.{recabled, others-alone, plug-formed, pull-formed, reset-formed, as_before, altered, was, told-formed, hold-formed}
use Rattle.cable_world.specs.Wire.{empty_wire}
use Rattle.cable_world.proofs.acts.Cabled.{Cabled, with_cable, without_cable, plug-cabled, pull-cabled}
use Rattle.cable_world.proofs.acts.ResettingSteps.{shown_of_node, shown_at_end, HasBegun, Resets, resets-disturb, resets-plugged, resets-pulled, other_than, Untouched, untouched, same-wire, still-there, step-reset, step-shown}
use Rattle.cable_world.proofs.tables.CableEnds.{CableEnd, cable-end}
use Rattle.cable_world.proofs.tables.TablesInActs.{has-wire, has-cable}
use Rattle.cable_world.proofs.tables.TablesInSteps.{HasEntry, put-same, put-other}

-- ---- what happens between two turns to the end of a cable

-- its node entered R0, and sent Reset
pub record Entered (w v : CableWorld) (a b : End) (x : PortNode) : Type 0 where
  pub begun : HasBegun x.state
  pub last : (ts : List Travelling) × ((wire_of v a).signals ≡ ts ++ new_signal signal.Reset ∷ [])
  -- behind what was under way, if the cable was there
  pub signals :
      far w.cabling a ≡ Some b →
      (wire_of v a).signals ≡ (wire_of w a).signals ++ new_signal signal.Reset ∷ []

-- or all is as it was
pub record Stayed (w v : CableWorld) (a b : End) (x : PortNode) : Type 0 where
  pub node : slice_get w.nodes a.node ≡ Some x
  pub signals : (wire_of v a).signals ≡ (wire_of w a).signals
  pub cable : far w.cabling a ≡ Some b

-- what happens to all nodes, and to the ends of all cables; where a cable stays, its ports show
-- what they did
pub record Happens (w v : CableWorld) : Type 0 where
  pub delay : v.delay ≡ w.delay
  pub before : IsWellFormed w
  pub after : IsWellFormed v
  pub nodes :
      (k : ℕ) (x : PortNode) → slice_get v.nodes k ≡ Some x →
      HasBegun x.state ⊎ (slice_get w.nodes k ≡ Some x)
  pub ends :
      (a b : End) (x : PortNode) → far v.cabling a ≡ Some b → slice_get v.nodes a.node ≡ Some x →
      Entered w v a b x ⊎ Stayed w v a b x
  pub shows :
      (a b : End) → far w.cabling a ≡ Some b → far v.cabling a ≡ Some b →
      shown_at_end v a ≡ shown_at_end w a

-- what an end shows, said of its node
pub shown-is :
    (w : CableWorld) (a : End) (x : PortNode) → slice_get w.nodes a.node ≡ Some x →
    shown_at_end w a ≡ shown_if_there x.state a.port
shown-is w a x at = ap (λ o. shown_of_node o a.port) at

-- ---- hold

-- the signals under way are the same
pub hold-signals :
    (end : End) (turns : ℕ) (w : CableWorld) → hold_fault end w ≡ None → IsWellFormed w →
    (a : End) → (wire_of (hold end turns w) a).signals ≡ (wire_of w a).signals
hold-signals end turns w none f a =
    let v = hold end turns w in
    let held : Wire = record (wire_of w end) { held = turns } in
    let cable = has-cable w.cabling end none in
    let there : HasEntry w.wires end = has-wire w end f (has-end w.cabling end cable.0 cable.1) in
    elim (cases_end a end) [
      | inl is ↦ ap (λ (u : Wire). u.signals) (ap (wire_of v) is ∙ put-same empty_wire w.wires end held there) ∙ ap (λ (z : End). (wire_of w z).signals) (sym is)
      | inr ne ↦ ap (λ (u : Wire). u.signals) (put-other empty_wire w.wires end a held there.node ne)
    ]

pub hold-happens :
    (end : End) (turns : ℕ) (w : CableWorld) → hold_fault end w ≡ None → IsWellFormed w →
    Happens w (hold end turns w)
hold-happens end turns w none f = record {
  delay = refl;
  before = f;
  after = hold-formed end turns w none f;
  nodes = λ k x at. inr at;
  ends = λ a b x e at. inr (record { node = at; signals = hold-signals end turns w none f a; cable = e });
  shows = λ a b e u. refl;
}

-- ---- a step that resets the bus

step-delay :
    (k : ℕ) (step : PortNode → NodeStep) (w : CableWorld) → (with_step k step w).delay ≡ w.delay
step-delay k step w = go (slice_get w.nodes k)
  where
    go : (o : Option PortNode) → (step_at o k step w).delay ≡ w.delay
    go None = refl
    go (Some x) = refl

step-begins :
    (P : ℕ → Type 0) (k : ℕ) (step : PortNode → NodeStep) (w : CableWorld) (x : PortNode) →
    Resets P step → slice_get (with_step k step w).nodes k ≡ Some x → HasBegun x.state
step-begins P k step w x s = go (slice_get w.nodes k) refl
  where
    go :
        (o : Option PortNode) → slice_get w.nodes k ≡ o →
        slice_get (step_at o k step w).nodes k ≡ Some x → HasBegun x.state
    go None at e = absurd (none-some (slice_get w.nodes k) x at e)
    go (Some y) at e =
        let now : slice_get (slice_set w.nodes k (step y).node) k ≡ Some (step y).node = replaced w.nodes k (step y).node (slice_get_within w.nodes k y at) in
        subst (λ (z : PortNode). HasBegun z.state) (some-same (step y).node x (sym now ∙ e)) (s.begins y)

-- what held of all nodes, compared with a first world, holds after the step
step-nodes :
    (P : ℕ → Type 0) (k : ℕ) (step : PortNode → NodeStep) (first w : CableWorld) → Resets P step →
    ((j : ℕ) (x : PortNode) → slice_get w.nodes j ≡ Some x → HasBegun x.state ⊎ (slice_get first.nodes j ≡ Some x)) →
    (j : ℕ) (x : PortNode) → slice_get (with_step k step w).nodes j ≡ Some x →
    HasBegun x.state ⊎ (slice_get first.nodes j ≡ Some x)
step-nodes P k step first w s h j x at = elim (cases_eq j k) [
  | inl n ↦ inl (step-begins P k step w x s (subst (λ (i : ℕ). slice_get (with_step k step w).nodes i ≡ Some x) n at))
  | inr ne ↦ h j x (sym (untouched k step w j ne).node ∙ at)
]

-- and so does what held of an end
step-end :
    (P : ℕ → Type 0) (k : ℕ) (step : PortNode → NodeStep) (first w : CableWorld) (a b : End) (x : PortNode) →
    Resets P step → CableEnd (with_step k step w) a →
    slice_get (with_step k step w).nodes a.node ≡ Some x →
    (a.node ≡ k → far first.cabling a ≡ Some b → (wire_of w a).signals ≡ (wire_of first a).signals) →
    (a.node ≢ k → slice_get w.nodes a.node ≡ Some x → Entered first w a b x ⊎ Stayed first w a b x) →
    Entered first (with_step k step w) a b x ⊎ Stayed first (with_step k step w) a b x
step-end P k step first w a b x s on at own other =
    let v = with_step k step w in
    elim (cases_eq a.node k) [
      | inl n ↦ inl (record {
        begun = step-begins P k step w x s (subst (λ (i : ℕ). slice_get v.nodes i ≡ Some x) n at);
        last = ((wire_of w a).signals, step-reset P k step w a s n on);
        signals = λ e. step-reset P k step w a s n on ∙ ap (λ ts. ts ++ new_signal signal.Reset ∷ []) (own n e);
      })
      | inr ne ↦
          let u : Untouched w v a.node = untouched k step w a.node ne in
          let wire : (wire_of v a).signals ≡ (wire_of w a).signals = ap (λ (z : Wire). z.signals) (same-wire w v a u) in
          elim (other ne (sym u.node ∙ at)) [
            | inl o ↦ inl (record { begun = o.begun; last = (o.last.0, wire ∙ o.last.1); signals = λ e. wire ∙ o.signals e })
            | inr o ↦ inr (record { node = o.node; signals = wire ∙ o.signals; cable = o.cable })
          ]
    ]

-- ---- resets

reset-happens :
    (node : ℕ) (w : CableWorld) → IsWellFormed w → IsWellFormed (reset node w) →
    Happens w (reset node w)
reset-happens node w f g =
    let v = reset node w in
    let All : ℕ → Type 0 = λ k. Unit {0} in
    let cables : v.cabling ≡ w.cabling = step-cables node node_disturb w in
    record {
      delay = step-delay node node_disturb w;
      before = f;
      after = g;
      nodes = step-nodes All node node_disturb w w resets-disturb (λ k x at. inr at);
      ends = λ a b x e at.
          step-end All node node_disturb w w a b x resets-disturb (cable-end v a b g e) at (λ n was. refl)
          (λ ne was. inr (record { node = was; signals = refl; cable = sym (ap (λ (c : Wiring). far c a) cables) ∙ e }));
      shows = λ a b e u. step-shown All node node_disturb w a resets-disturb (λ n. tt);
    }

-- ---- plugging and pulling

both-happen :
    (a b : End) (f g : PortNode → NodeStep) (c : Wiring) (w : CableWorld) →
    Resets (other_than a.port) f → Resets (other_than b.port) g → Cabled w.cabling c a b →
    IsWellFormed w → IsWellFormed (with_step b.node g (with_step a.node f (recabled c a b w))) →
    Happens w (with_step b.node g (with_step a.node f (recabled c a b w)))
both-happen a b f g c w resets-f resets-g k old new =
    let A = other_than a.port in
    let B = other_than b.port in
    let start = recabled c a b w in
    let next = with_step a.node f start in
    let last = with_step b.node g next in
    let cables : last.cabling ≡ c = step-cables b.node g next ∙ step-cables a.node f start in
    let now : (x y : End) → far last.cabling x ≡ Some y → far c x ≡ Some y = λ x y e. ap (λ (d : Wiring). far d x) (sym cables) ∙ e in
    let not-a : (x y : End) → far w.cabling x ≡ Some y → far last.cabling x ≡ Some y → x ≢ a =
    λ x y was e is. k.once_a y (subst (λ (z : End). far w.cabling z ≡ Some y) is was) (subst (λ (z : End). far c z ≡ Some y) is (now x y e)) in
    let not-b : (x y : End) → far w.cabling x ≡ Some y → far last.cabling x ≡ Some y → x ≢ b =
    λ x y was e is. k.once_b y (subst (λ (z : End). far w.cabling z ≡ Some y) is was) (subst (λ (z : End). far c z ≡ Some y) is (now x y e)) in
    let wire : (x : End) → x ≢ a → x ≢ b → (wire_of start x).signals ≡ (wire_of w x).signals =
    λ x na nb. ap (λ (u : Wire). u.signals) (others-alone c a b w old k.has_a k.has_b x na nb) in
    let by-node : (x e : End) → x.node ≢ e.node → x ≢ e = λ x e ne is. ne (ap (λ (z : End). z.node) is) in
    record {
      delay = step-delay b.node g next ∙ step-delay a.node f start;
      before = old;
      after = new;
      nodes = step-nodes B b.node g w next resets-g (step-nodes A a.node f w start resets-f (λ k x at. inr at));
      ends = λ x y z e at.
          let on : CableEnd last x = cable-end last x y new e in
          step-end B b.node g w next x y z resets-g on at
          (λ n was.
          let ne : x.node ≢ a.node = λ is. k.apart (sym is ∙ n) in
          ap (λ (u : Wire). u.signals) (same-wire start next x (untouched a.node f start x.node ne)) ∙ wire x (not-a x y was e) (not-b x y was e))
          (λ nb at_next.
          step-end A a.node f w start x y z resets-f (still-there next last x (untouched b.node g next x.node nb) on) at_next
          (λ n was. wire x (not-a x y was e) (not-b x y was e))
          (λ na at_start. inr (record {
            node = at_start;
            signals = wire x (by-node x a na) (by-node x b nb);
            cable = sym (k.others.others x (by-node x a na) (by-node x b nb)) ∙ now x y e;
          })));
      shows = λ x y was e.
          step-shown B b.node g next x resets-g (λ n p. not-b x y was e (same_end x b n p))
          ∙ step-shown A a.node f start x resets-f (λ n p. not-a x y was e (same_end x a n p));
    }

plug-happens :
    (a b : End) (w : CableWorld) → plug_fault w.cabling a b ≡ None → IsWellFormed w →
    Happens w (plug a b w)
plug-happens a b w none f =
    both-happen a b (node_plugged a.port) (node_plugged b.port) (with_cable a b w.cabling) w (resets-plugged a.port) (resets-plugged b.port) (plug-cabled a b w.cabling none) f (plug-formed a b w none f)

-- nothing happens
nothing : (w : CableWorld) → IsWellFormed w → Happens w w
nothing w f = record {
  delay = refl;
  before = f;
  after = f;
  nodes = λ k x at. inr at;
  ends = λ a b x e at. inr (record { node = at; signals = refl; cable = e });
  shows = λ a b e u. refl;
}

pull-happens :
    (a : End) (o : Option End) (w : CableWorld) → far w.cabling a ≡ o → IsWellFormed w →
    Happens w (pull_from a o w)
pull-happens a None w at f = nothing w f
pull-happens a (Some b) w at f =
    both-happen a b (node_pulled a.port) (node_pulled b.port) (without_cable a b w.cabling) w (resets-pulled a.port) (resets-pulled b.port) (pull-cabled a b w.cabling f.cabling at) f (pull-formed a (Some b) w at f)

-- ---- configuration packets

-- what a change of a node keeps holds after a change of some nodes
pub each-kept :
    (set : ℕ) (change : PortNode → PortNode) (nodes : List PortNode) (k : ℕ) (P : PortNode → Type 0) →
    ((x : PortNode) → P x → P (change x)) → ((x : PortNode) → slice_get nodes k ≡ Some x → P x) →
    (x : PortNode) → slice_get (change_in_set set change 0 nodes) k ≡ Some x → P x
each-kept set change nodes k P keeps h x at = elim (was set change 0 nodes k x at) [
  | as_before e ↦ h x e
  | altered y e is ↦ subst P is (keeps y (h y e))
]

-- ---- every act

-- An act is noted last. Before that it happens to the world, or to the world in which some nodes
-- heard a packet.
pub record Acting (w v : CableWorld) : Type 0 where
  pub told : CableWorld
  pub hears :
      (told ≡ w)
      ⊎ ((set : ℕ) × (packet : ConfigPacket) × (told ≡ record w { nodes = change_in_set set (node_set_config packet) 0 w.nodes }))
  pub done : CableWorld
  pub happens : Happens told done
  pub is : v ≡ note_changes w done

pub acting :
    (a : Act) (w v : CableWorld) → Acted a w v → IsWellFormed w → Acting w v
acting (Plug a b) w v (is, none, e) f = record { told = w; hears = inl refl; done = plug a b w; happens = plug-happens a b w none f; is = e }
acting (Pull end) w v (is, none, e) f = record { told = w; hears = inl refl; done = pull_from end (far w.cabling end) w; happens = pull-happens end (far w.cabling end) w refl f; is = e }
acting (Reset node) w v (is, none, e) f = record { told = w; hears = inl refl; done = reset node w; happens = reset-happens node w f (reset-formed node w f); is = e }
acting (Config from root_id force gap) w v (is, none, e) f =
    let told : CableWorld = record w { nodes = change_in_set e.0 (node_set_config (config_packet root_id force gap)) 0 w.nodes } in
    let formed : IsWellFormed told = told-formed e.0 (config_packet root_id force gap) w is.bits f in
    record { told = told; hears = inr (e.0, config_packet root_id force gap, refl); done = reset from told; happens = reset-happens from told formed (reset-formed from told formed); is = e.2 }
