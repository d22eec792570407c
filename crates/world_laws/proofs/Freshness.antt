-- Acts make components fresh: whoever is reset has just begun, and all others are as they were.
use Rattle.std.proofs.Common.{◌≡◌, ◌≢◌, ◌⊎◌, inl, inr, ℕ, ◌^◌, ◌<◌, false, List, [], ◌∷◌, Some, length, slice_get, refl, sym, ◌∙◌, ap, arith, true≢false}
use Rattle.std.proofs.lemmas.Bool.{cases_eq}
use Rattle.std.proofs.lemmas.Option.{slice_get_cases, slice_get_within}
use Rattle.cabling.specs.NodeSet.{Holds}
use Rattle.cabling.specs.Component.{IsComponent}
use Rattle.cabling.proofs.Lemmas.{shared, small-set}
use Rattle.port_state.specs.declared.signal.Phase.TheVariants.{ResetStart, ResetWait}
use Rattle.port_state.specs.declared.states.NodeState.{NodeState}
use Rattle.port_state.specs.Config.{ConfigPacket}
use Rattle.port_state.specs.Machine.{PortNode, node_set_config}
use Rattle.cable_world.specs.declared.act.Act.{Act}
use Rattle.cable_world.specs.World.{CableWorld, IsPowerOnWorld}
use Rattle.cable_world.specs.Act.{Acted, change_in_set}
use Rattle.cable_world.specs.Run.{acted, ComesOfPowerOn}
use Rattle.cable_world.specs.Events.{Event, acts, holds, turns, Runs, turn_count}
use Rattle.cable_world.specs.Lawful.{IsLawful, IsWellFormed}
use Rattle.cable_world.specs.Phases.{is_in_bus_reset}
use Rattle.cable_world.specs.Fresh.{IsFresh}
use Rattle.cable_world.proofs.Lemmas.{some-of, some-at, some-same, comes-lawful, power-on-comes, event-comes, run-comes, Acting, acting, HasBegun, act-keeps, as_before, altered, was, quiet-comes}
use Rattle.outcomes.specs.Forced.{IsForced, WaitsAlone}
use Rattle.outcomes.proofs.Lemmas.{nodes-there, forced-outcome, done-at-last}
use Rattle.cable_world.specs.Quiet.{quiet_after}
use Rattle.world_laws.specs.Freshness.{IsTouchedIn, PowerOnIsFresh, ActsMakeFresh, ActsMakeFreshOnceSettled, HasOneWaiting, FreshRootsSettle, FirstRootsSettle}
use Rattle.world_laws.proofs.Touched.{Begun, touched-begun}

-- ---- what became of a node before the next turn

-- it has just begun a reset, or is in the phase that it was in, for as long
record SamePhase (w : CableWorld) (k : ℕ) (x : NodeState) : Type 0 where
  node : PortNode
  at : slice_get w.nodes k ≡ Some node
  phase : x.view.phase ≡ node.state.view.phase
  timer : x.view.timer ≡ node.state.view.timer

record Begins (x : NodeState) : Type 0 where
  phase : x.view.phase ≡ ResetStart
  timer : x.view.timer ≡ 0

begins : (x : NodeState) → HasBegun x → Begins x
begins x h = record { phase = h.phase; timer = h.timer }

abbrev Fate : CableWorld → ℕ → NodeState → Type 0
Fate w k x = Begins x ⊎ SamePhase w k x

abbrev Fates : CableWorld → CableWorld → Type 0
Fates w v = (k : ℕ) (x : PortNode) → slice_get v.nodes k ≡ Some x → Fate w k x.state

same-phase :
    (w : CableWorld) (k : ℕ) (x : PortNode) → slice_get w.nodes k ≡ Some x → SamePhase w k x.state
same-phase w k x at = record { node = x; at = at; phase = refl; timer = refl }

told-phase :
    (w : CableWorld) (k : ℕ) (set : ℕ) (packet : ConfigPacket) (x : PortNode) →
    slice_get (change_in_set set (node_set_config packet) 0 w.nodes) k ≡ Some x → SamePhase w k x.state
told-phase w k set packet x at = elim (was set (node_set_config packet) 0 w.nodes k x at) [
  | as_before before ↦ same-phase w k x before
  | altered y before is ↦ record {
    node = y;
    at = before;
    phase = sym (ap (λ (z : PortNode). z.state.view.phase) is);
    timer = sym (ap (λ (z : PortNode). z.state.view.timer) is);
  }
]

act-fates :
    (a : Act) (w v : CableWorld) → Acted a w v → IsWellFormed w → Fates w v
act-fates a w v did f k x at =
    let t : Acting w v = acting a w v did f in
    elim (t.happens.nodes k x (sym (ap (λ (z : CableWorld). slice_get z.nodes k) t.is) ∙ at)) [
      | inl begun ↦ inl (begins x.state begun)
      | inr there ↦ elim t.hears [
        | inl same ↦ inr (same-phase w k x (sym (ap (λ (z : CableWorld). slice_get z.nodes k) same) ∙ there))
        | inr h ↦ inr (told-phase w k h.0 h.1 x (sym (ap (λ (z : CableWorld). slice_get z.nodes k) h.2) ∙ there))
      ]
    ]

then-fates : (w u v : CableWorld) → Fates w u → Fates u v → Fates w v
then-fates w u v first next k x at = elim (next k x at) [
  | inl begun ↦ inl begun
  | inr s ↦ elim (first k s.node s.at) [
    | inl b ↦ inl (record { phase = s.phase ∙ b.phase; timer = s.timer ∙ b.timer })
    | inr r ↦ inr (record { node = r.node; at = r.at; phase = s.phase ∙ r.phase; timer = s.timer ∙ r.timer })
  ]
]

same-fates : (w v : CableWorld) → v.nodes ≡ w.nodes → Fates w v
same-fates w v e k x at = inr (same-phase w k x (sym (ap (λ (ns : List PortNode). slice_get ns k) e) ∙ at))

-- ---- runs

no-turn-first : (events : List Event) → turn_count (turns ∷ events) ≡ 0 → ⊥
no-turn-first events e = omega (arith, e)

run-fates :
    (events : List Event) (w v : CableWorld) → Runs events w v → turn_count events ≡ 0 →
    ComesOfPowerOn w → Fates w v
run-fates [] w v run none r = same-fates w v (ap (λ (z : CableWorld). z.nodes) run)
run-fates (acts a ∷ events) w v run none r =
    then-fates w run.0 v (act-fates a w run.0 run.1 (comes-lawful w r).well_formed)
    (run-fates events run.0 v run.2 none (acted a w run.0 run.1 r))
run-fates (holds end n ∷ events) w v run none r =
    then-fates w run.0 v (same-fates w run.0 (ap (λ (z : CableWorld). z.nodes) run.1.1))
    (run-fates events run.0 v run.2 none (event-comes (holds end n) w run.0 run.1 r))
run-fates (turns ∷ events) w v run none r = absurd (no-turn-first events none)

run-length :
    (events : List Event) (w v : CableWorld) → Runs events w v → turn_count events ≡ 0 →
    length v.nodes ≡ length w.nodes
run-length [] w v run none = ap (λ (z : CableWorld). length z.nodes) run
run-length (acts a ∷ events) w v run none = run-length events run.0 v run.2 none ∙ (act-keeps a w run.0 run.1.2).nodes
run-length (holds end n ∷ events) w v run none = run-length events run.0 v run.2 none ∙ ap (λ (z : CableWorld). length z.nodes) run.1.1
run-length (turns ∷ events) w v run none = absurd (no-turn-first events none)

-- a node of R0 before these events is in R0 after them
record InReset (v : CableWorld) (k : ℕ) : Type 0 where
  node : PortNode
  at : slice_get v.nodes k ≡ Some node
  phase : node.state.view.phase ≡ ResetStart

stays-in-reset :
    (events : List Event) (w v : CableWorld) → Runs events w v → turn_count events ≡ 0 →
    ComesOfPowerOn w → (k : ℕ) → InReset w k → InReset v k
stays-in-reset events w v run none r k i = elim (slice_get_cases v.nodes k).1 [
  | inr lacks ↦ absurd (omega (arith, lacks.0, slice_get_within w.nodes k i.node i.at, run-length events w v run none))
  | inl found ↦ elim (run-fates events w v run none r k found.0 found.2) [
    | inl b ↦ record { node = found.0; at = found.2; phase = b.phase }
    | inr s ↦ record {
      node = found.0;
      at = found.2;
      phase = s.phase ∙ ap (λ (z : PortNode). z.state.view.phase) (some-same s.node i.node (sym s.at ∙ i.at)) ∙ i.phase;
    }
  ]
]

-- so is each node that an act of them resets
touched-in :
    (events : List Event) (w v : CableWorld) (run : Runs events w v) → turn_count events ≡ 0 →
    ComesOfPowerOn w → (k : ℕ) → IsTouchedIn k events w v run → InReset v k
touched-in [] w v run none r k h = absurd h
touched-in (acts a ∷ events) w v run none r k (inl touched) =
    let b : Begun run.0 k = touched-begun a w run.0 run.1 (comes-lawful w r) k touched in
    stays-in-reset events run.0 v run.2 none (acted a w run.0 run.1 r) k (record { node = b.0; at = b.1; phase = b.2.phase })
touched-in (acts a ∷ events) w v run none r k (inr later) = touched-in events run.0 v run.2 none (acted a w run.0 run.1 r) k later
touched-in (holds end n ∷ events) w v run none r k h = touched-in events run.0 v run.2 none (event-comes (holds end n) w run.0 run.1 r) k h
touched-in (turns ∷ events) w v run none r k h = absurd (no-turn-first events none)

-- ---- fresh components

-- a node that has just begun, or is in none of R0 and R1
record IsFreshNode (x : NodeState) : Type 0 where
  begins : x.view.phase ≡ ResetStart → x.view.timer ≡ 0
  waits : x.view.phase ≢ ResetWait

start-no-wait : ResetStart ≡ ResetWait → ⊥
start-no-wait e = cc

fresh-begun : (x : NodeState) → Begins x → IsFreshNode x
fresh-begun x b = record { begins = λ e. b.timer; waits = λ e. start-no-wait (sym b.phase ∙ e) }

fresh-calm : (x : NodeState) → is_in_bus_reset x.view.phase ≡ false → IsFreshNode x
fresh-calm x c = record {
  begins = λ e. absurd (true≢false (sym (ap is_in_bus_reset e) ∙ c));
  waits = λ e. true≢false (sym (ap is_in_bus_reset e) ∙ c);
}

fresh-set :
    (v : CableWorld) (set k : ℕ) → Holds set k → InReset v k →
    ((j : ℕ) → Holds set j → (z : PortNode) × (slice_get v.nodes j ≡ Some z)) →
    ((j : ℕ) (z : PortNode) → Holds set j → slice_get v.nodes j ≡ Some z → IsFreshNode z.state) →
    IsFresh v set
fresh-set v set k inside i there each = record {
  node = k;
  holds = inside;
  resets = some-at (slice_get v.nodes k) i.node (λ (x : PortNode). x.state.view.phase ≡ ResetStart) i.at i.phase;
  begins = λ j h.
      let z = there j h in
      some-at (slice_get v.nodes j) z.0 (λ (x : PortNode). x.state.view.phase ≡ ResetStart → x.state.view.timer ≡ 0) z.1 (each j z.0 h z.1).begins;
  waits = λ j h.
      let z = there j h in
      some-at (slice_get v.nodes j) z.0 (λ (x : PortNode). x.state.view.phase ≢ ResetWait) z.1 (each j z.0 h z.1).waits;
}

-- at power-on all begin
first-begins :
    (s w : CableWorld) (events : List Event) → IsPowerOnWorld s → Runs events s w →
    turn_count events ≡ 0 → (k : ℕ) (x : PortNode) → slice_get w.nodes k ≡ Some x → Begins x.state
first-begins s w events p run none k x at = elim (run-fates events s w run none (power-on-comes s p) k x at) [
  | inl b ↦ b
  | inr f ↦
      let on = (p.nodes k f.node f.at).is in
      record {
        phase = f.phase ∙ ap (λ (z : NodeState). z.view.phase) on;
        timer = f.timer ∙ ap (λ (z : NodeState). z.view.timer) on;
      }
]

pub first-fresh : PowerOnIsFresh
first-fresh s w events node set p at_once here comp =
    let r : ComesOfPowerOn w = run-comes events s w at_once.run (power-on-comes s p) in
    let there = nodes-there w (comes-lawful w r) node set comp here in
    let z = there node comp.holds in
    let b = first-begins s w events p at_once.run at_once.no_turn in
    fresh-set w set node comp.holds (record { node = z.0; at = z.1; phase = (b node z.0 z.1).phase }) there (λ j x h at. fresh-begun x.state (b j x at))

pub acts-fresh : ActsMakeFresh
acts-fresh w v events at_once node k set r comp calm inside touched =
    let m : ComesOfPowerOn v = run-comes events w v at_once.run r in
    let l : IsLawful v = comes-lawful v m in
    let i : InReset v k = touched-in events w v at_once.run at_once.no_turn r k touched in
    let own : IsComponent v.cabling k set = shared v.cabling node k set l.well_formed.cabling comp inside in
    let there = nodes-there v l k set own (slice_get_within v.nodes k i.node i.at) in
    fresh-set v set k inside i there (λ j x h at. elim (run-fates events w v at_once.run at_once.no_turn r j x at) [
      | inl b ↦ fresh-begun x.state b
      | inr f ↦ fresh-calm x.state (ap is_in_bus_reset f.phase ∙ calm j f.node h f.at)
    ])

pub settled-fresh : ActsMakeFreshOnceSettled
settled-fresh placed w v n events at_once node k set r quiet comp inside touched =
    acts-fresh (quiet_after placed n w) v events at_once node k set (quiet-comes placed n w r) comp (λ j x h at. done-at-last placed w n r quiet j x at) inside touched

-- ---- a node that waits alone

waiting-there :
    (w : CableWorld) (set root k : ℕ) → WaitsAlone w set root → Holds set k → k < length w.nodes
waiting-there w set root k a h = elim (cases_eq k root) [
  | inl same ↦ let x = some-of (slice_get w.nodes root) _ a.waits in omega (arith, same, slice_get_within w.nodes root x.0 x.1)
  | inr other ↦ let x = some-of (slice_get w.nodes k) _ (a.others k h other) in slice_get_within w.nodes k x.0 x.1
]

forced :
    (w : CableWorld) (node set root : ℕ) → ComesOfPowerOn w → IsFresh w set →
    HasOneWaiting w node set root → IsForced w node set root
forced w node set root r fresh h = record {
  lawful = comes-lawful w r;
  component = h.component;
  no_loop = h.no_loop;
  fresh = fresh;
  alone = h.alone;
  enough = h.enough;
}

pub fresh-roots : FreshRootsSettle
fresh-roots placed w k node set root r fresh h quiet =
    let l : IsLawful w = comes-lawful w r in
    let small : set < 2 ^ 63 = small-set set 63 (λ i inside. omega (arith, waiting-there w set root i h.alone inside, l.well_formed.count, l.well_formed.cabling.few_nodes)) in
    forced-outcome placed w r node set root (forced w node set root r fresh h) small k quiet

pub first-roots : FirstRootsSettle
first-roots placed s w events k node set root p at_once h quiet =
    fresh-roots placed w k node set root (run-comes events s w at_once.run (power-on-comes s p))
    (first-fresh s w events node set p at_once (waiting-there w set root node h.alone h.component.holds) h.component) h quiet
