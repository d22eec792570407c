-- Turns and acts change no node's times, and a clock goes on as it is, in turns alone. So each node keeps time.
use Rattle.std.proofs.Common.{suc, zero, ◌≡◌, ℕ, Bool, true, List, inl, inr, Option, Some, None, slice_get, slice_set, refl, sym, subst, ◌∙◌, ap, arith}
use Rattle.std.proofs.lemmas.Bool.{cases_eq}
use Rattle.std.proofs.lemmas.Option.{slice_get_within, slice_get_cases}
use Rattle.cabling.specs.declared.cable.End.{End}
use Rattle.cabling.specs.Wiring.{far}
use Rattle.port_state.specs.declared.timing.Timing.{Timing}
use Rattle.port_state.specs.Clock.{Clock, even, slow, every, misses, clock_after, KeepsPace}
use Rattle.port_state.specs.Config.{config_packet}
use Rattle.port_state.specs.Entry.{enter}
use Rattle.port_state.specs.Machine.{PortNode, NodeStep, node_disturb, node_plugged, node_pulled, node_set_config}
use Rattle.cable_world.specs.declared.act.Act.{Act}
use Rattle.cable_world.specs.declared.act.Act.TheVariants.{Plug, Pull, Reset, Config}
use Rattle.cable_world.specs.Times.{KeepsTime, SuitsSlowly}
use Rattle.cable_world.specs.World.{CableWorld}
use Rattle.cable_world.specs.Turn.{turn, turn_at}
use Rattle.cable_world.specs.Act.{step_at, with_step, add_cable, remove_cable, pull_from, change_in_set, configure, ActLeads}
use Rattle.cable_world.specs.Lawful.{IsPaced, IsWellFormed}
use Rattle.cable_world.proofs.Options.{some-same}
use Rattle.cable_world.proofs.turns.ByNumber.{node-after, nodes-after, delay-after, longest-after}
use Rattle.cable_world.proofs.tables.CountsInActs.{act-keeps}
use Rattle.cable_world.proofs.tables.TablesInSteps.{replaced, not-replaced}
use Rattle.cable_world.proofs.tables.TablesInActs.{as_before, altered, was}
use Rattle.cable_world.proofs.tables.TablesInTurns.{steady-at}

-- the times and the clock of each node, by its number, are such
abbrev pub Timed : (ℕ → Timing → Clock → Type 0) → List PortNode → Type 0
Timed P nodes = (k : ℕ) (x : PortNode) → slice_get nodes k ≡ Some x → P k x.state.timing x.clock

-- and so they are a turn later
abbrev pub GoesOn : (ℕ → Timing → Clock → Type 0) → Type 0
GoesOn P = (k : ℕ) (t : Timing) (c : Clock) → P k t c → P k t (clock_after c)

-- ---- a turn

pub turn-timed :
    (P : ℕ → Timing → Clock → Type 0) (w : CableWorld) → GoesOn P → IsWellFormed w → Timed P w.nodes →
    Timed P (turn w).nodes
turn-timed P w on f h k y e = elim (slice_get_cases w.nodes k).1 [
  | inl found ↦
      let same : (turn_at w k found.0).node ≡ y = some-same (turn_at w k found.0).node y (sym (node-after w k found.0 f.count found.2) ∙ e) in
      subst (λ (z : PortNode). P k z.state.timing z.clock) same
      (subst (λ (t : Timing). P k t (clock_after found.0.clock)) (sym (steady-at w k found.0 f found.2).timing) (on k found.0.state.timing found.0.clock (h k found.0 found.2)))
  | inr lacks ↦ absurd (omega (arith, lacks.0, slice_get_within (turn w).nodes k y e, nodes-after w f.count))
]

-- ---- an act

-- a step that leaves a node its times and its clock
abbrev LeavesTimes : (PortNode → NodeStep) → Type 0
LeavesTimes step = (x : PortNode) → ((step x).node.state.timing ≡ x.state.timing) × ((step x).node.clock ≡ x.clock)

disturbed : LeavesTimes node_disturb
unfolding enter
disturbed x = (refl, refl)

plugged : (port : ℕ) → LeavesTimes (node_plugged port)
unfolding enter
plugged port x = (refl, refl)

pulled : (port : ℕ) → LeavesTimes (node_pulled port)
unfolding enter
pulled port x = (refl, refl)

step-timed :
    (P : ℕ → Timing → Clock → Type 0) (k : ℕ) (step : PortNode → NodeStep) (w : CableWorld) → LeavesTimes step →
    Timed P w.nodes → Timed P (with_step k step w).nodes
step-timed P k step w leaves h = go (slice_get w.nodes k) refl
  where
    put : (x : PortNode) → slice_get w.nodes k ≡ Some x → Timed P (slice_set w.nodes k (step x).node)
    put x at j y e = elim (cases_eq j k) [
      | inl same ↦
          let here : slice_get (slice_set w.nodes k (step x).node) k ≡ Some y = subst (λ i. slice_get (slice_set w.nodes k (step x).node) i ≡ Some y) same e in
          let is : (step x).node ≡ y = some-same (step x).node y (sym (replaced w.nodes k (step x).node (slice_get_within w.nodes k x at)) ∙ here) in
          subst (λ i. P i y.state.timing y.clock) (sym same) (subst (λ (z : PortNode). P k z.state.timing z.clock) is (rw ((leaves x).0, (leaves x).1) (h k x at)))
      | inr ne ↦ h j y (sym (not-replaced w.nodes k j (step x).node ne) ∙ e)
    ]

    go : (o : Option PortNode) → slice_get w.nodes k ≡ o → Timed P (step_at o k step w).nodes
    go None at = h
    go (Some x) at = put x at

two-timed :
    (P : ℕ → Timing → Clock → Type 0) (j k : ℕ) (f g : PortNode → NodeStep) (w : CableWorld) → LeavesTimes f →
    LeavesTimes g → Timed P w.nodes → Timed P (with_step k g (with_step j f w)).nodes
two-timed P j k f g w a b h = step-timed P k g (with_step j f w) b (step-timed P j f w a h)

pull-timed :
    (P : ℕ → Timing → Clock → Type 0) (a : End) (o : Option End) (w : CableWorld) → Timed P w.nodes →
    Timed P (pull_from a o w).nodes
pull-timed P a None w h = h
pull-timed P a (Some b) w h = two-timed P a.node b.node (node_pulled a.port) (node_pulled b.port) (remove_cable a b w) (pulled a.port) (pulled b.port) h

configure-timed :
    (P : ℕ → Timing → Clock → Type 0) (set from root_id : ℕ) (force : Bool) (gap : Option ℕ) (w : CableWorld) → Timed P w.nodes →
    Timed P (configure set from (config_packet root_id force gap) w).nodes
configure-timed P set from root_id force gap w h =
    let packet = config_packet root_id force gap in
    let change : PortNode → PortNode = node_set_config packet in
    step-timed P from node_disturb (record w { nodes = change_in_set set change 0 w.nodes }) disturbed
    (λ k y e. elim (was set change 0 w.nodes k y e) [
      | as_before at ↦ h k y at
      | altered x at is ↦ subst (λ (z : PortNode). P k z.state.timing z.clock) is (h k x at)
    ])

pub act-timed :
    (P : ℕ → Timing → Clock → Type 0) (a : Act) (w v : CableWorld) → ActLeads a w v → Timed P w.nodes → Timed P v.nodes
act-timed P (Plug a b) w v e h =
    subst (λ (u : CableWorld). Timed P u.nodes) (sym e)
    (two-timed P a.node b.node (node_plugged a.port) (node_plugged b.port) (add_cable a b w) (plugged a.port) (plugged b.port) h)
act-timed P (Pull end) w v e h = subst (λ (u : CableWorld). Timed P u.nodes) (sym e) (pull-timed P end (far w.cabling end) w h)
act-timed P (Reset node) w v e h = subst (λ (u : CableWorld). Timed P u.nodes) (sym e) (step-timed P node node_disturb w disturbed h)
act-timed P (Config from root_id force gap) w v e h =
    subst (λ (u : CableWorld). Timed P u.nodes) (sym e.2) (configure-timed P e.0 from root_id force gap w h)

-- ---- clocks

-- a clock that keeps time goes on doing so
time-after : (longest t : Timing) (c : Clock) → KeepsTime longest t c → KeepsTime longest t (clock_after c)
time-after longest t even h = tt
time-after longest t (slow zero even) h = tt
time-after longest t (slow zero (slow k next)) h = (h.0.1, h.1)
time-after longest t (slow zero (every gap k)) h = (h.0.1, h.1)
time-after longest t (slow (suc k) next) h = h
time-after longest t (every gap zero) h = h
time-after longest t (every gap (suc k)) h = h

pub turn-paced : (w : CableWorld) → IsWellFormed w → IsPaced w → IsPaced (turn w)
turn-paced w f p k y e =
    subst (λ (longest : Timing). KeepsTime longest y.state.timing y.clock) (sym (longest-after w))
    (turn-timed (λ j t c. KeepsTime w.longest t c) w (λ j t c. time-after w.longest t c) f p k y e)

pub act-paced : (a : Act) (w v : CableWorld) → ActLeads a w v → IsPaced w → IsPaced v
act-paced a w v e p k y at =
    subst (λ (longest : Timing). KeepsTime longest y.state.timing y.clock) (sym (act-keeps a w v e).longest)
    (act-timed (λ j t c. KeepsTime w.longest t c) a w v e p k y at)

-- a clock that misses a turn isn't even
pub misses-slowly :
    (longest t : Timing) (c : Clock) → misses c ≡ true → KeepsTime longest t c →
    KeepsPace t.long c × SuitsSlowly longest t
misses-slowly longest t even m h = absurd cc
misses-slowly longest t (slow k next) m h = h
misses-slowly longest t (every gap k) m h = h
