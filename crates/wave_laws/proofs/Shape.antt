-- What happens to a world leaves it its nodes, and each node its ports.
use Rattle.std.proofs.Common.{◌≡◌, ℕ, zero, suc, ◌+◌, Bool, List, [], ◌∷◌, inl, inr, Option, Some, None, length, slice_set, replicate, map, refl, sym, subst, ◌∙◌, ap, arith}
use Rattle.std.specs.Prelude.{slice_get}
use Rattle.std.proofs.lemmas.Bool.{cases_eq}
use Rattle.std.proofs.lemmas.Option.{slice_get_within, slice_get_cases}
use Rattle.cabling.specs.declared.cable.End.{End}
use Rattle.cabling.specs.Wiring.{far}
use Rattle.port_state.specs.Config.{config_packet}
use Rattle.port_state.specs.Entry.{enter}
use Rattle.port_state.specs.PowerOn.{free_port}
use Rattle.port_state.specs.declared.states.NodeState.{NodeState}
use Rattle.port_state.specs.declared.timing.Timing.{Timing}
use Rattle.port_state.specs.declared.ports.PortView.{PortView}
use Rattle.port_state.specs.Machine.{PortNode, NodeStep, node_disturb, node_plugged, node_pulled, node_set_config}
use Rattle.cable_world.specs.declared.act.Act.{Act}
use Rattle.cable_world.specs.declared.act.Act.TheVariants.{Plug, Pull, Reset, Config}
use Rattle.cable_world.specs.World.{CableWorld, IsPowered}
use Rattle.cable_world.specs.Turn.{turn, turn_at}
use Rattle.cable_world.specs.Act.{step_at, with_step, add_cable, remove_cable, pull_from, change_in_set, configure, ActLeads, Acted}
use Rattle.cable_world.specs.Lawful.{IsWellFormed}
use Rattle.cable_world.specs.Run.{IsReached}
use Rattle.cable_world.specs.Events.{Event, acts, holds, turns, Runs, HasNoAct, turn_count}
use Rattle.cable_world.proofs.Lemmas.{some-same, node-after, nodes-after, act-keeps, replaced, not-replaced, as_before, altered, was, steady-at, reached-lawful, turn-reached, act-reached, hold-reached}
use Rattle.script_trace.specs.Event.{Seen}
use Rattle.script_trace.specs.Step.{seen_before_turn, seen_before_act}
use Rattle.wave_laws.proofs.Shown.{IsWithin, IsSeen}
use Rattle.wave_laws.proofs.Start.{IsAtStart}

-- ---- as many ports as before

-- the count of ports of each node, by its number, is such
abbrev Ported : (ℕ → ℕ → Type 0) → List PortNode → Type 0
Ported P nodes = (k : ℕ) (x : PortNode) → slice_get nodes k ≡ Some x → P k x.state.ports

abbrev LeavesPorts : (PortNode → NodeStep) → Type 0
LeavesPorts step = (x : PortNode) → (step x).node.state.ports ≡ x.state.ports

disturbed : LeavesPorts node_disturb
unfolding enter
disturbed x = refl

plugged : (port : ℕ) → LeavesPorts (node_plugged port)
unfolding enter
plugged port x = refl

pulled : (port : ℕ) → LeavesPorts (node_pulled port)
unfolding enter
pulled port x = refl

step-ported : (P : ℕ → ℕ → Type 0) (k : ℕ) (step : PortNode → NodeStep) (w : CableWorld) → LeavesPorts step → Ported P w.nodes →
    Ported P (with_step k step w).nodes
step-ported P k step w leaves h = go (slice_get w.nodes k) refl
  where
    put : (x : PortNode) → slice_get w.nodes k ≡ Some x → Ported P (slice_set w.nodes k (step x).node)
    put x at j y e = elim (cases_eq j k) [
      | inl same ↦
          let here : slice_get (slice_set w.nodes k (step x).node) k ≡ Some y = subst (λ i. slice_get (slice_set w.nodes k (step x).node) i ≡ Some y) same e in
          let is : (step x).node ≡ y = some-same (step x).node y (sym (replaced w.nodes k (step x).node (slice_get_within w.nodes k x at)) ∙ here) in
          subst (λ i. P i y.state.ports) (sym same) (subst (λ (z : PortNode). P k z.state.ports) is (rw (leaves x) (h k x at)))
      | inr ne ↦ h j y (sym (not-replaced w.nodes k j (step x).node ne) ∙ e)
    ]

    go : (o : Option PortNode) → slice_get w.nodes k ≡ o → Ported P (step_at o k step w).nodes
    go None at = h
    go (Some x) at = put x at

two-ported : (P : ℕ → ℕ → Type 0) (j k : ℕ) (f g : PortNode → NodeStep) (w : CableWorld) → LeavesPorts f → LeavesPorts g → Ported P w.nodes →
    Ported P (with_step k g (with_step j f w)).nodes
two-ported P j k f g w a b h = step-ported P k g (with_step j f w) b (step-ported P j f w a h)

pull-ported : (P : ℕ → ℕ → Type 0) (a : End) (o : Option End) (w : CableWorld) → Ported P w.nodes → Ported P (pull_from a o w).nodes
pull-ported P a None w h = h
pull-ported P a (Some b) w h = two-ported P a.node b.node (node_pulled a.port) (node_pulled b.port) (remove_cable a b w) (pulled a.port) (pulled b.port) h

configure-ported : (P : ℕ → ℕ → Type 0) (set from root_id : ℕ) (force : Bool) (gap : Option ℕ) (w : CableWorld) → Ported P w.nodes →
    Ported P (configure set from (config_packet root_id force gap) w).nodes
configure-ported P set from root_id force gap w h =
    let packet = config_packet root_id force gap in
    let change : PortNode → PortNode = node_set_config packet in
    step-ported P from node_disturb (record w { nodes = change_in_set set change 0 w.nodes }) disturbed
    (λ k y e. elim (was set change 0 w.nodes k y e) [
      | as_before at ↦ h k y at
      | altered x at is ↦ subst (λ (z : PortNode). P k z.state.ports) is (h k x at)
    ])

act-ported : (P : ℕ → ℕ → Type 0) (a : Act) (w v : CableWorld) → ActLeads a w v → Ported P w.nodes → Ported P v.nodes
act-ported P (Plug a b) w v e h =
    subst (λ (u : CableWorld). Ported P u.nodes) (sym e)
    (two-ported P a.node b.node (node_plugged a.port) (node_plugged b.port) (add_cable a b w) (plugged a.port) (plugged b.port) h)
act-ported P (Pull end) w v e h = subst (λ (u : CableWorld). Ported P u.nodes) (sym e) (pull-ported P end (far w.cabling end) w h)
act-ported P (Reset node) w v e h = subst (λ (u : CableWorld). Ported P u.nodes) (sym e) (step-ported P node node_disturb w disturbed h)
act-ported P (Config from root_id force gap) w v e h =
    subst (λ (u : CableWorld). Ported P u.nodes) (sym e.2) (configure-ported P e.0 from root_id force gap w h)

turn-ported : (P : ℕ → ℕ → Type 0) (w : CableWorld) → IsWellFormed w → Ported P w.nodes → Ported P (turn w).nodes
turn-ported P w f h k y e = elim (slice_get_cases w.nodes k).1 [
  | inl found ↦
      let same : (turn_at w k found.0).node ≡ y = some-same (turn_at w k found.0).node y (sym (node-after w k found.0 f.count found.2) ∙ e) in
      subst (λ (z : PortNode). P k z.state.ports) same (subst (P k) (sym (steady-at w k found.0 f found.2).ports) (h k found.0 found.2))
  | inr lacks ↦ absurd (omega (arith, lacks.0, slice_get_within (turn w).nodes k y e, nodes-after w f.count))
]

-- ---- the same nodes and ports

-- each of the two worlds has the nodes of the other, with as many ports
pub record IsAlike (w v : CableWorld) : Type 0 where
  pub there : IsWithin w v
  pub back : IsWithin v w

pub alike-itself : (w v : CableWorld) → v.nodes ≡ w.nodes → IsAlike w v
alike-itself w v e = record {
  there = λ k y at. (y, subst (λ (ns : List PortNode). slice_get ns k ≡ Some y) e at, refl);
  back = λ k y at. (y, subst (λ (ns : List PortNode). slice_get ns k ≡ Some y) (sym e) at, refl);
}

then-within : (u w v : CableWorld) → IsWithin u w → IsWithin w v → IsWithin u v
then-within u w v a b k z at =
    let y = b k z at in
    let x = a k y.0 y.1 in
    (x.0, x.1, y.2 ∙ x.2)

pub alike-then : (u w v : CableWorld) → IsAlike u w → IsAlike w v → IsAlike u v
alike-then u w v a b = record { there = then-within u w v a.there b.there; back = then-within v w u b.back a.back }

abbrev KeepsPorts : CableWorld → CableWorld → Type 0
KeepsPorts w v = (k : ℕ) (x y : PortNode) → slice_get w.nodes k ≡ Some x → slice_get v.nodes k ≡ Some y → y.state.ports ≡ x.state.ports

within-from : (w v : CableWorld) → IsWellFormed w → IsWellFormed v → length v.nodes ≡ length w.nodes → KeepsPorts w v → IsWithin w v
within-from w v f g same keeps k y at = elim (slice_get_cases w.nodes k).1 [
  | inl found ↦ (found.0, found.2, (g.nodes k y at).valid.bounded.views ∙ keeps k found.0 y found.2 at ∙ sym (f.nodes k found.0 found.2).valid.bounded.views)
  | inr lacks ↦ absurd (omega (arith, lacks.0, slice_get_within v.nodes k y at, same))
]

alike-from : (w v : CableWorld) → IsWellFormed w → IsWellFormed v → length v.nodes ≡ length w.nodes → KeepsPorts w v → IsAlike w v
alike-from w v f g same keeps = record {
  there = within-from w v f g same keeps;
  back = within-from v w g f (sym same) (λ k x y a b. sym (keeps k y x b a));
}

formed : (w : CableWorld) → IsReached w → IsWellFormed w
formed w r = (reached-lawful w r).well_formed

-- the count of a node's ports in a world
abbrev HadPorts : CableWorld → ℕ → ℕ → Type 0
HadPorts w k n = (x : PortNode) → slice_get w.nodes k ≡ Some x → n ≡ x.state.ports

had-ports : (w : CableWorld) → Ported (HadPorts w) w.nodes
had-ports w k x e y f = ap (λ (z : PortNode). z.state.ports) (some-same x y (sym e ∙ f))

pub turn-alike : (w : CableWorld) → IsReached w → IsAlike w (turn w)
turn-alike w r =
    let f = formed w r in
    alike-from w (turn w) f (formed (turn w) (turn-reached w r)) (nodes-after w f.count)
    (λ k x y a b. turn-ported (HadPorts w) w f (had-ports w) k y b x a)

pub act-alike : (a : Act) (w v : CableWorld) → Acted a w v → IsReached w → IsAlike w v
act-alike a w v did r =
    alike-from w v (formed w r) (formed v (act-reached a w v did r)) (act-keeps a w v did.2).nodes
    (λ k x y p q. act-ported (HadPorts w) a w v did.2 (had-ports w) k y q x p)

pub runs-alike : (events : List Event) (w v : CableWorld) → IsReached w → Runs events w v → IsAlike w v
runs-alike [] w v r e = alike-itself w v (ap (λ (u : CableWorld). u.nodes) e)
runs-alike (acts a ∷ events) w v r (u, did, more) =
    alike-then w u v (act-alike a w u did r) (runs-alike events u v (act-reached a w u did r) more)
runs-alike (holds end k ∷ events) w v r (u, held, more) =
    alike-then w u v (alike-itself w u (ap (λ (z : CableWorld). z.nodes) held.1))
    (runs-alike events u v (subst IsReached (sym held.1) (hold-reached end k w held.0 r)) more)
runs-alike (turns ∷ events) w v r (u, turned, more) =
    alike-then w u v (subst (IsAlike w) (sym turned) (turn-alike w r))
    (runs-alike events u v (subst IsReached (sym turned) (turn-reached w r)) more)

-- holds alone leave all nodes as they are
pub nodes-stay : (events : List Event) (w v : CableWorld) → HasNoAct events → turn_count events ≡ 0 → Runs events w v → v.nodes ≡ w.nodes
nodes-stay [] w v none still e = ap (λ (u : CableWorld). u.nodes) e
nodes-stay (acts a ∷ events) w v none still x = absurd none
nodes-stay (holds end k ∷ events) w v none still (u, held, more) =
    nodes-stay events u v none still more ∙ ap (λ (z : CableWorld). z.nodes) held.1
nodes-stay (turns ∷ events) w v none still x = absurd (omega (arith, still))

-- ---- what the nodes showed

seen-at-act : (w : CableWorld) (first k : ℕ) (nodes : List PortNode) (x : PortNode) → slice_get nodes k ≡ Some x →
    (s : Seen) × (slice_get (seen_before_act w first nodes) k ≡ Some s) × (s.view ≡ x.state.view)
seen-at-act w first k [] x e = absurd cc
seen-at-act w first zero (y ∷ nodes) x e = (_, refl, ap (λ (z : PortNode). z.state.view) (some-same y x e))
seen-at-act w first (suc k) (y ∷ nodes) x e = seen-at-act w (first + 1) k nodes x e

pub seen-act : (w : CableWorld) → IsSeen w (seen_before_act w 0 w.nodes)
seen-act w k x e = seen-at-act w 0 k w.nodes x e

seen-at-turn : (k : ℕ) (nodes : List PortNode) (x : PortNode) → slice_get nodes k ≡ Some x →
    (s : Seen) × (slice_get (map seen_before_turn nodes) k ≡ Some s) × (s.view ≡ x.state.view)
seen-at-turn k [] x e = absurd cc
seen-at-turn zero (y ∷ nodes) x e = (_, refl, ap (λ (z : PortNode). z.state.view) (some-same y x e))
seen-at-turn (suc k) (y ∷ nodes) x e = seen-at-turn k nodes x e

pub seen-turn : (w : CableWorld) → IsSeen w (map seen_before_turn w.nodes)
seen-turn w k x e = seen-at-turn k w.nodes x e

-- ---- nodes that were just powered on

of-one : {X : Type 0} → (n j : ℕ) (x y : X) → slice_get (replicate n x) j ≡ Some y → y ≡ x
of-one zero j x y e = absurd cc
of-one (suc n) zero x y e = sym (some-same x y e)
of-one (suc n) (suc j) x y e = of-one n j x y e

pub powered-at-start : (d : ℕ) (x : PortNode) → (longest : Timing) → IsPowered d longest x.state → IsAtStart x.state.view
powered-at-start d x longest h = record {
  phase = ap (λ (z : NodeState). z.view.phase) h.is;
  id = ap (λ (z : NodeState). z.view.id) h.is;
  parent = ap (λ (z : NodeState). z.view.parent) h.is;
  timeout = ap (λ (z : NodeState). z.view.timed_out) h.is;
  ports = λ j p e.
      of-one x.state.ports j free_port p (subst (λ (ps : List PortView). slice_get ps j ≡ Some p) (ap (λ (z : NodeState). z.view.ports) h.is) e);
}
