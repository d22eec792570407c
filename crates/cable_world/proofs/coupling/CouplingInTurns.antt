-- A turn of a world keeps what is so at the two ends of each cable: that their levels agree, and
-- the rest.
use Rattle.std.proofs.Common.{◌≡◌, inl, inr, ℕ, ◌-◌, ◌<◌, List, [], ◌++◌, map, length, Some, slice_get, slice_index_or, sym, ◌∙◌, ap, subst, arith}
use Rattle.std.proofs.lemmas.Option.{slice_get_within, slice_get_cases}
use Rattle.port_state.specs.declared.states.NodeState.{NodeState}
use Rattle.port_state.specs.Machine.{PortNode, beat}
use Rattle.cabling.specs.declared.cable.End.{End}
use Rattle.cabling.specs.Wiring.{Wiring, far, ports_of}
use Rattle.cable_world.specs.Wire.{Wire, age_wire, gives, stays, new_signal, Travelling}
use Rattle.cable_world.specs.World.{CableWorld, AtCables, wire_of}
use Rattle.cable_world.specs.Turn.{inbox, turn_at, turn}
use Rattle.cable_world.specs.Agreement.{level_sent_at, level_shown, level_after, LevelsAgree}
use Rattle.cable_world.specs.Signals.{signals_of}
use Rattle.cable_world.specs.Coupling.{Coupling, IsCoupled}
use Rattle.cable_world.specs.Lawful.{AgesFall, FitsCables, IsWellFormed}
use Rattle.cable_world.proofs.Options.{some-same}
use Rattle.cable_world.proofs.Times.{suits-cables}
use Rattle.cable_world.proofs.turns.ByNumber.{node-after, wire-after, nodes-after, cabling-after, delay-after}
use Rattle.cable_world.specs.Turn.{hear_all}
use Rattle.cable_world.proofs.turns.NodeFacts.{HearsWell, TicksWell}
use Rattle.cable_world.proofs.turns.HearsWell.{hears-well}
use Rattle.cable_world.proofs.turns.TicksWell.{ticks-well}
use Rattle.cable_world.proofs.coupling.Sides.{Side, Ready, ticking, wire_after, watches-turn, waits-turn}
use Rattle.cable_world.proofs.coupling.CableInTurn.{Pair, levels_after, coupled-turn}
use Rattle.cable_world.proofs.tables.TablesInTurns.{turn-formed}
use Rattle.cable_world.proofs.turns.TurnParts.{turn-state, turn-sent, comes}
use Rattle.cable_world.proofs.tables.CableEnds.{port-there, cable-connected}

-- a node at its port of a cable, in a turn of the world
abbrev pub side : CableWorld → End → PortNode → Side
side w a x = record {
  node = x.state;
  port = a.port;
  wire = (wire_of w a).signals;
  gives = gives w.delay (age_wire (wire_of w a));
  inbox = inbox w 0 (ports_of w.cabling a.node);
  beat = beat x;
  clock = x.clock;
}

-- its node and its wire afterwards
pub side-node :
    (w : CableWorld) (a : End) (x : PortNode) →
    (turn_at w a.node x).node.state ≡ (ticking (side w a x)).state
side-node w a x = turn-state (inbox w 0 (ports_of w.cabling a.node)) x

pub side-wire :
    (w : CableWorld) (a b : End) (x : PortNode) → IsWellFormed w → far w.cabling a ≡ Some b →
    slice_get w.nodes a.node ≡ Some x → (wire_of (turn w) a).signals ≡ wire_after (side w a x)
side-wire w a b x f e at =
    let fits : FitsCables w a.node x.state = f.nodes a.node x at in
    let p = port-there x.state a.port (cable-connected w a b x f e at) in
    let inside : a.port < length (slice_index_or w.wires a.node []) = omega (arith, slice_get_within x.state.view.ports a.port p.0 p.1, fits.valid.bounded.views, fits.wires) in
    ap (λ (v : Wire). v.signals) (wire-after w a x f.count at inside)
    ∙ ap (λ l. (stays w.delay (wire_of w a)).signals ++ map new_signal l) (turn-sent (inbox w 0 (ports_of w.cabling a.node)) x a.port)

pub hears :
    (w : CableWorld) (k : ℕ) (x : PortNode) → IsWellFormed w → slice_get w.nodes k ≡ Some x →
    HearsWell (inbox w 0 (ports_of w.cabling k)) x.state
hears w k x f at = hears-well (inbox w 0 (ports_of w.cabling k)) x.state (f.nodes k x at).valid

pub ticks :
    (w : CableWorld) (k : ℕ) (x : PortNode) → IsWellFormed w → slice_get w.nodes k ≡ Some x →
    TicksWell (beat x) (hear_all (inbox w 0 (ports_of w.cabling k)) x.state).state
ticks w k x f at = ticks-well (beat x) (hear_all (inbox w 0 (ports_of w.cabling k)) x.state).state (hears w k x f at).valid

pub ready :
    (w : CableWorld) (a b : End) (x : PortNode) → IsWellFormed w → IsCoupled w →
    far w.cabling a ≡ Some b → slice_get w.nodes a.node ≡ Some x → Ready w.delay (side w a x)
ready w a b x f c e at = record {
  valid = (f.nodes a.node x at).valid;
  timing = suits-cables w.delay w.longest x.state.timing (f.nodes a.node x at).timing;
  connected = cable-connected w a b x f e at;
  hears = hears w a.node x f at;
  ticks = ticks w a.node x f at;
  watches = c.watches a.node x at;
  waits = c.waits a.node x at;
  ages = f.ages a;
  ages_after =
      subst (λ (l : List Travelling). AgesFall (w.delay - 1) l) (side-wire w a b x f e at)
      (subst (λ d. AgesFall (d - 1) (wire_of (turn w) a).signals) (delay-after w) ((turn-formed w f).ages a));
}

-- a node after the turn is one before it that took its turn
pub before :
    (w : CableWorld) (k : ℕ) (y : PortNode) → IsWellFormed w → slice_get (turn w).nodes k ≡ Some y →
    (x : PortNode) × (slice_get w.nodes k ≡ Some x) × (y ≡ (turn_at w k x).node)
before w k y f e = elim (slice_get_cases w.nodes k).1 [
  | inl found ↦ (found.0, found.2, some-same y (turn_at w k found.0).node (sym e ∙ node-after w k found.0 f.count found.2))
  | inr lacks ↦ absurd (omega (arith, lacks.0, slice_get_within (turn w).nodes k y e, nodes-after w f.count))
]

-- the two ends of a cable, in a turn of the world
pub pair :
    (w : CableWorld) (a b : End) (x y : PortNode) → IsWellFormed w → LevelsAgree w → IsCoupled w →
    far w.cabling a ≡ Some b → slice_get w.nodes a.node ≡ Some x →
    slice_get w.nodes b.node ≡ Some y → Pair w.delay (side w a x) (side w b y)
pair w a b x y f l c e at_x at_y =
    let back : far w.cabling b ≡ Some a = f.cabling.both_ways a b e in
    record {
      some_delay = f.some_delay;
      near = ready w a b x f c e at_x;
      other = ready w b a y f c back at_y;
      comes = comes w b a e;
      goes = comes w a b back;
      levels = l a b x y e at_x at_y;
      levels_back = l b a y x back at_y at_x;
      coupled = c.cables a b x y e at_x at_y;
      coupled_back = c.cables b a y x back at_y at_x;
    }

-- what is so of each cable after its turn is so of the world
cables-after :
    (P : ℕ → NodeState → ℕ → List Travelling → NodeState → ℕ → List Travelling → Type 0) (w : CableWorld) →
    IsWellFormed w → LevelsAgree w → IsCoupled w →
    ((x y : Side) → Pair w.delay x y → P w.delay (ticking x).state x.port (wire_after x) (ticking y).state y.port (wire_after y)) →
    AtCables (turn w) (λ a x b y. P (turn w).delay x a.port (wire_of (turn w) a).signals y b.port (wire_of (turn w) b).signals)
cables-after P w f l c h a b y z e at_y at_z =
    let was : far w.cabling a ≡ Some b = sym (ap (λ (d : Wiring). far d a) (cabling-after w)) ∙ e in
    let back : far w.cabling b ≡ Some a = f.cabling.both_ways a b was in
    let x = before w a.node y f at_y in
    let u = before w b.node z f at_z in
    rw (x.2, u.2, delay-after w, side-wire w a b x.0 f was x.1, side-wire w b a u.0 f back u.1)
    (h (side w a x.0) (side w b u.0) (pair w a b x.0 u.0 f l c was x.1 u.1))

pub turn-levels :
    (w : CableWorld) → IsWellFormed w → LevelsAgree w → IsCoupled w → LevelsAgree (turn w)
turn-levels w f l c =
    cables-after (λ d x p there y q back. level_after (level_shown y q) (signals_of there) ≡ level_sent_at x p) w f l c
    (λ x y j. levels_after w.delay x y j)

pub turn-coupled :
    (w : CableWorld) → IsWellFormed w → LevelsAgree w → IsCoupled w → IsCoupled (turn w)
turn-coupled w f l c = record {
  watches = λ k y e. let x = before w k y f e in rw (x.2, turn-state (inbox w 0 (ports_of w.cabling k)) x.0) (watches-turn (inbox w 0 (ports_of w.cabling k)) (beat x.0) x.0.state (hears w k x.0 f x.1) (ticks w k x.0 f x.1) (c.watches k x.0 x.1));
  waits = λ k y e. let x = before w k y f e in rw (x.2, turn-state (inbox w 0 (ports_of w.cabling k)) x.0, delay-after w) (waits-turn w.delay (inbox w 0 (ports_of w.cabling k)) (beat x.0) x.0.state (suits-cables w.delay w.longest x.0.state.timing (f.nodes k x.0 x.1).timing) (hears w k x.0 f x.1) (ticks w k x.0 f x.1) (c.waits k x.0 x.1));
  cables = cables-after Coupling w f l c (λ x y j. coupled-turn w.delay x y j);
}
