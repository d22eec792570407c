-- A node at its port of a cable, in a turn.
use Rattle.std.proofs.Common.{◌≡◌, ◌⊎◌, inl, inr, ℕ, ◌+◌, ◌-◌, ◌*◌, ◌<◌, ◌≤◌, Bool, true, false, not, ◌&&◌, ◌||◌, List, [], ◌++◌, map, Option, refl, sym, ◌∙◌, ap, subst, arith, if◌then◌else◌, append-nil}
use Rattle.std.specs.Prelude.{nat_lt}
use Rattle.port_state.specs.declared.signal.Level.TheVariants as level
use Rattle.port_state.specs.declared.signal.Phase.{Phase}
use Rattle.port_state.specs.declared.signal.Phase.TheVariants as phase
use Rattle.port_state.specs.declared.signal.Signal.{Signal}
use Rattle.port_state.specs.declared.states.NodeState.{NodeState}
use Rattle.port_state.specs.Ports.{is_connected, is_port}
use Rattle.port_state.specs.Sends.{sent_on}
use Rattle.port_state.specs.Step.{Step}
use Rattle.port_state.specs.Heard.{is_resetting}
use Rattle.port_state.specs.Machine.{on_beat}
use Rattle.port_state.specs.Clock.{Clock}
use Rattle.port_state.specs.Valid.{HasNoRoles, HasRoles, FitsPhase, IsValid}
use Rattle.cable_world.specs.Wire.{Travelling, new_signal, age_signal}
use Rattle.cable_world.proofs.Times.{SuitsCables}
use Rattle.cable_world.specs.Agreement.{leads_down, level_sent_at}
use Rattle.cable_world.specs.Phases.{is_before_tree, is_after_hold, is_shaking, is_timed, slack}
use Rattle.cable_world.specs.Signals.{signals_of, has_reset, AllAsOldAs}
use Rattle.cable_world.specs.Coupling.{is_reset_known, HeedsReset, WaitsLong}
use Rattle.cable_world.specs.Lawful.{AgesFall}
use Rattle.cable_world.proofs.PhaseFacts.{start-hold, start-contend, parent-shaking, parent-late, parent-childless}
use Rattle.cable_world.proofs.levels.LastSent.{child-if, no-child}
use Rattle.cable_world.specs.Turn.{hear_all}
use Rattle.cable_world.proofs.turns.NodeFacts.{NoEntry, EntersReset, HearsWell, TicksWell, risen}
use Rattle.cable_world.proofs.coupling.Streams.{signals-append, signals-sent, signals-older, has_reset-append, AllAsOldAs-less, AllAsOldAs-older, nothing-left}

-- ---- one side of a cable in a turn

-- a node at its port of a cable, in a turn
pub record Side : Type 0 where
  -- before the turn
  pub node : NodeState
  pub port : ℕ
  -- under way from it before the turn
  pub wire : List Travelling
  -- whether that wire gives all its signals in this turn
  pub gives : Bool
  -- all that the node hears in this turn
  pub inbox : List (ℕ × Signal)
  -- the turn of its clock
  pub beat : Option Bool
  pub clock : Clock

abbrev pub hearing : Side → Step
hearing s = hear_all s.inbox s.node

abbrev pub ticking : Side → Step
ticking s = on_beat s.beat (hearing s).state

-- what its wire gives, and what stays on it
abbrev pub arrivals : Side → List Signal
arrivals s = if s.gives then signals_of s.wire else []

abbrev pub leftovers : Side → List Travelling
leftovers s = if s.gives then [] else map age_signal s.wire

-- what it sends on the port
abbrev pub departures : Side → List Signal
departures s = sent_on s.port (hearing s).sends ++ sent_on s.port (ticking s).sends

abbrev pub wire_after : Side → List Travelling
wire_after s = leftovers s ++ map new_signal (departures s)

-- what is so of a side before the turn, and that no signal is too old after it
pub record Ready (d : ℕ) (s : Side) : Type 0 where
  pub valid : IsValid s.node
  pub timing : SuitsCables d s.node.timing
  pub connected : is_connected s.node.view.ports s.port ≡ true
  pub hears : HearsWell s.inbox s.node
  pub ticks : TicksWell s.beat (hearing s).state
  pub watches : HeedsReset s.node
  pub waits : WaitsLong d s.node
  pub ages : AgesFall (d - 1) s.wire
  pub ages_after : AgesFall (d - 1) (wire_after s)

-- ---- phases and roles

-- before the tree is known no port leads to a child
pub early-childless :
    (x : NodeState) → IsValid x → (k : ℕ) → is_before_tree x.view.phase ≡ true →
    leads_down x.view.ports k ≡ false
early-childless x v k h = no-child x.view.parent x.view.ports k (fits x.view.phase h v.fits)
  where
    fits :
        (h : Phase) → is_before_tree h ≡ true → FitsPhase h x.view.parent x.view.ports →
        HasNoRoles x.view.parent x.view.ports
    fits phase.ResetStart e f = f
    fits phase.ResetWait e f = f
    fits phase.TreeStart e f = f
    fits h e f = absurd cc

-- afterwards a connected port leads to one or is the parent port
pub late-roles :
    (x : NodeState) → IsValid x → is_before_tree x.view.phase ≡ false →
    HasRoles x.view.parent x.view.ports
late-roles x v h = fits x.view.phase h v.fits
  where
    fits :
        (h : Phase) → is_before_tree h ≡ false → FitsPhase h x.view.parent x.view.ports →
        HasRoles x.view.parent x.view.ports
    fits phase.ChildShake e f = f
    fits phase.ParentShake e f = f
    fits phase.Contend e f = f.0
    fits phase.SelfIdent e f = f
    fits phase.Ready e f = f
    fits h e f = absurd cc

-- a node that was last sent Parent by a port asks there
pub parent-asks :
    (x : NodeState) → IsValid x → (k : ℕ) → is_connected x.view.ports k ≡ true →
    level_sent_at x k ≡ level.Parent →
    (is_shaking x.view.phase ≡ true) × (is_port x.view.parent k ≡ true)
parent-asks x v k c o = (
  parent-shaking x.view.phase (leads_down x.view.ports k) o,
  turned (leads_down x.view.ports k) (is_port x.view.parent k)
      (child-if x.view.parent x.view.ports k (late-roles x v (parent-late x.view.phase (leads_down x.view.ports k) o)) c)
      (parent-childless x.view.phase (leads_down x.view.ports k) o),
)
  where
    turned : (a b : Bool) → a ≡ not b → a ≡ false → b ≡ true
    turned a b h g = grind arith

-- the reset is known: for long in R0, or past it
pub known-cases :
    (d : ℕ) (x : NodeState) → is_reset_known d x ≡ true →
    ((is_resetting x.view.phase ≡ true) × (d < x.view.timer)) ⊎ (is_after_hold x.view.phase ≡ true)
known-cases d x s = go x.view.phase x.view.timer s
  where
    go :
        (h : Phase) (t : ℕ) → ((is_resetting h && nat_lt d t) || is_after_hold h) ≡ true →
        ((is_resetting h ≡ true) × (d < t)) ⊎ (is_after_hold h ≡ true)
    go h t s = grind arith

pub between-known :
    (d : ℕ) (x : NodeState) → is_after_hold x.view.phase ≡ true → is_reset_known d x ≡ true
between-known d x m = go x.view.phase (nat_lt d x.view.timer) m
  where
    go :
        (h : Phase) (b : Bool) → is_after_hold h ≡ true →
        ((is_resetting h && b) || is_after_hold h) ≡ true
    go h b m = grind arith

pub tree_start-known :
    (d : ℕ) (x : NodeState) → x.view.phase ≡ phase.TreeStart → is_reset_known d x ≡ true
tree_start-known d x e = between-known d x (ap is_after_hold e)

-- ---- a node in a turn

pub risen-most : (t : ℕ) → risen t ≤ t + 1
risen-most t = grind arith

pub heard_timing : (d : ℕ) (x : Side) → Ready d x → SuitsCables d (hearing x).state.timing
heard_timing d x r = subst (SuitsCables d) (sym r.hears.timing) r.timing

pub heard_connected :
    (d : ℕ) (x : Side) → Ready d x → is_connected (hearing x).state.view.ports x.port ≡ true
heard_connected d x r = r.hears.cables x.port ∙ r.connected

pub heard_parent :
    (x : Side) → NoEntry x.node (hearing x) → (k : ℕ) → is_port x.node.view.parent k ≡ true →
    is_port (hearing x).state.view.parent k ≡ true
heard_parent x h k e = ap (λ o. is_port o k) h.parent ∙ e

pub timer_rises :
    (x : Side) → NoEntry x.node (hearing x) → (t : ℕ) → t ≤ (hearing x).state.view.timer + 1 →
    t ≤ x.node.view.timer + 1
timer_rises x h t g = omega (arith, g, h.timer)

-- what is sent has no Reset, unless one was heard
pub calm_sent :
    (d : ℕ) (x : Side) → Ready d x → NoEntry x.node (hearing x) → has_reset (departures x) ≡ false
calm_sent d x r h = has_reset-append (sent_on x.port (hearing x).sends) (sent_on x.port (ticking x).sends) ∙ (rw (h.calm x.port, r.ticks.calm x.port) refl)

module _ (d : ℕ) (x : Side) (some_delay : 1 ≤ d) (r : Ready d x) where
  pub hold_fits : (hearing x).state.timing.hold ≤ 65535
  hold_fits = omega (arith, (heard_timing d x r).hold_most)

  -- a node that begins a reset stays in R0, and says nothing more
  came_holds :
      EntersReset x.node (hearing x) →
      (is_resetting (ticking x).state.view.phase ≡ true)
      × ((ticking x).state.view.timer ≤ (hearing x).state.view.timer + 1) × ((ticking x).sends ≡ [])
  came_holds c =
      let h = r.ticks.holds (ap is_resetting c.phase) (omega (arith, c.timer, (heard_timing d x r).hold_least, some_delay)) hold_fits in
      (h.0, h.2, h.3)

  pub came_after :
      EntersReset x.node (hearing x) →
      (is_resetting (ticking x).state.view.phase ≡ true) × ((ticking x).state.view.timer ≤ 1)
  came_after c = ((came_holds c).0, omega (arith, (came_holds c).1, c.timer))

  pub came_silent : EntersReset x.node (hearing x) → (ticking x).sends ≡ []
  came_silent c = (came_holds c).2

  -- its reset isn't known yet
  pub came_unknown : EntersReset x.node (hearing x) → is_reset_known d (ticking x).state ≡ true → ⊥
  came_unknown c s = elim (known-cases d (ticking x).state s) [
    | inl k ↦ omega (arith, k.1, (came_after c).1, some_delay)
    | inr m ↦ start-hold (ticking x).state.view.phase (came_after c).0 m
  ]

-- ---- its wire

pub same_wire :
    (x : Side) → (hearing x).sends ≡ [] → (ticking x).sends ≡ [] → wire_after x ≡ leftovers x
same_wire x a b = rw (a, b) (append-nil (leftovers x))

pub kept_since : (x : Side) (b : ℕ) → AllAsOldAs b x.wire → AllAsOldAs (b + 1) (leftovers x)
kept_since x b g = go x.gives
  where
    go : (c : Bool) → AllAsOldAs (b + 1) (if c then [] else map age_signal x.wire)
    go true = tt
    go false = AllAsOldAs-older b x.wire g

pub after_signals :
    (x : Side) → signals_of (wire_after x) ≡ signals_of (leftovers x) ++ departures x
after_signals x = signals-append (leftovers x) (map new_signal (departures x)) ∙ ap (λ ss. signals_of (leftovers x) ++ ss) (signals-sent (departures x))

-- what is so of no signals, and of those that were under way, is so of those that stay
pub kept_or_gone :
    (x : Side) (P : List Signal → Type 0) → P [] → P (signals_of x.wire) →
    P (signals_of (leftovers x))
kept_or_gone x P e h = go x.gives
  where
    go : (b : Bool) → P (signals_of (if b then [] else map age_signal x.wire))
    go true = e
    go false = subst P (sym (signals-older x.wire)) h

-- in contention for long: nothing is under way
pub contend_empty :
    (d : ℕ) (x : Side) → 1 ≤ d → Ready d x →
    (is_timed x.node.view.phase ≡ true → AllAsOldAs (x.node.view.timer - slack x.node.view.phase) x.wire) →
    x.node.view.phase ≡ phase.Contend → d ≤ x.node.view.timer → x.wire ≡ []
contend_empty d x o r timed c t =
    nothing-left d x.wire o (AllAsOldAs-less d (x.node.view.timer - slack x.node.view.phase) x.wire (omega (arith, t, ap slack c)) (timed (ap is_timed c))) r.ages

-- ---- what is so of the node alone

-- ---- a node in a turn, whatever cables it has

pub watches-turn :
    (signals : List (ℕ × Signal)) (b : Option Bool) (x : NodeState) → HearsWell signals x →
    TicksWell b (hear_all signals x).state → HeedsReset x →
    HeedsReset (on_beat b (hear_all signals x).state).state
watches-turn signals b x h t w k c s =
    let on : is_connected (hear_all signals x).state.view.ports k ≡ true = sym (t.cables k) ∙ c in
    t.watches k on (h.watches w k on) (sym (t.shown k) ∙ s)

pub waits-turn :
    (d : ℕ) (signals : List (ℕ × Signal)) (b : Option Bool) (x : NodeState) → SuitsCables d x.timing →
    HearsWell signals x → TicksWell b (hear_all signals x).state → WaitsLong d x →
    WaitsLong d (on_beat b (hear_all signals x).state).state
waits-turn d signals b x r h t w c = go h.cases (t.contend c)
  where
    m : NodeState
    m = (hear_all signals x).state

    n : NodeState
    n = (on_beat b m).state

    range : SuitsCables d m.timing
    range = rw h.timing r

    go :
        NoEntry x (hear_all signals x) ⊎ EntersReset x (hear_all signals x) →
        ((m.view.phase ≡ phase.Contend) × (n.view.parent ≡ m.view.parent) × (n.view.timer ≤ m.view.timer + 1) × (n.view.wait ≡ m.view.wait))
        ⊎ ((n.view.timer ≡ 0) × ((n.view.wait ≡ m.timing.short) ⊎ (n.view.wait ≡ m.timing.long))) →
        2 * d < n.view.wait
    go (inl a) (inl z) = omega (arith, z.3, a.wait, w (sym a.phase ∙ z.0))
    go (inr a) (inl z) = absurd (start-contend m.view.phase (ap is_resetting a.phase) z.0)
    go o (inr z) = elim z.1 [ inl s ↦ omega (arith, s, range.short_least) | inr l ↦ omega (arith, l, range.long_least) ]
