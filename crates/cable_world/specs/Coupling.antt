-- What holds at the two ends of a cable while their nodes reset, agree on a tree and contend.
-- Because of it a child port always leads to a parent port.
use Rattle.std.specs.Prelude.{◌≡◌, ℕ, ◌-◌, ◌*◌, ◌<◌, ◌≤◌, Bool, true, false, ◌&&◌, ◌||◌, List, [], ◌∷◌, nat_lt, Some, slice_get}
use Rattle.port_state.specs.declared.signal.Level.{Level}
use Rattle.port_state.specs.declared.signal.Level.TheVariants as level
use Rattle.port_state.specs.declared.signal.Phase.TheVariants.{Contend}
use Rattle.port_state.specs.declared.states.NodeState.{NodeState}
use Rattle.port_state.specs.Ports.{PortNumber, is_parent, is_connected, is_port}
use Rattle.port_state.specs.Heard.{is_resetting}
use Rattle.port_state.specs.Machine.{PortNode}
use Rattle.cable_world.specs.Wire.{Travelling}
use Rattle.cable_world.specs.World.{CableWorld, NodeNumber, AtCables, wire_of}
use Rattle.cable_world.specs.Phases.{is_before_tree, is_after_hold, is_in_bus_reset, is_shaking, is_timed, slack}
use Rattle.cable_world.specs.Signals.{signals_of, AllAsOldAs, has_reset, shows_no_notice, has_no_notice, has_no_parent_signal, takes_back}
use Rattle.cable_world.specs.Agreement.{leads_down, level_shown, level_after_one}

-- where this level is shown before these signals: none that is younger takes a Parent back
abbrev pub NoneTakesBack : ℕ → Level → List Travelling → Type 0
NoneTakesBack young l [] = Unit {0}
NoneTakesBack young l (t ∷ ts) =
    (t.age < young → l ≡ level.Parent → takes_back t.signal ≡ false) ×
    NoneTakesBack young (level_after_one t.signal l) ts

-- ---- one end

-- in T1 or T2 with this parent port
abbrev pub is_asking : NodeState → PortNumber → Bool
is_asking x k = is_shaking x.view.phase && is_port x.view.parent k

-- in R0 for longer than a signal takes, or in R1 or T0
abbrev pub is_reset_known : ℕ → NodeState → Bool
is_reset_known d x =
    (is_resetting x.view.phase && nat_lt d x.view.timer) || is_after_hold x.view.phase

-- What is so of a node at one port of a cable, with the signals under way from there, and of the
-- node at the other port, with the signals back.
pub record Coupling
    (d : ℕ) (x : NodeState) (p : PortNumber) (there : List Travelling)
    (y : NodeState) (q : PortNumber) (back : List Travelling) : Type 0 where
  -- nothing younger than the timer is under way
  pub timed :
      is_timed x.view.phase ≡ true → AllAsOldAs (x.view.timer - slack x.view.phase) there
  -- a Reset is under way from a node in R0 alone
  pub reset : has_reset (signals_of there) ≡ true → is_resetting x.view.phase ≡ true
  -- once the reset is known, the other end is shown and sent nothing but Reset and Idle
  pub no_notice : is_reset_known d x ≡ true →
      (shows_no_notice (level_shown y q) ≡ true) × (has_no_notice (signals_of there) ≡ true)
  -- and the other node is before the tree too, or asks this one
  pub early : is_reset_known d x ≡ true → (is_before_tree y.view.phase || is_asking y q) ≡ true
  -- a child port leads to a parent port, unless a Reset comes from there, and no Parent is shown or
  -- sent
  pub child : leads_down x.view.ports p ≡ true → has_reset (signals_of back) ≡ false →
      (is_port y.view.parent q ≡ true) × (is_parent (level_shown y q) ≡ false) ×
      (has_no_parent_signal (signals_of there) ≡ true)
  -- in contention no young signal takes a Parent back
  pub contend : x.view.phase ≡ Contend → is_port x.view.parent p ≡ true →
      NoneTakesBack (x.view.timer - d) (level_shown x p) back

-- a port that shows Reset keeps its node in R0 or R1
abbrev pub HeedsReset : NodeState → Type 0
HeedsReset x =
    (k : PortNumber) → is_connected x.view.ports k ≡ true → level_shown x k ≡ level.Reset →
    is_in_bus_reset x.view.phase ≡ true

-- the wait of a contention is longer than a signal's way there and back
abbrev pub WaitsLong : ℕ → NodeState → Type 0
WaitsLong d x = x.view.phase ≡ Contend → 2 * d < x.view.wait

-- all nodes and all cables
pub record IsCoupled (w : CableWorld) : Type 0 where
  pub watches : (k : NodeNumber) (x : PortNode) → slice_get w.nodes k ≡ Some x → HeedsReset x.state
  pub waits :
      (k : NodeNumber) (x : PortNode) → slice_get w.nodes k ≡ Some x → WaitsLong w.delay x.state
  pub cables : AtCables w (λ a x b y.
      Coupling w.delay x a.port (wire_of w a).signals y b.port (wire_of w b).signals)
