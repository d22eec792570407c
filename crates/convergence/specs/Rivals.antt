-- What two nodes that have each other for parent, the rivals of a contention, know of each other's
-- coins.
use Rattle.std.specs.Prelude.{◌≡◌, ◌⊎◌, ℕ, ◌+◌, ◌-◌, ◌*◌, ◌<◌, ◌≤◌, true, false, List, None, Some, slice_get}
use Rattle.cabling.specs.declared.cable.End.{End}
use Rattle.cabling.specs.Wiring.{far}
use Rattle.port_state.specs.declared.signal.Level.TheVariants as level
use Rattle.port_state.specs.declared.signal.Phase.TheVariants.{ChildShake, Contend}
use Rattle.port_state.specs.declared.states.NodeState.{NodeState}
use Rattle.port_state.specs.Ports.{PortNumber, is_child, is_port}
use Rattle.port_state.specs.Clock.{Clock, TicksFor}
use Rattle.port_state.specs.Machine.{PortNode}
use Rattle.cable_world.specs.declared.wire.Travelling.{Travelling}
use Rattle.cable_world.specs.World.{CableWorld, wire_of}
use Rattle.cable_world.specs.Phases.{is_before_tree, is_shaking}
use Rattle.cable_world.specs.Signals.{signals_of, has_reset, AllAsOldAs}
use Rattle.cable_world.specs.Agreement.{level_shown, leads_down}
use Rattle.convergence.specs.Coins.{last_coin, AddsDraw, DrewTheSame, DrewTogether, KnowsCoins}

-- ---- how two rivals stand

-- x is in T3 and drew; y, in T1 or T2, hasn't drawn this coin yet
pub record IsAhead (x : NodeState) (p : PortNumber) (y : NodeState) : Type 0 where
  pub drew : AddsDraw y.view.draws y.view.first_draws x
  pub shown : level_shown x p ≡ level.Parent

-- x is in T3 and waits on; y drew too, its wait is over, and it asks again
pub record AsksAgain (d : ℕ) (x y : NodeState) (back : List Travelling) : Type 0 where
  pub drew : DrewTogether x y
  -- what x sent is heard
  pub long : d ≤ x.view.timer
  -- with unequal coins y drew the short wait, and x will see it ask: while that is under way, x
  -- waits on for so long
  pub coins :
      (last_coin x ≡ last_coin y)
      ⊎ ((last_coin x ≡ true) × (last_coin y ≡ false)
      × AllAsOldAs (x.view.timer + d + 1 - x.view.wait) back)

-- Two rivals are both in T1 or T2, and drew the same coins;
pub record AreAlike (x y : NodeState) : Type 0 where
  pub here : is_shaking x.view.phase ≡ true
  pub there : is_shaking y.view.phase ≡ true
  pub drew : DrewTheSame x y

-- The timer of x is less than d ahead of that of y; or by d, where the clock of y has missed a turn and
-- misses no other in this wait, for which its waits are shorter.
abbrev pub IsNear : ℕ → NodeState → NodeState → Clock → Type 0
IsNear d x y e =
    (x.view.timer + 1 ≤ y.view.timer + d)
    ⊎ ((x.view.timer ≤ y.view.timer + d) × TicksFor (y.view.wait - y.view.timer) e
    × (y.timing.short + 2 * d < x.timing.long))

-- or both are in T3, and their waits began less than d turns apart, or d where a clock missed one;
pub record HaveMet (d : ℕ) (x : NodeState) (c : Clock) (y : NodeState) (e : Clock) : Type 0 where
  pub here : x.view.phase ≡ Contend
  pub there : y.view.phase ≡ Contend
  pub drew : DrewTogether x y
  pub near : IsNear d x y e
  pub far : IsNear d y x c

-- or one is in T3.
pub record AreApart
    (d : ℕ) (x : NodeState) (p : PortNumber) (y : NodeState) (back : List Travelling)
    : Type 0 where
  pub here : x.view.phase ≡ Contend
  pub there : is_shaking y.view.phase ≡ true
  pub how : IsAhead x p y ⊎ AsksAgain d x y back

abbrev pub AreRivals :
    ℕ → NodeState → Clock → PortNumber → List Travelling →
    NodeState → Clock → PortNumber → List Travelling → Type 0
AreRivals d x c p there y e q back =
    AreAlike x y ⊎ (HaveMet d x c y e ⊎ (AreApart d x p y back ⊎ AreApart d y q x there))

-- ---- the end of a contention

-- who has a child that drew has no parent: it was that child's rival, and saw it ask again
pub record HasWon (x y : NodeState) : Type 0 where
  pub root : x.view.parent ≡ None
  pub drew : AddsDraw y.view.draws y.view.first_draws x ⊎ DrewTogether x y

-- a node below a child port isn't in T3; while it asks, the node above is in T1 and is shown that
pub record IsBelow (x : NodeState) (p : PortNumber) (y : NodeState) : Type 0 where
  pub calm : y.view.phase ≡ Contend → ⊥
  pub asks :
      is_shaking y.view.phase ≡ true →
      (x.view.phase ≡ ChildShake) × (level_shown x p ≡ level.Parent)

-- ---- all nodes and all cables

-- What is so of a node at one port of a cable, with the signals under way from there, and of the
-- node at the other port, with the signals back.
pub record Contests
    (d : ℕ) (x : NodeState) (c : Clock) (p : PortNumber) (there : List Travelling)
    (y : NodeState) (e : Clock) (q : PortNumber) (back : List Travelling)
    : Type 0 where
  -- Child is shown by child ports alone
  pub told :
      is_before_tree x.view.phase ≡ false → is_child (level_shown y q) ≡ true →
      leads_down x.view.ports p ≡ true
  -- where a node drew, the node at its parent port is past T0 too
  pub later :
      is_port x.view.parent p ≡ true → has_reset (signals_of back) ≡ false →
      1 ≤ x.view.draws → is_before_tree y.view.phase ≡ false
  pub rivals :
      is_port x.view.parent p ≡ true → is_port y.view.parent q ≡ true →
      AreRivals d x c p there y e q back
  -- and what is left of it when one has won
  pub won : leads_down x.view.ports p ≡ true → 1 ≤ y.view.draws → HasWon x y
  -- what a child does
  pub below :
      leads_down x.view.ports p ≡ true → has_reset (signals_of back) ≡ false → IsBelow x p y

-- one child of a node drew at most
abbrev pub HasOneRival : CableWorld → Type 0
HasOneRival w =
    (a b c e : End) (x y z : PortNode) → a.node ≡ c.node →
    far w.cabling a ≡ Some b → far w.cabling c ≡ Some e →
    slice_get w.nodes a.node ≡ Some x → slice_get w.nodes b.node ≡ Some y →
    slice_get w.nodes e.node ≡ Some z →
    leads_down x.state.view.ports a.port ≡ true → leads_down x.state.view.ports c.port ≡ true →
    1 ≤ y.state.view.draws → 1 ≤ z.state.view.draws → a.port ≡ c.port

pub record IsContested (w : CableWorld) : Type 0 where
  pub nodes :
      (k : ℕ) (x : PortNode) → slice_get w.nodes k ≡ Some x → KnowsCoins x.state
  pub cables :
      (a b : End) (x y : PortNode) → far w.cabling a ≡ Some b →
      slice_get w.nodes a.node ≡ Some x → slice_get w.nodes b.node ≡ Some y →
      Contests w.delay x.state x.clock a.port (wire_of w a).signals y.state y.clock b.port (wire_of w b).signals
  pub one_rival : HasOneRival w
